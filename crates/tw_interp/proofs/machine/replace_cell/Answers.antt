use Rattle.std.proofs.Common.{◌∙◌, ◌-◌, ap, sym, arith, Some, slice_set}
use Rattle.std.proofs.lemmas.Option.{slice_get-get_or}
use Rattle.tw_interp.specs.Machines.{cells_of}
use Rattle.tw_interp.proofs.Cells.{cell_there, cell_past, cell_written}
use Rattle.tw_interp.proofs.machine.replace_cell.Goals as goal

pub returns-then-place-len-clause-old : goal.returns-then-place-len-clause-old
returns-then-place-len-clause-old c =
    cell_there c.args.cells.now.items c.args.block c.replace.result c.if-block-eq0.false
    (slice_get-get_or c.args.cells.now.items (c.args.block - 1) c.index_mut.result.now (omega (arith, c.if-place-len.true, c.len.ensures)) ∙ ap Some (sym c.index_mut.ensures.value ∙ sym c.replace.ensures.value))

pub returns-then-place-len-clause-new : goal.returns-then-place-len-clause-new
returns-then-place-len-clause-new c =
    ap (λ cell. cells_of (slice_set c.args.cells.now.items (c.args.block - 1) cell)) c.replace.ensures.after
    ∙ cell_written c.args.cells.now.items c.args.block c.args.cell c.if-block-eq0.false

pub returns-else-place-len-clause-old : goal.returns-else-place-len-clause-old
returns-else-place-len-clause-old c =
    cell_past c.args.cells.now.items c.args.block c.if-block-eq0.false (omega (arith, c.if-place-len.false, c.len.ensures))
