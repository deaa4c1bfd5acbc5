use Rattle.std.proofs.Common.{◌∙◌, sym, ap, arith, map, ◌-◌, Some, option_map}
use Rattle.tw_state.specs.FreeCells.{link_of}
use Rattle.tw_state.specs.FromCode.{cell_of}
use Rattle.std.proofs.lemmas.Option.{slice_get-map, slice_get-get_or}
use Rattle.tw_state.proofs.FreeChains.{cell_at_block}
use Rattle.tw_state.proofs.free_cells.link.Goals as goal

pub returns : goal.returns
returns c =
    let cells = c.args.cells.now in
    let block = c.args.block in
    let found = slice_get-get_or cells (block - 1) c.index-cells-block.result (omega (arith, c.if-block-eq0.false, c.if-block-cells.false)) in
    c.cell_link.ensures
    ∙ ap link_of
    (ap (λ cell. Some (cell_of cell)) c.index-cells-block.is
    ∙ sym (ap (option_map cell_of) found)
    ∙ sym (slice_get-map cell_of cells (block - 1))
    ∙ sym (cell_at_block (map cell_of cells) block (omega (arith, c.if-block-eq0.false))))
