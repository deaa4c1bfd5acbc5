use Rattle.std.proofs.Common.{◌∙◌, suc, sym, ap, arith, Some, option_map, map}
use Rattle.std.proofs.Math.ListN.{drop_of_length-le}
use Rattle.std.proofs.lemmas.Option.{slice_get-map, slice_get-get_or}
use Rattle.std.proofs.lemmas.Result.{err_from_is_err_and}
use Rattle.tw_state.specs.FromCode.{cell_of}
use Rattle.tw_state.specs.StateText.{HasTarget, cell_lines}
use Rattle.tw_state.proofs.Blocks.{get_all}
use Rattle.tw_state.proofs.Writing.{part_then, part_broke, all_written, cells_from}
use Rattle.tw_state.proofs.printing.write_cells.Goals as goal

pub write_cell-requires : goal.write_cell-requires
write_cell-requires g c =
    let cells = c.args.cells.now in
    let i = c.loop-place.place in
    let found = slice_get-get_or cells i c.index-cells-place.result c.loop-place-test.true ∙ ap Some (sym c.index-cells-place.is) in
    record { target = get_all (HasTarget c.args.targets.now) (map cell_of cells) i (cell_of c.index-cells-place.result) c.requires.targets (slice_get-map cell_of cells i ∙ ap (option_map cell_of) found) }

pub returns-in_err-write_cell : goal.returns-in_err-write_cell
returns-in_err-write_cell g c =
    let p = err_from_is_err_and c.from_residual.result c.from_residual.ensures.1 in
    let cells = c.args.cells.now in
    let i = c.loop-place.place in
    let found = slice_get-get_or cells i c.index-cells-place.result c.loop-place-test.true ∙ ap Some (sym c.index-cells-place.is) in
    record { wrote = rw (p.1, p.2) (c.loop-place.invariant _ _ (part_broke _ _ _ _ _ _ _ _ (cells_from c.args.targets.now cells i c.index-cells-place.result found) c.in_err-write_cell.ensures.wrote)) }

pub loop-place-preserved : goal.loop-place-preserved
loop-place-preserved g c =
    let cells = c.args.cells.now in
    let i = c.loop-place.place in
    let found = slice_get-get_or cells i c.index-cells-place.result c.loop-place-test.true ∙ ap Some (sym c.index-cells-place.is) in
    λ s r later. c.loop-place.invariant s r (part_then _ _ _ _ _ _ _ _ _ (cells_from c.args.targets.now cells i c.index-cells-place.result found) c.in_ok-write_cell.ensures.wrote later)

pub returns : goal.returns
returns g c =
    let none = drop_of_length-le c.args.cells.now (omega (arith, c.loop-place-test.false)) in
    record { wrote = c.loop-place.invariant _ _ (all_written _ _ _ _ (ap (λ cs. cell_lines c.args.targets.now (suc c.loop-place.place) (map cell_of cs)) none)) }
