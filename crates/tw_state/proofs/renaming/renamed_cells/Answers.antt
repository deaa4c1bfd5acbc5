use Rattle.std.proofs.Common.{◌∙◌, sym, ap, subst, map, option_map, Some}
use Rattle.std.proofs.lemmas.List.{length-map, map-set}
use Rattle.std.proofs.lemmas.Option.{slice_get-map, slice_get-get_or}
use Rattle.tw_state.specs.FromCode.{cell_of}
use Rattle.tw_state.specs.Renamings.{ArePlaced}
use Rattle.tw_state.proofs.Permutations.{one_more_placed}
use Rattle.tw_state.proofs.renaming.renamed_cells.Goals as goal

pub loop-place-preserved : goal.loop-place-preserved
loop-place-preserved c =
    let cells = c.args.cells.now in
    let perm = c.args.perm.now in
    let place = c.loop-place.place in
    let put = c.in_ok-cell.cell in
    subst (ArePlaced perm (map cell_of cells) _) (sym (map-set cell_of c.loop-place.new.items _ put))
    (one_more_placed c.requires (map cell_of cells) (map cell_of c.loop-place.new.items) place (cell_of c.index-cells-place.result) (cell_of put)
    (length-map cells cell_of) c.loop-place-test.true
    (slice_get-map cell_of cells place ∙ ap (option_map cell_of) (slice_get-get_or cells place c.index-cells-place.result c.loop-place-test.true ∙ ap Some (sym c.index-cells-place.is)))
    c.in_ok-cell.ensures c.loop-place.invariant)
