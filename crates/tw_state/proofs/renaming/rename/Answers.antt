use Rattle.std.proofs.Common.{◌∙◌, sym, ap, subst, map, length}
use Rattle.std.proofs.lemmas.List.{length-map}
use Rattle.tw_types.specs.FromCode.{value_of}
use Rattle.tw_state.specs.FromCode.{cell_of, listed_of}
use Rattle.tw_state.specs.Renaming.{renamed_value}
use Rattle.tw_state.specs.Renamings.{ArePlaced, IsPermutation, renumbered}
use Rattle.tw_state.proofs.Permutations.{are_renamed}
use Rattle.tw_state.proofs.renaming.rename.Goals as goal

pub returns : goal.returns
returns c =
    let perm = c.args.perm.now in
    let state = c.args.state.now in
    are_renamed perm (listed_of state) c.renumbered.result _ _
    (subst (λ n. IsPermutation n perm) (sym (length-map state.cells.items cell_of)) c.requires) c.renumbered.ensures
    (subst (λ n. ArePlaced perm (map cell_of state.cells.items) n (map cell_of c.in_ok-renamed_cells.field-0.items)) (sym (length-map state.cells.items cell_of))
    (subst (λ cells. ArePlaced perm (map cell_of cells) (length cells) (map cell_of c.in_ok-renamed_cells.field-0.items)) c.deref.ensures.value c.in_ok-renamed_cells.ensures))
    (c.in_ok-renamed_values.ensures ∙ ap (λ values. map (renamed_value (renumbered perm)) (map value_of values)) c.deref-2.ensures.value)
