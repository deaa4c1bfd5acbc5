use Rattle.std.proofs.Common.{◌∙◌, sym, ap, map}
use Rattle.std.proofs.lemmas.List.{take_all}
use Rattle.std.proofs.lemmas.Simd.{map-map}
use Rattle.tw_types.specs.FromCode.{value_of}
use Rattle.tw_state.specs.Renaming.{renamed_value}
use Rattle.tw_state.specs.Renamings.{renumbered}
use Rattle.tw_state.proofs.renaming.renamed_values.Goals as goal

pub returns : goal.returns
returns c =
    let values = c.args.values.now in
    let perm = c.args.perm.now in
    c.loop-val.invariant
    ∙ ap (map (λ val. renamed_value (renumbered perm) (value_of val))) (take_all c.loop-val.val-index values c.loop-val-test.false)
    ∙ sym (map-map (renamed_value (renumbered perm)) value_of values)
