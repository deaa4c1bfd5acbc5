use Rattle.std.proofs.Common.{◌≡◌, map, take}
use Rattle.tw_types.specs.FromCode.{value_of}
use Rattle.tw_state.specs.Renaming.{renamed_value}
use Rattle.tw_state.specs.Renamings.{renumbered}
use Rattle.tw_state.proofs.renaming.renamed_values.Given as goal

abbrev pub invariant-loop-val : goal.invariant-loop-val
invariant-loop-val l = map value_of l.new.items ≡ map (λ val. renamed_value (renumbered l.perm) (value_of val)) (take l.val-index l.values)
