use Rattle.tw_resolve.specs.Tables.{setting_in}
use Rattle.tw_resolve.proofs.TargetTypes.{AreFirst}
use Rattle.tw_resolve.proofs.target_types.target_types.Given as goal

abbrev pub invariant-loop-number : goal.invariant-loop-number
invariant-loop-number l = AreFirst (setting_in l.tables) (setting_in l.tables).scope.targets l.number l.targets
