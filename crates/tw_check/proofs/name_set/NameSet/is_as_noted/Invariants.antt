use Rattle.std.proofs.Common.{◌≡◌, drop}
use Rattle.tw_check.specs.Walks.{set_of, is_as_noted}
use Rattle.tw_check.proofs.name_set.NameSet.is_as_noted.Given as goal

abbrev pub invariant-loop-name : goal.invariant-loop-name
invariant-loop-name l = is_as_noted (drop l.name-index l.notes) (set_of l.self) ≡ is_as_noted l.notes (set_of l.self)
