use Rattle.std.proofs.Common.{◌≡◌, drop}
use Rattle.tw_check.specs.Walks.{set_of, put_back}
use Rattle.tw_check.proofs.name_set.NameSet.put_back.Given as goal

abbrev pub invariant-loop-name : goal.invariant-loop-name
invariant-loop-name l = put_back (drop l.name-index l.notes) (set_of l.self) ≡ put_back l.notes (set_of l.initial.self)
