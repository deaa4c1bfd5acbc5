use Rattle.std.proofs.Common.{◌≡◌, ◌++◌, drop}
use Rattle.tw_check.specs.Walks.{set_of, noted}
use Rattle.tw_check.proofs.name_set.NameSet.note.Given as goal

abbrev pub invariant-loop-name : goal.invariant-loop-name
invariant-loop-name l = l.notes.items ++ noted (set_of l.self) (drop l.name-index l.names) ≡ noted (set_of l.self) l.names
