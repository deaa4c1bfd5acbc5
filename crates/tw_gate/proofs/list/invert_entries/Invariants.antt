use Rattle.std.proofs.Common.{◌≡◌, ◌++◌, map, take, drop}
use Rattle.tw_gate.specs.Entries.{inverse_entry}
use Rattle.tw_gate.proofs.list.invert_entries.Given as goal

abbrev pub invariant-loop-entry : goal.invariant-loop-entry
invariant-loop-entry l = take l.entry-index l.entries ++ map inverse_entry (drop l.entry-index l.entries) ≡ map inverse_entry l.initial.entries
