use Rattle.std.proofs.Common.{◌≡◌, ◌+◌, ◌-◌, ◌++◌, map}
use Rattle.tw_code.specs.Trees.{code_tree}
use Rattle.tw_arith.specs.Circuits.{copies}
use Rattle.tw_arith.proofs.load.copies.Given as goal

abbrev pub invariant-loop-i : goal.invariant-loop-i
invariant-loop-i l = map code_tree l.parts.items ++ copies (l.from + l.i) (l.to + l.i) (l.count - l.i) ≡ copies l.from l.to l.count
