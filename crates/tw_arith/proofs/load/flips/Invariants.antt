use Rattle.std.proofs.Common.{◌≡◌, ◌+◌, ◌++◌, map, drop}
use Rattle.tw_code.specs.Trees.{code_tree}
use Rattle.tw_arith.specs.Circuits.{flips}
use Rattle.tw_arith.proofs.load.flips.Given as goal

abbrev pub invariant-loop-bit : goal.invariant-loop-bit
invariant-loop-bit l = record {
  wire : l.wire ≡ l.to + l.bit-index;
  built : map code_tree l.parts.items ++ flips l.wire (drop l.bit-index l.bits) ≡ flips l.to l.bits;
}
