use Rattle.std.proofs.Common.{◌≡◌, ◌≤◌, drop, max}
use Rattle.tw_types.specs.Types.{block_size}
use Rattle.tw_state.proofs.encoding.block_bits.Given as goal

abbrev pub invariant-loop-number : goal.invariant-loop-number
invariant-loop-number l = record {
  rest : max l.most (block_size l.widths (drop l.number l.targets)) ≡ block_size l.widths l.targets;
  least : l.widths.addr ≤ l.most;
}
