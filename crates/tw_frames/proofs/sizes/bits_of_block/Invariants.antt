use Rattle.std.proofs.Common.{drop}
use Rattle.tw_types.specs.Types.{block_size}
use Rattle.tw_frames.proofs.Counting.{LeftMax}
use Rattle.tw_frames.proofs.sizes.bits_of_block.Given as goal

abbrev pub invariant-loop-number : goal.invariant-loop-number
invariant-loop-number l = LeftMax (block_size l.widths l.targets) (block_size l.widths (drop l.number l.targets)) l.most
