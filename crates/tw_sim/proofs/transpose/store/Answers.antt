use Rattle.std.proofs.Common.{append_assoc}
use Rattle.tw_sim.proofs.Blocks.{bit_lines-lanes_more}
use Rattle.tw_sim.proofs.transpose.store.Goals as goal

pub loop-place-preserved : goal.loop-place-preserved
loop-place-preserved c = rw (c.in_ok-store_lane.ensures, c.loop-place.invariant, bit_lines-lanes_more, append_assoc)
