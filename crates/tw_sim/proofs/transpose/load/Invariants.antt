use Rattle.std.proofs.Common.{◌-◌}
use Rattle.tw_sim.proofs.Blocks.{AreLoaded}
use Rattle.tw_sim.proofs.transpose.load.Given as goal

abbrev pub invariant-loop-place : goal.invariant-loop-place
invariant-loop-place l = AreLoaded l.text l.rest l.words l.place

abbrev pub decreases-loop-place : goal.decreases-loop-place
decreases-loop-place l = 64 - l.place
