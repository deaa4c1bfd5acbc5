use Rattle.std.proofs.Common.{◌≡◌, ◌++◌}
use Rattle.tw_sim.specs.BitLines.{bit_lines}
use Rattle.tw_sim.specs.Lanes.{lanes}
use Rattle.tw_sim.proofs.transpose.store.Given as goal

abbrev pub invariant-loop-place : goal.invariant-loop-place
invariant-loop-place l = l.text.items ≡ l.initial.text.items ++ bit_lines (lanes l.place l.words)
