use Rattle.std.proofs.Common.{length, ◌-◌}
use Rattle.tower.proofs.Marking.{IsPassed}
use Rattle.tower.proofs.marks.split_at_mark.Given as goal

abbrev pub invariant-loop-place : goal.invariant-loop-place
invariant-loop-place l = IsPassed l.fn.bytes l.place l.begins

abbrev pub decreases-loop-place : goal.decreases-loop-place
decreases-loop-place l = length l.bytes - l.place
