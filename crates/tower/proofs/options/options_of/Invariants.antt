use Rattle.std.proofs.Common.{◌≤◌, ◌-◌, length, drop}
use Rattle.tower.specs.Given.{AreGiven}
use Rattle.tower.proofs.options.options_of.Given as goal

abbrev pub invariant-loop-place : goal.invariant-loop-place
invariant-loop-place l = AreGiven (drop 1 l.words) (drop l.place l.words) l.given.values × (l.place ≤ length l.words)

abbrev pub decreases-loop-place : goal.decreases-loop-place
decreases-loop-place l = length l.words - l.place
