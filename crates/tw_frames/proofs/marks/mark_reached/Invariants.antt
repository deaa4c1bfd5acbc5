use Rattle.std.proofs.Common.{◌≤◌, length}
use Rattle.tw_resolve.specs.Resolved.{resolved_setting}
use Rattle.tw_frames.specs.MeasureTable.{MarksMore, AreMarkedFrom}
use Rattle.tw_frames.proofs.marks.mark_reached.Given as goal

abbrev pub invariant-loop-pair : goal.invariant-loop-pair
invariant-loop-pair l =
    (l.pair ≤ length l.marks) × MarksMore (length l.fn.marks) l.fn.marks l.marks × AreMarkedFrom (resolved_setting l.resolved) l.pair l.marks

abbrev pub decreases-loop-pair : goal.decreases-loop-pair
decreases-loop-pair l = l.pair
