use Rattle.std.proofs.Common.{◌≡◌, ◌≤◌, ℕ, length, drop, take, true, false}
use Rattle.tw_resolve.specs.Setting.{Setting}
use Rattle.tw_check.specs.Liveness.{live_after}
use Rattle.tw_check.specs.Names.{Names}
use Rattle.tw_interp.specs.Frames.{changed}
use Rattle.tw_interp.specs.Numbered.{AreNumbered, numbered_names}
use Rattle.tw_interp.specs.NumberedTrees.{steps_tree}
use Rattle.tw_interp.proofs.changes.+changes.Given as goal

abbrev pub invariant-note_forward-loop-step : goal.invariant-note_forward-loop-step
invariant-note_forward-loop-step l =
    (setting : Setting) (fun : ℕ) (live : Names) → AreNumbered setting fun l.steps
    → live_after true (steps_tree (drop l.step-index l.steps)) (changed (numbered_names setting fun) l.changes live)
    ≡ live_after true (steps_tree l.steps) (changed (numbered_names setting fun) l.fn.changes live)

abbrev pub invariant-note_backward-loop-i : goal.invariant-note_backward-loop-i
invariant-note_backward-loop-i l =
    (l.i ≤ length l.steps)
    × ((setting : Setting) (fun : ℕ) (live : Names) → AreNumbered setting fun l.steps
    → live_after false (steps_tree (take l.i l.steps)) (changed (numbered_names setting fun) l.changes live)
    ≡ live_after false (steps_tree l.steps) (changed (numbered_names setting fun) l.fn.changes live))

abbrev pub decreases-note_backward-loop-i : goal.decreases-note_backward-loop-i
decreases-note_backward-loop-i l = l.i
