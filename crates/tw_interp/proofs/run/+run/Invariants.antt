use Rattle.std.proofs.Common.{◌+◌, ◌*◌, ◌≤◌, length, drop, take, true, false}
use Rattle.tw_state.specs.Depth.{IsWithin}
use Rattle.tw_interp.specs.Machines.{activation_of, setting_of, state_in}
use Rattle.tw_interp.specs.Numbered.{AreNumbered}
use Rattle.tw_interp.specs.NumberedTrees.{steps_tree}
use Rattle.tw_interp.proofs.Leading.{Loops}
use Rattle.tw_interp.proofs.run.+run.Given as goal

abbrev pub decreases-run_forward : goal.decreases-run_forward
decreases-run_forward l = 5 * l.left + 4

abbrev pub decreases-run_backward : goal.decreases-run_backward
decreases-run_backward l = 5 * l.left + 4

abbrev pub decreases-run_step : goal.decreases-run_step
decreases-run_step l = 5 * l.left + 3

abbrev pub decreases-run_if : goal.decreases-run_if
decreases-run_if l = 5 * l.left + 1

abbrev pub decreases-run_with : goal.decreases-run_with
decreases-run_with l = 5 * l.left + 1

abbrev pub decreases-run_block : goal.decreases-run_block
decreases-run_block l = 5 * l.left

abbrev pub invariant-run_forward-loop-step : goal.invariant-run_forward-loop-step
invariant-run_forward-loop-step l =
    AreNumbered (setting_of l.act) l.act.fun l.steps
    → IsWithin (setting_of l.act) l.left (activation_of l.act).bound (steps_tree l.steps)
    → Loops (setting_of l.act) (activation_of l.act) l.left true (steps_tree l.steps) (steps_tree (drop l.step-index l.steps)) (state_in l.act l.fn.machine) (state_in l.act l.machine)

abbrev pub invariant-run_backward-loop-i : goal.invariant-run_backward-loop-i
invariant-run_backward-loop-i l =
    (l.i ≤ length l.steps)
    × (AreNumbered (setting_of l.act) l.act.fun l.steps
    → IsWithin (setting_of l.act) l.left (activation_of l.act).bound (steps_tree l.steps)
    → Loops (setting_of l.act) (activation_of l.act) l.left false (steps_tree l.steps) (steps_tree (take l.i l.steps)) (state_in l.act l.fn.machine) (state_in l.act l.machine))

abbrev pub decreases-run_backward-loop-i : goal.decreases-run_backward-loop-i
decreases-run_backward-loop-i l = l.i

abbrev pub decreases-run_let : goal.decreases-run_let
decreases-run_let l = 5 * l.left + 2

abbrev pub decreases-run_call : goal.decreases-run_call
decreases-run_call l = 5 * l.left + 1
