use Rattle.std.proofs.Common.{drop}
use Rattle.tw_state.specs.Results.{directed}
use Rattle.tw_interp.specs.Frames.{changed_slots, names_at}
use Rattle.tw_interp.specs.Machines.{activation_of, names_of, setting_of, state_in}
use Rattle.tw_interp.specs.Numbered.{AreNumbered}
use Rattle.tw_interp.specs.NumberedTrees.{steps_tree}
use Rattle.tw_interp.proofs.Padding.{Pending}
use Rattle.tw_interp.proofs.pad.pad.Given as goal

abbrev pub invariant-loop-place : goal.invariant-loop-place
invariant-loop-place l =
    AreNumbered (setting_of l.act) l.act.fun l.steps
    → Pending (activation_of l.act).types (directed l.forward (steps_tree l.steps)) l.at (state_in l.act l.initial.machine) (state_in l.act l.machine) (names_at (names_of l.act) (drop l.place (changed_slots l.changes)))
