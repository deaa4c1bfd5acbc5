use Rattle.std.proofs.Common.{◌≡◌, ◌≤◌, List, length, drop}
use Rattle.std.specs.List.{AllByRecursion}
use Rattle.tw_state.specs.States.{Name}
use Rattle.tw_state.specs.Steps.{put_back}
use Rattle.tw_interp.specs.Frames.{store_of}
use Rattle.tw_interp.specs.Numbered.{IsTarget, shared_vars}
use Rattle.tw_interp.proofs.call.leave.Given as goal

abbrev pub invariant-loop-i : goal.invariant-loop-i
invariant-loop-i l =
    (l.i ≤ length l.params)
    × (l.i ≤ length l.args)
    × ((names inner : List Name) → AllByRecursion (IsTarget inner) l.params → AllByRecursion (IsTarget names) l.args
    → store_of names l.caller ≡ put_back (shared_vars (drop l.i l.params) (drop l.i l.args)) (store_of inner l.callee) (store_of names l.initial.caller))

abbrev pub decreases-loop-i : goal.decreases-loop-i
decreases-loop-i l = l.i
