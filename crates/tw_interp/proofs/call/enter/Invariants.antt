use Rattle.std.proofs.Common.{◌≡◌, ◌≤◌, List, length, drop}
use Rattle.std.specs.List.{AllByRecursion}
use Rattle.tw_state.specs.States.{Name}
use Rattle.tw_state.specs.Steps.{seen}
use Rattle.tw_interp.specs.Frames.{store_of}
use Rattle.tw_interp.specs.Numbered.{IsTarget, shared_vars}
use Rattle.tw_interp.proofs.call.enter.Given as goal

abbrev pub invariant-loop-i : goal.invariant-loop-i
invariant-loop-i l =
    (l.i ≤ length l.params)
    × (l.i ≤ length l.args)
    × ((names inner : List Name) → AllByRecursion (IsTarget inner) l.params → AllByRecursion (IsTarget names) l.args
    → store_of inner l.frame ≡ seen (shared_vars (drop l.i l.params) (drop l.i l.args)) (store_of names l.caller))

abbrev pub decreases-loop-i : goal.decreases-loop-i
decreases-loop-i l = l.i
