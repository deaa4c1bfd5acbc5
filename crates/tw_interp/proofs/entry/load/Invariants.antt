use Rattle.std.proofs.Common.{◌≡◌, ◌≤◌, List, length, map, drop}
use Rattle.std.specs.List.{AllByRecursion}
use Rattle.tw_types.specs.FromCode.{value_of}
use Rattle.tw_state.specs.Listed as listed
use Rattle.tw_state.specs.States.{Name}
use Rattle.tw_interp.specs.Frames.{store_of}
use Rattle.tw_interp.specs.Numbered.{IsTarget, listed_names, listed_vars}
use Rattle.tw_interp.proofs.entry.load.Given as goal

abbrev pub invariant-loop-i : goal.invariant-loop-i
invariant-loop-i l =
    (l.i ≤ length l.values)
    × ((names : List Name) → AllByRecursion (IsTarget names) (listed_vars l.body) → length l.values ≤ length (listed_vars l.body)
    → store_of names l.frame ≡ listed.store_of (drop l.i (listed_names l.body)) (map value_of (drop l.i l.values)))

abbrev pub decreases-loop-i : goal.decreases-loop-i
decreases-loop-i l = l.i
