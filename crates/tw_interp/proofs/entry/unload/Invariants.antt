use Rattle.std.proofs.Common.{◌≡◌, ◌≤◌, List, length, map, take}
use Rattle.std.specs.List.{AllByRecursion}
use Rattle.tw_types.specs.FromCode.{value_of}
use Rattle.tw_types.specs.Values.{Value}
use Rattle.tw_state.specs.Listed as listed
use Rattle.tw_state.specs.States.{Name}
use Rattle.tw_state.proofs.Calls.{AreDifferent}
use Rattle.tw_interp.specs.Frames.{store_of}
use Rattle.tw_interp.specs.Numbered.{IsTarget, listed_names, listed_vars}
use Rattle.tw_interp.proofs.entry.unload.Given as goal

abbrev pub invariant-loop-i : goal.invariant-loop-i
invariant-loop-i l =
    (names : List Name) (values : List Value) → AllByRecursion (IsTarget names) (listed_vars l.body) → AreDifferent (listed_names l.body) → l.count ≤ length (listed_vars l.body) → length values ≡ l.count
    → store_of names l.frame ≡ listed.store_of (listed_names l.body) values → map value_of l.values.items ≡ take l.i values
