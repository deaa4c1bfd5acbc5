use Rattle.std.proofs.Common.{nat_eq}
use Rattle.indexmap.specs.IndexMap.{get}
use Rattle.tw_resolve.specs.Resolved.{resolved_setting}
use Rattle.tw_frames.specs.MeasureTable.{AreMarkedFrom, AreKnown}
use Rattle.tw_frames.proofs.measuring.measure_pairs.Given as goal

abbrev pub invariant-loop-pair : goal.invariant-loop-pair
invariant-loop-pair l =
    AreMarkedFrom (resolved_setting l.checked.resolved) 0 l.marks → AreKnown (resolved_setting l.checked.resolved) l.marks l.pair (get nat_eq l.known)
