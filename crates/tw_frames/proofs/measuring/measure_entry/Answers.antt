use Rattle.std.proofs.Common.{◌∙◌, sym, subst, length, List, Bool, nat_eq}
use Rattle.indexmap.specs.IndexMap.{get}
use Rattle.tw_resolve.specs.Resolved.{resolved_setting}
use Rattle.tw_frames.specs.MeasureTable.{AreMarkedFrom, AreKnown}
use Rattle.tw_frames.proofs.Descending.{accepted_descends}
use Rattle.tw_frames.proofs.Knowing.{entry_found}
use Rattle.tw_frames.proofs.measuring.measure_entry.Goals as goal

pub returns : goal.returns
returns c =
    entry_found (resolved_setting c.args.checked.now.resolved) (accepted_descends c.args.checked.now) c.in_ok-marks.marks.items (get nat_eq c.in_ok-known.known) c.args.entry c.in-Some.own c.in-Some-pair_number.last c.known_at.result
    c.in_ok-marks.ensures.reached
    (subst (λ (marks : List Bool). AreMarkedFrom (resolved_setting c.args.checked.now.resolved) 0 marks → AreKnown (resolved_setting c.args.checked.now.resolved) marks (length marks) (get nat_eq c.in_ok-known.known))
    c.deref.ensures.value c.in_ok-known.ensures)
    (sym c.running_bound.ensures.number ∙ c.in-Some.is) c.in-Some.ensures.small c.in-Some-pair_number.ensures.some c.in_ok-marks.ensures.len c.in_ok-marks.ensures.last c.known_at.ensures
