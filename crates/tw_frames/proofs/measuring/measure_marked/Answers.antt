use Rattle.std.proofs.Common.{◌∙◌, ap, arith, Some, nat_eq}
use Rattle.std.proofs.lemmas.Option.{slice_get-get_or}
use Rattle.indexmap.specs.IndexMap.{get}
use Rattle.tw_resolve.specs.Resolved.{resolved_setting}
use Rattle.tw_frames.proofs.Descending.{accepted_descends}
use Rattle.tw_frames.proofs.Knowing.{known_next, known_unmarked}
use Rattle.tw_frames.proofs.measuring.measure_marked.Goals as goal

pub returns-in_ok-insert : goal.returns-in_ok-insert
returns-in_ok-insert c =
    known_next (resolved_setting c.args.checked.now.resolved) (accepted_descends c.args.checked.now) c.args.marks.now (get nat_eq c.args.known.now) (get nat_eq c.insert.new.self) c.args.pair c.measure_pair-found.result
    (grind (arith, c.ranges.pair.fits)) c.in_ok-insert.ensures.updates.0 c.measure_pair-found.ensures

pub returns-else-marks-pair : goal.returns-else-marks-pair
returns-else-marks-pair c =
    λ closed.
    known_unmarked (resolved_setting c.args.checked.now.resolved) (accepted_descends c.args.checked.now) c.args.marks.now (get nat_eq c.args.known.now) c.args.pair
    (slice_get-get_or c.args.marks.now c.args.pair _ c.requires ∙ ap Some c.if-marks-pair.false)
