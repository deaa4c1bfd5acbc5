use Rattle.std.proofs.Common.{◌∙◌, ap, Some}
use Rattle.std.proofs.lemmas.Option.{slice_get-get_or}
use Rattle.tw_resolve.specs.Resolved.{resolved_setting}
use Rattle.tw_frames.proofs.Marking.{marks_here, marks_nothing_here}
use Rattle.tw_frames.proofs.marks.mark_from.Goals as goal

pub returns-then-marks-pair-clause-marked : goal.returns-then-marks-pair-clause-marked
returns-then-marks-pair-clause-marked c =
    marks_here (resolved_setting c.args.resolved.now) c.args.pair 0 c.mark_pair.ensures.more c.mark_pair.ensures.marked c.requires

pub returns-else-marks-pair-clause-marked : goal.returns-else-marks-pair-clause-marked
returns-else-marks-pair-clause-marked c =
    marks_nothing_here (resolved_setting c.args.resolved.now) c.args.pair 0 c.args.marks.now (slice_get-get_or c.args.marks.now c.args.pair _ c.requires ∙ ap Some c.if-marks-pair.false)
