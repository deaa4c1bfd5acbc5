use Rattle.tw_resolve.specs.Resolved.{resolved_setting}
use Rattle.tw_frames.proofs.Depths.{entry_within_limit}
use Rattle.tw_frames.proofs.Descending.{accepted_descends}
use Rattle.tw_frames.proofs.OneMeasure.{one_measure}
use Rattle.tw_frames.proofs.WithinLimits.{measure_exact}
use Rattle.tw_frames.proofs.measuring.measure.Goals as goal

pub returns-in_err-found-clause-one : goal.returns-in_err-found-clause-one
returns-in_err-found-clause-one c = one_measure (resolved_setting c.args.checked.now.resolved) (accepted_descends c.args.checked.now) c.args.entry c.requires.fun c.requires.at

pub returns-in_err-need_limits-clause-one : goal.returns-in_err-need_limits-clause-one
returns-in_err-need_limits-clause-one c = one_measure (resolved_setting c.args.checked.now.resolved) (accepted_descends c.args.checked.now) c.args.entry c.requires.fun c.requires.at

pub returns-clause-measured : goal.returns-clause-measured
returns-clause-measured c =
    measure_exact (resolved_setting c.args.checked.now.resolved) c.args.entry c.in_ok-found.found c.in_ok-found.ensures
    (one_measure (resolved_setting c.args.checked.now.resolved) (accepted_descends c.args.checked.now) c.args.entry c.requires.fun c.requires.at) c.in_ok-need_limits.ensures.kept

pub returns-clause-within : goal.returns-clause-within
returns-clause-within c =
    let setting = resolved_setting c.args.checked.now.resolved in
    let one = one_measure setting (accepted_descends c.args.checked.now) c.args.entry c.requires.fun c.requires.at in
    let none = c.in_ok-need_limits.ensures.kept in
    entry_within_limit setting c.args.entry c.in_ok-found.found (measure_exact setting c.args.entry c.in_ok-found.found c.in_ok-found.ensures one none) none

pub returns-clause-one : goal.returns-clause-one
returns-clause-one c = one_measure (resolved_setting c.args.checked.now.resolved) (accepted_descends c.args.checked.now) c.args.entry c.requires.fun c.requires.at
