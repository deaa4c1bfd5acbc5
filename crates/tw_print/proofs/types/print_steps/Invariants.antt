use Rattle.std.proofs.Common.{drop}
use Rattle.tw_print.specs.Progress.{Goes}
use Rattle.tw_print.specs.Terms.{steps_print}
use Rattle.tw_print.specs.declared.progress.Progress.{Progress}
use Rattle.tw_print.proofs.types.print_steps.Given as goal

abbrev pub invariant-loop-step : goal.invariant-loop-step
invariant-loop-step g l =
    (c : g.row.K.Denot) (r : Progress) → Goes g.K.Sink.taken g.K.Sink.faults l.sink c l.progress r (steps_print (drop l.step-index l.steps)) → Goes g.K.Sink.taken g.K.Sink.faults l.fn.sink c l.fn.progress r (steps_print l.steps)
