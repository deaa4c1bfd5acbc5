use Rattle.std.proofs.Common.{drop, map}
use Rattle.tw_syntax.specs.Programs.{param_tree}
use Rattle.tw_print.specs.Progress.{Goes}
use Rattle.tw_print.specs.Programs.{more_params_print}
use Rattle.tw_print.specs.declared.progress.Progress.{Progress}
use Rattle.tw_print.proofs.programs.print_more_params.Given as goal

abbrev pub invariant-loop-param : goal.invariant-loop-param
invariant-loop-param g l =
    (c : g.row.K.Denot) (r : Progress) → Goes g.K.Sink.taken g.K.Sink.faults l.sink c l.progress r (more_params_print (map param_tree (drop l.param-index l.params)))
    → Goes g.K.Sink.taken g.K.Sink.faults l.fn.sink c l.fn.progress r (more_params_print (map param_tree l.params))
