use Rattle.std.proofs.Common.{drop, map}
use Rattle.tw_syntax.specs.Names.{name_tree}
use Rattle.tw_print.specs.Progress.{Goes}
use Rattle.tw_print.specs.Terms.{more_names_print}
use Rattle.tw_print.specs.declared.progress.Progress.{Progress}
use Rattle.tw_print.proofs.terms.print_more_names.Given as goal

abbrev pub invariant-loop-name : goal.invariant-loop-name
invariant-loop-name g l =
    (c : g.row.K.Denot) (r : Progress) → Goes g.K.Sink.taken g.K.Sink.faults l.sink c l.progress r (more_names_print (map name_tree (drop l.name-index l.names)))
    → Goes g.K.Sink.taken g.K.Sink.faults l.fn.sink c l.fn.progress r (more_names_print (map name_tree l.names))
