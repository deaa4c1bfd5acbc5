use Rattle.std.proofs.Common.{drop, map}
use Rattle.tw_syntax.specs.Programs.{decl_tree}
use Rattle.tw_print.specs.Progress.{Goes}
use Rattle.tw_print.specs.Programs.{decls_print}
use Rattle.tw_print.specs.declared.progress.Progress.{Progress}
use Rattle.tw_print.proofs.programs.print_decls.Given as goal

abbrev pub invariant-loop-decl : goal.invariant-loop-decl
invariant-loop-decl g l =
    (c : g.row.K.Denot) (r : Progress) → Goes g.K.Sink.taken g.K.Sink.faults l.sink c l.progress r (decls_print (map decl_tree (drop l.decl-index l.decls)))
    → Goes g.K.Sink.taken g.K.Sink.faults l.fn.sink c l.fn.progress r (decls_print (map decl_tree l.decls))
