use Rattle.std.proofs.Common.{drop}
use Rattle.tw_syntax.specs.Statements.{stmts_tree}
use Rattle.tw_print.specs.Progress.{Goes}
use Rattle.tw_print.specs.Programs.{stmt_print}
use Rattle.tw_print.specs.declared.progress.Progress.{Progress}
use Rattle.tw_print.proofs.statements.+stmt.Given as goal

abbrev pub invariant-print_stmts-loop-stmt : goal.invariant-print_stmts-loop-stmt
invariant-print_stmts-loop-stmt g l =
    (c : g.row.K.Denot) (r : Progress) → Goes g.K.Sink.taken g.K.Sink.faults l.sink c l.progress r (stmt_print l.fn.depth (stmts_tree (drop l.stmt-index l.stmts)))
    → Goes g.K.Sink.taken g.K.Sink.faults l.fn.sink c l.fn.progress r (stmt_print l.fn.depth (stmts_tree l.stmts))
