use Rattle.std.proofs.Common.{nat_eq}
use Rattle.indexmap.specs.IndexMap.{get}
use Rattle.std.proofs.Common.{drop}
use Rattle.tw_syntax.specs.Statements.{stmts_tree}
use Rattle.tw_resolve.specs.Resolved.{resolved_setting}
use Rattle.tw_frames.proofs.Finding.{LeftOf}
use Rattle.tw_frames.proofs.measuring.+measure.Given as goal

abbrev pub invariant-measure_stmts-loop-stmt : goal.invariant-measure_stmts-loop-stmt
invariant-measure_stmts-loop-stmt l =
    LeftOf (resolved_setting l.resolved) (get nat_eq l.known) l.own (stmts_tree l.stmts) (stmts_tree (drop l.stmt-index l.stmts)) l.total
