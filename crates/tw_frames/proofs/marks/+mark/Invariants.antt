use Rattle.std.proofs.Common.{Bool, List, drop}
use Rattle.tw_syntax.specs.Statements.{stmts_tree}
use Rattle.tw_resolve.specs.Resolved.{resolved_setting}
use Rattle.tw_frames.specs.MeasureTable.{MarksCalls}
use Rattle.tw_frames.proofs.marks.+mark.Given as goal

abbrev pub invariant-mark_stmts-loop-stmt : goal.invariant-mark_stmts-loop-stmt
invariant-mark_stmts-loop-stmt l =
    (new : List Bool) → MarksCalls (resolved_setting l.resolved) l.pair l.own (stmts_tree (drop l.stmt-index l.stmts)) l.marks new
    → MarksCalls (resolved_setting l.resolved) l.pair l.own (stmts_tree l.stmts) l.fn.marks new
