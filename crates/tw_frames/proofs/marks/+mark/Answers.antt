use Rattle.tw_syntax.proofs.Shapes.{block_is, with_is, if_is, else_is}
use Rattle.tw_frames.proofs.Marking.{marks_with, marks_if, marks_block, marks_else, marks_next}
use Rattle.tw_resolve.specs.Resolved.{resolved_setting}
use Rattle.tw_frames.proofs.marks.+mark.Goals as goal

pub mark_else-returns-in-Some : goal.mark_else-returns-in-Some
mark_else-returns-in-Some t c = rw (else_is _ c.in-Some.other c.in-Some.is) (marks_else (resolved_setting c.args.resolved.now) c.args.pair c.args.own c.mark_stmts.ensures)

pub mark_stmt-returns-in-If : goal.mark_stmt-returns-in-If
mark_stmt-returns-in-If t c =
    rw (if_is c.args.stmt.now c.in-If.cond c.in-If.yes c.in-If.no c.in-If.is) (marks_if (resolved_setting c.args.resolved.now) c.args.pair c.args.own c.mark_stmts.ensures c.mark_else.ensures)

pub mark_stmt-returns-in-With : goal.mark_stmt-returns-in-With
mark_stmt-returns-in-With t c =
    rw (with_is c.args.stmt.now c.in-With.setup c.in-With.work c.in-With.is) (marks_with (resolved_setting c.args.resolved.now) c.args.pair c.args.own c.mark_stmts-in-With.ensures c.mark_stmts-in-With-2.ensures)

pub mark_stmt-returns-in-Block : goal.mark_stmt-returns-in-Block
mark_stmt-returns-in-Block t c = rw (block_is c.args.stmt.now c.in-Block.body c.in-Block.is) (marks_block (resolved_setting c.args.resolved.now) c.args.pair c.args.own c.mark_stmts-in-Block.ensures)

pub mark_stmts-loop-stmt-preserved : goal.mark_stmts-loop-stmt-preserved
mark_stmts-loop-stmt-preserved t c =
    λ new rest.
    c.loop-stmt.invariant new
    (marks_next (resolved_setting c.args.resolved.now) c.args.pair c.args.own c.args.stmts.now c.loop-stmt.stmt-index _ c.loop-stmt-test.true c.mark_stmt.ensures rest)
