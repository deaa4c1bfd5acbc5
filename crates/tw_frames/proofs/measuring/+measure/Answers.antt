use Rattle.std.proofs.Common.{nat_eq}
use Rattle.indexmap.specs.IndexMap.{get}
use Rattle.tw_syntax.proofs.Shapes.{block_is, with_is, if_is, else_is}
use Rattle.tw_resolve.specs.Resolved.{resolved_setting}
use Rattle.tw_syntax.specs.Statements.{stmts_tree}
use Rattle.tw_frames.proofs.Finding.{found_if, found_with, found_block, found_else, left_next, left_done}
use Rattle.tw_frames.proofs.measuring.+measure.Goals as goal

pub measure_stmts-loop-stmt-preserved : goal.measure_stmts-loop-stmt-preserved
measure_stmts-loop-stmt-preserved t c =
    left_next (resolved_setting c.args.resolved.now) (get nat_eq c.args.known.now) c.args.own (stmts_tree c.args.stmts.now) c.args.stmts.now c.loop-stmt.stmt-index _ c.loop-stmt-test.true
    c.loop-stmt.invariant c.measure_stmt.ensures c.then-total.ensures

pub measure_else-returns-in-Some : goal.measure_else-returns-in-Some
measure_else-returns-in-Some t c = rw (else_is _ c.in-Some.other c.in-Some.is) (found_else (resolved_setting c.args.resolved.now) (get nat_eq c.args.known.now) c.args.own c.measure_stmts.ensures)

pub measure_stmt-returns-in-If : goal.measure_stmt-returns-in-If
measure_stmt-returns-in-If t c =
    rw (if_is c.args.stmt.now c.in-If.cond c.in-If.yes c.in-If.no c.in-If.is)
    (found_if (resolved_setting c.args.resolved.now) (get nat_eq c.args.known.now) c.args.own c.measure_stmts-first.ensures c.measure_else-other.ensures c.then.ensures c.enclosed.ensures c.under_if.ensures c.one_more.ensures)

pub measure_stmt-returns-in-With : goal.measure_stmt-returns-in-With
measure_stmt-returns-in-With t c =
    rw (with_is c.args.stmt.now c.in-With.setup c.in-With.work c.in-With.is)
    (found_with (resolved_setting c.args.resolved.now) (get nat_eq c.args.known.now) c.args.own c.measure_stmts-before.ensures c.measure_stmts-inner.ensures c.then-in-With.ensures c.then-in-With-2.ensures c.enclosed-in-With.ensures c.one_more-in-With.ensures)

pub measure_stmt-returns-in-Block : goal.measure_stmt-returns-in-Block
measure_stmt-returns-in-Block t c =
    rw (block_is c.args.stmt.now c.in-Block.body c.in-Block.is)
    (found_block (resolved_setting c.args.resolved.now) (get nat_eq c.args.known.now) c.args.own c.measure_stmts.ensures c.enclosed-in-Block.ensures c.one_more-in-Block.ensures)

pub measure_stmts-returns : goal.measure_stmts-returns
measure_stmts-returns t c =
    left_done (resolved_setting c.args.resolved.now) (get nat_eq c.args.known.now) c.args.own (stmts_tree c.args.stmts.now) c.args.stmts.now c.loop-stmt.stmt-index c.loop-stmt.total c.loop-stmt-test.false c.loop-stmt.invariant
