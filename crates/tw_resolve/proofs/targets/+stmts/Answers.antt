use Rattle.tw_syntax.proofs.Shapes.{block_is, with_is, if_is, else_is}
use Rattle.tw_resolve.proofs.Collecting.{collects_then_ok}
use Rattle.tw_resolve.proofs.targets.+stmts.Goals as goal

pub add_else-returns-in-Some : goal.add_else-returns-in-Some
add_else-returns-in-Some t c = rw (else_is _ c.in-Some.other c.in-Some.is) c.add_stmts.ensures

pub add_stmt-returns-in_ok-add_stmts-in-If : goal.add_stmt-returns-in_ok-add_stmts-in-If
add_stmt-returns-in_ok-add_stmts-in-If t c =
    rw (if_is c.args.stmt.now c.in-If.cond c.in-If.yes c.in-If.no c.in-If.is) (collects_then_ok _ _ c.add_else.result c.in_ok-add_stmts-in-If.ensures c.add_else.ensures)

pub add_stmt-returns-in_ok-add_stmts-in-With : goal.add_stmt-returns-in_ok-add_stmts-in-With
add_stmt-returns-in_ok-add_stmts-in-With t c =
    rw (with_is c.args.stmt.now c.in-With.setup c.in-With.work c.in-With.is) (collects_then_ok _ _ c.add_stmts-in-With-2.result c.in_ok-add_stmts-in-With.ensures c.add_stmts-in-With-2.ensures)

pub add_stmt-returns-in-Block : goal.add_stmt-returns-in-Block
add_stmt-returns-in-Block t c = rw (block_is c.args.stmt.now c.in-Block.body c.in-Block.is) c.add_stmts-in-Block.ensures
