use Rattle.std.proofs.lemmas.List.{at_drop_more, at_drop_all}
use Rattle.tw_syntax.proofs.Shapes.{block_is, with_is, if_is, else_is}
use Rattle.tw_syntax.specs.Statements.{stmts_tree}
use Rattle.tw_lower.specs.Lowering.{IsBuilt}
use Rattle.tw_lower.proofs.Building.{all_left, both_decided, first_fails, none_left, one_fails, one_less, stmts_left}
use Rattle.tw_lower.proofs.built.+built.Goals as goal

pub are_built-loop-stmt-init : goal.are_built-loop-stmt-init
are_built-loop-stmt-init t c = all_left (IsBuilt (stmts_tree c.args.stmts.now))

pub are_built-loop-stmt-preserved : goal.are_built-loop-stmt-preserved
are_built-loop-stmt-preserved t c =
    one_less c.is_built_stmt.ensures (stmts_left c.loop-stmt.invariant (at_drop_more stmts_tree c.args.stmts.now c.loop-stmt.stmt-index _ c.loop-stmt-test.true)) c.if-not-is_built_stmt.false

pub are_built-returns-then-not-is_built_stmt : goal.are_built-returns-then-not-is_built_stmt
are_built-returns-then-not-is_built_stmt t c =
    one_fails c.is_built_stmt.ensures (stmts_left c.loop-stmt.invariant (at_drop_more stmts_tree c.args.stmts.now c.loop-stmt.stmt-index _ c.loop-stmt-test.true)) c.if-not-is_built_stmt.true

pub are_built-returns : goal.are_built-returns
are_built-returns t c = none_left (stmts_left c.loop-stmt.invariant (at_drop_all stmts_tree c.args.stmts.now c.loop-stmt.stmt-index c.loop-stmt-test.false))

pub is_built_else-returns-in-Some : goal.is_built_else-returns-in-Some
is_built_else-returns-in-Some t c = rw (else_is _ c.in-Some.other c.in-Some.is) c.are_built.ensures

pub is_built_stmt-returns-then-are_built : goal.is_built_stmt-returns-then-are_built
is_built_stmt-returns-then-are_built t c =
    rw (if_is c.args.stmt.now c.in-If.cond c.in-If.yes c.in-If.no c.in-If.is) (both_decided c.are_built.ensures c.if-are_built.true c.is_built_else.ensures)

pub is_built_stmt-returns-else-are_built : goal.is_built_stmt-returns-else-are_built
is_built_stmt-returns-else-are_built t c =
    rw (if_is c.args.stmt.now c.in-If.cond c.in-If.yes c.in-If.no c.in-If.is) (first_fails c.are_built.ensures c.if-are_built.false)

pub is_built_stmt-returns-then-are_built-2 : goal.is_built_stmt-returns-then-are_built-2
is_built_stmt-returns-then-are_built-2 t c =
    rw (with_is c.args.stmt.now c.in-With.setup c.in-With.work c.in-With.is) (both_decided c.are_built-in-With.ensures c.if-are_built-2.true c.are_built-then-are_built-2.ensures)

pub is_built_stmt-returns-else-are_built-2 : goal.is_built_stmt-returns-else-are_built-2
is_built_stmt-returns-else-are_built-2 t c =
    rw (with_is c.args.stmt.now c.in-With.setup c.in-With.work c.in-With.is) (first_fails c.are_built-in-With.ensures c.if-are_built-2.false)

pub is_built_stmt-returns-in-Block : goal.is_built_stmt-returns-in-Block
is_built_stmt-returns-in-Block t c = rw (block_is c.args.stmt.now c.in-Block.body c.in-Block.is) c.are_built-in-Block.ensures
