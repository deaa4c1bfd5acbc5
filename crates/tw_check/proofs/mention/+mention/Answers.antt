use Rattle.std.proofs.Common.{[], ◌∷◌, ◌++◌}
use Rattle.tw_syntax.specs.Statements.{stmts_tree, else_tree}
use Rattle.tw_syntax.proofs.Shapes.{block_is, with_is, if_is, else_is}
use Rattle.tw_check.specs.Liveness.{names_of}
use Rattle.tw_check.proofs.Lists.{appended_then, texts_of-appended, appended_variables}
use Rattle.tw_check.proofs.mention.+mention.Goals as goal

pub push_of_else-returns-in-Some : goal.push_of_else-returns-in-Some
push_of_else-returns-in-Some t c = rw (else_is c.args.no.now c.in-Some.other c.in-Some.is) c.push_mentioned.ensures

pub push_of_stmt-returns-in_ok-push-in-Let : goal.push_of_stmt-returns-in_ok-push-in-Let
push_of_stmt-returns-in_ok-push-in-Let t c = rw (c.in-Let.is) (appended_variables _ c.args.names.now.items c.push.new.self.items _ c.in-Let.target _ c.in_ok-push-in-Let.ensures.items c.push_variables.ensures)

pub push_of_stmt-returns-in_ok-push_mentioned-in-If : goal.push_of_stmt-returns-in_ok-push_mentioned-in-If
push_of_stmt-returns-in_ok-push_mentioned-in-If t c =
    rw (if_is c.args.stmt.now c.in-If.cond c.in-If.yes c.in-If.no c.in-If.is)
    (appended_then _ _ _ _ (c.in-If.cond.root.text.now ∷ []) (names_of (stmts_tree c.in-If.yes.now) ++ names_of (else_tree c.in-If.no))
    (texts_of-appended c.args.names.now.items c.push-in-If.new.self.items c.in-If.cond.root c.in_ok-push-in-If.ensures.items)
    (appended_then _ _ _ _ (names_of (stmts_tree c.in-If.yes.now)) (names_of (else_tree c.in-If.no)) c.in_ok-push_mentioned-in-If.ensures c.push_of_else.ensures))

pub push_of_stmt-returns-in_ok-push_mentioned-in-With : goal.push_of_stmt-returns-in_ok-push_mentioned-in-With
push_of_stmt-returns-in_ok-push_mentioned-in-With t c =
    rw (with_is c.args.stmt.now c.in-With.setup c.in-With.work c.in-With.is)
    (appended_then _ _ _ _ (names_of (stmts_tree c.in-With.setup.now)) (names_of (stmts_tree c.in-With.work.now)) c.in_ok-push_mentioned-in-With.ensures c.push_mentioned-in-With-2.ensures)

pub push_of_stmt-returns-in-Block : goal.push_of_stmt-returns-in-Block
push_of_stmt-returns-in-Block t c = rw (block_is c.args.stmt.now c.in-Block.body c.in-Block.is) c.push_mentioned-in-Block.ensures
