use Rattle.std.proofs.Common.{◌∙◌, drop}
use Rattle.tw_syntax.specs.Names.{path_tree}
use Rattle.tw_syntax.specs.Programs.{fun_tree}
use Rattle.tw_syntax.specs.Statements.{stmts_tree, else_tree}
use Rattle.tw_syntax.proofs.Shapes.{block_is, with_is, if_is, else_is}
use Rattle.tw_resolve.specs.Tables.{setting_in}
use Rattle.tw_resolve.specs.Variables.{variables_in}
use Rattle.tw_resolve.proofs.Walking.{checks_at, checks_from, with_stopped, with_checked, if_then, next_stopped, next_kept, next_after}
use Rattle.tw_resolve.proofs.statements.+check_stmt.Goals as goal

pub check_else-returns-in-Some : goal.check_else-returns-in-Some
check_else-returns-in-Some t c = checks_at (setting_in c.args.tables.now) c.args.caller.number (fun_tree c.args.caller.fun.now) _ _ _ _ _ (else_is _ c.in-Some.no c.in-Some.is) c.check_stmts.ensures

pub check_stmt-returns-in-Block : goal.check_stmt-returns-in-Block
check_stmt-returns-in-Block t c = checks_at (setting_in c.args.tables.now) c.args.caller.number (fun_tree c.args.caller.fun.now) _ _ _ _ _ (block_is _ c.in-Block.body c.in-Block.is) c.check_stmts-in-Block.ensures

pub check_stmt-returns-in_err-check_stmts-in-With : goal.check_stmt-returns-in_err-check_stmts-in-With
check_stmt-returns-in_err-check_stmts-in-With t c =
    checks_at (setting_in c.args.tables.now) c.args.caller.number (fun_tree c.args.caller.fun.now) _ _ _ _ _ (with_is _ c.in-With.setup c.in-With.work c.in-With.is)
    (with_stopped (setting_in c.args.tables.now) c.args.caller.number (fun_tree c.args.caller.fun.now) c.args.stmt.now.at (stmts_tree c.in-With.setup.now) (stmts_tree c.in-With.work.now) _ _ _ _ _ c.in_err-check_stmts-in-With.ensures
    c.from_residual-in_err-check_stmts-in-With.ensures.1)

pub check_stmt-returns-in_ok-check_stmts-in-With : goal.check_stmt-returns-in_ok-check_stmts-in-With
check_stmt-returns-in_ok-check_stmts-in-With t c =
    checks_at (setting_in c.args.tables.now) c.args.caller.number (fun_tree c.args.caller.fun.now) _ _ _ _ _ (with_is _ c.in-With.setup c.in-With.work c.in-With.is)
    (with_checked (setting_in c.args.tables.now) c.args.caller.number (fun_tree c.args.caller.fun.now) c.args.stmt.now.at (stmts_tree c.in-With.setup.now) (stmts_tree c.in-With.work.now) _ _ _ _ _ c.in_ok-check_stmts-in-With.ensures
    c.check_stmts-in-With-2.ensures)

pub check_stmt-returns-in_err-check_stmts-in-If : goal.check_stmt-returns-in_err-check_stmts-in-If
check_stmt-returns-in_err-check_stmts-in-If t c =
    checks_at (setting_in c.args.tables.now) c.args.caller.number (fun_tree c.args.caller.fun.now) _ _ _ _ _ (if_is _ c.in-If.cond c.in-If.yes c.in-If.no c.in-If.is)
    (if_then (setting_in c.args.tables.now) c.args.caller.number (fun_tree c.args.caller.fun.now) c.args.stmt.now.at (path_tree c.in-If.cond) (stmts_tree c.in-If.yes.now) (else_tree c.in-If.no) _ _ _ _ c.in_ok-check_path-in-If.ensures
    (with_stopped (setting_in c.args.tables.now) c.args.caller.number (fun_tree c.args.caller.fun.now) c.args.stmt.now.at (stmts_tree c.in-If.yes.now) (else_tree c.in-If.no) _ _ _ _ _ c.in_err-check_stmts-in-If.ensures
    c.from_residual-in_err-check_stmts-in-If.ensures.1))

pub check_stmt-returns-in_ok-check_stmts-in-If : goal.check_stmt-returns-in_ok-check_stmts-in-If
check_stmt-returns-in_ok-check_stmts-in-If t c =
    checks_at (setting_in c.args.tables.now) c.args.caller.number (fun_tree c.args.caller.fun.now) _ _ _ _ _ (if_is _ c.in-If.cond c.in-If.yes c.in-If.no c.in-If.is)
    (if_then (setting_in c.args.tables.now) c.args.caller.number (fun_tree c.args.caller.fun.now) c.args.stmt.now.at (path_tree c.in-If.cond) (stmts_tree c.in-If.yes.now) (else_tree c.in-If.no) _ _ _ _ c.in_ok-check_path-in-If.ensures
    (with_checked (setting_in c.args.tables.now) c.args.caller.number (fun_tree c.args.caller.fun.now) c.args.stmt.now.at (stmts_tree c.in-If.yes.now) (else_tree c.in-If.no) _ _ _ _ _ c.in_ok-check_stmts-in-If.ensures c.check_else.ensures))

pub check_stmts-returns-in_err-check_stmt : goal.check_stmts-returns-in_err-check_stmt
check_stmts-returns-in_err-check_stmt t c =
    checks_from (setting_in c.args.tables.now) c.args.caller.number (fun_tree c.args.caller.fun.now)
    (stmts_tree c.args.stmts.now) (stmts_tree (drop c.loop-i.i c.args.stmts.now)) (variables_in c.args.variables.now.table.entries)
    (variables_in c.loop-i.variables.table.entries) _ _ c.loop-i.invariant.demands c.loop-i.invariant.after
    (next_stopped (setting_in c.args.tables.now) c.args.caller.number (fun_tree c.args.caller.fun.now) c.args.stmts.now c.loop-i.i _ c.loop-i-test.true
    _ _ _ _ _ c.in_err-check_stmt.ensures c.from_residual.ensures.1)

pub check_stmts-loop-i-preserved : goal.check_stmts-loop-i-preserved
check_stmts-loop-i-preserved t c = record {
  demands = c.loop-i.invariant.demands
      ∙ next_kept (setting_in c.args.tables.now) c.args.caller.number (fun_tree c.args.caller.fun.now) c.args.stmts.now c.loop-i.i _ c.loop-i-test.true
      _ _ _ c.in_ok-check_stmt.ensures;
  after = c.loop-i.invariant.after
      ∙ next_after (setting_in c.args.tables.now) c.args.caller.number (fun_tree c.args.caller.fun.now) c.args.stmts.now c.loop-i.i _ c.loop-i-test.true
      _ _ _ c.in_ok-check_stmt.ensures;
}
