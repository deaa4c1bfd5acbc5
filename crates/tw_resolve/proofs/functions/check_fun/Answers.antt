use Rattle.std.proofs.Common.{◌∙◌, ap}
use Rattle.tw_syntax.specs.Programs.{fun_tree}
use Rattle.tw_syntax.specs.Statements.{stmts_tree}
use Rattle.tw_resolve.specs.Expressions.{Variables}
use Rattle.tw_resolve.specs.Statements.{variables_after}
use Rattle.tw_resolve.specs.Programs.{return_rules}
use Rattle.tw_resolve.specs.Tables.{setting_in}
use Rattle.tw_resolve.proofs.Trying.{stopped, stopped_alone, then_tried, both_tried, tries_at}
use Rattle.tw_resolve.proofs.functions.check_fun.Goals as goal

pub returns-in_err-variables-clause-tried : goal.returns-in_err-variables-clause-tried
returns-in_err-variables-clause-tried c = stopped _ _ _ _ c.in_err-variables.ensures.tried c.from_residual.ensures.1

pub returns-in_err-check_written-clause-tried : goal.returns-in_err-check_written-clause-tried
returns-in_err-check_written-clause-tried c =
    then_tried _ _ _ _ c.in_ok-variables.ensures.tried
    (stopped _ _ _ _ c.in_err-check_written.ensures c.from_residual-in_err-check_written.ensures.1)

pub returns-in_err-check_stmts-clause-tried : goal.returns-in_err-check_stmts-clause-tried
returns-in_err-check_stmts-clause-tried c =
    then_tried _ _ _ _ c.in_ok-variables.ensures.tried
    (then_tried _ _ _ _ c.in_ok-check_written.ensures
    (stopped _ _ _ _ (rw c.in_ok-variables.ensures.after at c.in_err-check_stmts.ensures.tried) c.from_residual-in_err-check_stmts.ensures.1))

pub returns-in_err-check_return-clause-tried : goal.returns-in_err-check_return-clause-tried
returns-in_err-check_return-clause-tried c =
    let setting = setting_in c.args.tables.now in
    let ends = c.in_ok-check_stmts.ensures.after
    ∙ ap (λ (v : Variables). variables_after setting v (stmts_tree c.args.fun.now.body.now)) c.in_ok-variables.ensures.after in
    then_tried _ _ _ _ c.in_ok-variables.ensures.tried
    (then_tried _ _ _ _ c.in_ok-check_written.ensures
    (then_tried _ _ _ _ (rw c.in_ok-variables.ensures.after at c.in_ok-check_stmts.ensures.tried)
    (stopped_alone _ _ _ (tries_at (return_rules setting (fun_tree c.args.fun.now)) _ _ _ ends c.in_err-check_return.ensures)
    c.from_residual-in_err-check_return.ensures.1)))

pub returns-clause-tried : goal.returns-clause-tried
returns-clause-tried c =
    let setting = setting_in c.args.tables.now in
    let ends = c.in_ok-check_stmts.ensures.after
    ∙ ap (λ (v : Variables). variables_after setting v (stmts_tree c.args.fun.now.body.now)) c.in_ok-variables.ensures.after in
    both_tried _ _ _ c.in_ok-check_return.field-0 _ c.in_ok-variables.ensures.tried
    (both_tried _ _ _ c.in_ok-check_return.field-0 _ c.in_ok-check_written.ensures
    (both_tried _ _ _ _ _ (rw c.in_ok-variables.ensures.after at c.in_ok-check_stmts.ensures.tried)
    (tries_at (return_rules setting (fun_tree c.args.fun.now)) _ _ _ ends c.in_ok-check_return.ensures)))

pub returns-clause-after : goal.returns-clause-after
returns-clause-after c =
    c.in_ok-check_stmts.ensures.after
    ∙ ap (λ (v : Variables). variables_after (setting_in c.args.tables.now) v (stmts_tree c.args.fun.now.body.now)) c.in_ok-variables.ensures.after
