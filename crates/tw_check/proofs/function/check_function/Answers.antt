use Rattle.std.proofs.Common.{◌∙◌, ap, subst, refl, true, ◌∷◌, [], ◌++◌}
use Rattle.tw_text.specs.declared.refusal.Rule.TheVariants as rule
use Rattle.tw_resolve.specs.Demands.{demand, Tries}
use Rattle.tw_syntax.specs.Programs.{fun_tree}
use Rattle.tw_check.specs.Liveness.{names_of, param_names}
use Rattle.tw_check.specs.Names.{Names, with_name, agree_on}
use Rattle.tw_check.specs.Rules.{fun_rules}
use Rattle.tw_check.specs.Walks.{texts_of, set_of, now_of}
use Rattle.tw_check.proofs.Functions.{begins, fun_stopped_body, fun_stopped_result, fun_tries}
use Rattle.tw_check.proofs.Notes.{noted_agree}
use Rattle.tw_check.proofs.Walking.{tries_stopped}
use Rattle.tw_check.proofs.function.check_function.Goals as goal

pub returns-in_err-check_stmts : goal.returns-in_err-check_stmts
returns-in_err-check_stmts c =
    let fun = fun_tree c.args.fun.now in
    let e = c.in_err-check_stmts.field-0.0 in
    tries_stopped (fun_rules fun) c.from_residual-in_err-check_stmts.result e c.from_residual-in_err-check_stmts.ensures.1
    (fun_stopped_body fun (now_of c.new-walk.result) _ (begins fun (set_of c.in_ok-param_set.field-0) (now_of c.new-walk.result) c.new-walk.ensures c.in_ok-param_set.ensures) refl e c.in_err-check_stmts.ensures.tried.reported)

pub returns-in_err-need_live : goal.returns-in_err-need_live
returns-in_err-need_live c =
    let fun = fun_tree c.args.fun.now in
    let e = c.in_err-need_live.field-0.0 in
    tries_stopped (fun_rules fun) c.from_residual-in_err-need_live.result e c.from_residual-in_err-need_live.ensures.1
    (fun_stopped_result fun (now_of c.new-walk.result) (now_of c.check_stmts.new.walk) (begins fun (set_of c.in_ok-param_set.field-0) (now_of c.new-walk.result) c.new-walk.ensures c.in_ok-param_set.ensures) c.in_ok-check_stmts.ensures.passed e c.in_ok-check_stmts.ensures.tried.kept c.in_err-need_live.ensures.reported)

pub returns : goal.returns
returns c =
    let fun = fun_tree c.args.fun.now in
    let end = now_of c.check_stmts.new.walk in
    let names = fun.returned.text ∷ (param_names fun ++ names_of fun.body) in
    let ends = set_of c.set.new.self in
    let are_noted = noted_agree c.deref-2.result.now c.deref.result.now names end.live ends (c.deref-2.ensures.value ∙ c.in_ok-left.ensures) (ap texts_of c.deref.ensures.value ∙ c.in_ok-names.ensures) in
    let to_ends = c.in_ok-set.ensures ∙ ap (λ (live : Names). with_name live fun.returned.text true) c.in_ok-ends.ensures in
    let test = c.is_as_noted.ensures ∙ are_noted ∙ ap (agree_on names end.live) to_ends in
    fun_tries fun (now_of c.new-walk.result) end (begins fun (set_of c.in_ok-param_set.field-0) (now_of c.new-walk.result) c.new-walk.ensures c.in_ok-param_set.ensures) c.in_ok-check_stmts.ensures.passed c.need.result c.in_ok-check_stmts.ensures.tried.kept c.in_ok-need_live.ensures.kept
    (subst (λ holds. Tries (demand rule.Left fun.return_at holds ∷ []) c.need.result) test c.need.ensures)
