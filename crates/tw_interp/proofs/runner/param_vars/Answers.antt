use Rattle.std.proofs.Common.{◌∙◌, ap, sym, subst, arith, List, map}
use Rattle.std.proofs.lemmas.List.{take_all}
use Rattle.std.specs.List.{AllByRecursion}
use Rattle.tw_syntax.specs.declared.program.Param.{Param}
use Rattle.tw_syntax.specs.Programs.{param_tree}
use Rattle.tw_resolve.specs.Resolved.{resolved_setting}
use Rattle.tw_interp.specs.declared.variable.Var.{Var}
use Rattle.tw_interp.specs.Numbered.{IsKnown, IsTarget, numbered_names}
use Rattle.tw_interp.proofs.Loading.{param_texts}
use Rattle.tw_interp.proofs.Numbers.{known_targets}
use Rattle.tw_interp.proofs.runner.param_vars.Goals as goal

pub returns-clause-number : goal.returns-clause-number
returns-clause-number c = λ known.
    let names = numbered_names (resolved_setting c.args.numbering.now.program.now) c.args.numbering.now.fun in
    let params = c.args.params.now in
    subst (λ (vars : List Var). AllByRecursion (IsTarget names) vars) (sym c.into_bump_slice.ensures)
    (known_targets names c.loop-param.vars.items (map (λ param. param.name) (map param_tree params))
    (c.loop-param.invariant.0 ∙ ap (λ (ps : List Param). map (λ param. param.name) (map param_tree ps)) (take_all c.loop-param.param-index params (omega (arith, c.loop-param-test.false)))) c.loop-param.invariant.1
    (subst (AllByRecursion (IsKnown names)) (sym (param_texts (map param_tree params))) known))
