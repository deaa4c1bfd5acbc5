use Rattle.std.proofs.Common.{◌∙◌, ap, sym, subst, map}
use Rattle.std.specs.List.{AllByRecursion}
use Rattle.tw_syntax.specs.Names.{name_tree}
use Rattle.tw_syntax.specs.Programs.{FunTree}
use Rattle.tw_resolve.specs.Resolved.{resolved_setting}
use Rattle.tw_state.proofs.Basics.{same_some}
use Rattle.tw_interp.specs.Numbered.{AreKnown, IsKnown, numbered_names}
use Rattle.tw_interp.proofs.KnownNames.{names_known}
use Rattle.tw_interp.proofs.Numbers.{known_target}
use Rattle.tw_interp.proofs.runner.body_of.Goals as goal

pub returns : goal.returns
returns c = λ fun there.
    let resolved = c.args.program.now in
    let names = numbered_names (resolved_setting resolved) c.args.number in
    let same = same_some c.fun_at-fun.ensures there in
    let known = names_known resolved c.args.number fun there in
    record {
      params = c.in_ok-params.ensures.tree ∙ ap (λ (f : FunTree). map (λ param. param.name) f.params) same;
      returned = c.var-returned.ensures.tree ∙ ap (λ (f : FunTree). f.returned) same;
      steps = c.in_ok-steps.ensures.tree ∙ ap (λ (f : FunTree). f.body) same;
      are_params = c.in_ok-params.ensures.number (subst (λ (f : FunTree). AllByRecursion (IsKnown names) (map (λ param. param.name.text) f.params)) (sym same) known.0);
      is_returned = known_target names c.var-returned.result (name_tree c.fun_at-fun.result.now.returned) c.var-returned.ensures.tree c.var-returned.ensures.number (subst (λ (f : FunTree). IsKnown names f.returned.text) (sym same) known.1);
      are_numbered = c.in_ok-steps.ensures.number (subst (λ (f : FunTree). AreKnown names f.body) (sym same) known.2);
      different = c.var-returned.ensures.different;
    }
