use Rattle.std.proofs.Common.{◌∙◌, ap, sym, subst, arith, List, map}
use Rattle.std.proofs.lemmas.List.{take_all}
use Rattle.std.specs.List.{AllByRecursion}
use Rattle.tw_syntax.specs.declared.name.Name.{Name}
use Rattle.tw_syntax.specs.Names.{name_tree}
use Rattle.tw_resolve.specs.Resolved.{resolved_setting}
use Rattle.tw_interp.specs.declared.variable.Var.{Var}
use Rattle.tw_interp.specs.Numbered.{IsTarget, numbered_names}
use Rattle.tw_interp.proofs.Numbers.{known_targets}
use Rattle.tw_interp.proofs.numbering.Numbering.vars.Goals as goal

pub returns-clause-number : goal.returns-clause-number
returns-clause-number c = λ known.
    let names = numbered_names (resolved_setting c.args.self.now.program.now) c.args.self.now.fun in
    subst (λ (vars : List Var). AllByRecursion (IsTarget names) vars) (sym c.into_bump_slice.ensures)
    (known_targets names c.loop-name.vars.items (map name_tree c.args.names.now)
    (c.loop-name.invariant.0 ∙ ap (λ (ns : List Name). map name_tree ns) (take_all c.loop-name.name-index c.args.names.now (omega (arith, c.loop-name-test.false)))) c.loop-name.invariant.1 known)
