-- Variables of names that are known.
use Rattle.std.proofs.Common.{◌≡◌, ap, sym, subst, ◌∙◌, List, [], ◌∷◌, map, is_some}
use Rattle.std.specs.List.{AllByRecursion}
use Rattle.tw_syntax.specs.Names.{NameTree}
use Rattle.tw_check.specs.Liveness.{texts}
use Rattle.tw_state.specs.States.{Name}
use Rattle.tw_interp.specs.declared.variable.Var.{Var}
use Rattle.tw_interp.specs.Numbered.{IsKnown, IsTarget, IsVar}
use Rattle.tw_interp.specs.NumberedTrees.{var_tree}

module _ (names : List Name) where
  -- a variable whose name is known has a number
  pub known_target : (var : Var) (name : NameTree) → var_tree var ≡ name → IsVar names var → IsKnown names name.text → IsTarget names var
  known_target var name same is known = (is, ap is_some is ∙ subst (λ (n : NameTree). IsKnown names n.text) (sym same) known)

  all_targets : (vars : List Var) → AllByRecursion (IsVar names) vars → AllByRecursion (IsKnown names) (texts (map var_tree vars)) → AllByRecursion (IsTarget names) vars
  all_targets [] each known = tt
  all_targets (var ∷ vars) each known = (known_target var (var_tree var) (λ i. var_tree var) each.0 known.0, all_targets vars each.1 known.1)

  pub known_targets : (vars : List Var) (trees : List NameTree) → map var_tree vars ≡ trees → AllByRecursion (IsVar names) vars → AllByRecursion (IsKnown names) (texts trees) → AllByRecursion (IsTarget names) vars
  known_targets vars trees same each known = all_targets vars each (subst (λ (t : List NameTree). AllByRecursion (IsKnown names) (texts t)) (sym same) known)
