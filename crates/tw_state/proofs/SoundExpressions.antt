-- The rules of types of a program give typed expressions.
use Rattle.std.proofs.Common.{◌≡◌, ◌∙◌, ◌≤◌, ◌<◌, ◌^◌, ◌-◌, leb-true, refl, sym, ap, ap₂, subst, arith, ℕ, zero, suc, true, if◌then◌else◌, List, [], ◌∷◌, ◌++◌, Option, Some, None, is_some, option_map}
use Rattle.std.specs.List.{AllByRecursion}
use Rattle.std.proofs.lemmas.Bool.{and_parts, and_from}
use Rattle.std.proofs.lemmas.Nat.{pow_pos}
use Rattle.tw_syntax.specs.declared.term.OpKind.{OpKind}
use Rattle.tw_syntax.specs.declared.term.OpKind.TheVariants as op
use Rattle.tw_syntax.specs.Names.{PathTree}
use Rattle.tw_syntax.specs.Terms.{AtomTree, PlaceAtom, NumberAtom, TrueAtom, FalseAtom, UnitAtom, NullAtom, ZeroAtom, ExprTree, OneExpr, TwoExpr, NotExpr, OpExpr}
use Rattle.tw_syntax.specs.Types.{WrittenTree, UnitType, UintType, BoolType, PairType, PtrType, NamedType, written_place}
use Rattle.tw_types.specs.Types.{Ty, UnitTy, Word, Boolean, Pointer, PairTy}
use Rattle.tw_resolve.specs.AliasTypes.{IsNumbered, IsResolved}
use Rattle.tw_resolve.specs.Declarations.{Name, target_number, targets_in, atom_targets, expr_targets}
use Rattle.tw_resolve.specs.Denotes.{names_declared}
use Rattle.tw_resolve.specs.Expressions.{Types, Variables, variable_type, part, type_at_path, path_type, atom_type, result_type, left_type, right_type, expr_type, path_rules, atom_rules, expr_rules}
use Rattle.tw_resolve.specs.Setting.{Setting, type_of, pointer_to, pair_of, size_rules, part_rules, written_rules, fits}
use Rattle.tw_resolve.proofs.Demands.{Holds, EachHolds}
use Rattle.tw_resolve.proofs.Each.{each_first, each_rest}
use Rattle.tw_resolve.proofs.Params.{same_types}
use Rattle.tw_state.proofs.Basics.{some_value, by_option, contradiction}
use Rattle.tw_state.proofs.Known.{IsKnown}
use Rattle.tw_state.proofs.TypedTrees.{AtomFits, OpFits, ExprFits}
use Rattle.tw_state.proofs.TypedValues.{part-none}

-- a type that fits a needed one is this one
pub fits_equal : (needed ty : Ty) → fits (Some needed) (Some ty) ≡ true → needed ≡ ty
fits_equal needed ty test = same_types needed ty test

pub is_there : {A : Type 0} (o : Option A) → is_some o ≡ true → (x : A) × (o ≡ Some x)
is_there (Some x) is = (x, refl)
is_there None is = contradiction {test = true} refl (sym is)

-- variables that keep their types to the end of the function
abbrev pub Grows : Variables → Types → Type 0
Grows variables types = (name : Name) (ty : Ty) → variable_type variables name ≡ Some ty → types name ≡ Some ty

pub path_grows : (variables : Variables) (types : Types) → Grows variables types → (path : PathTree) (ty : Ty) → path_type variables path ≡ Some ty → type_at_path types path ≡ Some ty
path_grows variables types grows path ty is =
    by_option (variable_type variables path.root.text) (λ none. part-none path.steps (ap (part path.steps) (sym none) ∙ is))
    (λ root found. ap (part path.steps) (grows path.root.text root found ∙ sym found) ∙ is)

-- what is known of the types that a program mentions
pub record TypesKnown (setting : Setting) : Type 0 where
  pub denoted : (written : WrittenTree) → IsResolved setting.scope written → (ty : Ty) × (type_of setting written ≡ Some ty)
  pub known : (written : WrittenTree) (ty : Ty) → type_of setting written ≡ Some ty → IsKnown setting ty

module _ (setting : Setting) where
  -- the names in a written type are declared
  pub names_if_kept : (written : WrittenTree) → EachHolds (part_rules setting written) → names_declared setting.scope.declared written ≡ true
  names_if_kept (UnitType at) each = refl
  names_if_kept (UintType at) each = refl
  names_if_kept (BoolType at) each = refl
  names_if_kept (NamedType at name) each = each.0
  names_if_kept (PtrType at to) each =
      names_if_kept to (each_rest Holds (size_rules setting (written_place to) (type_of setting to)) (part_rules setting to) each)
  names_if_kept (PairType at first second) each =
      and_from (names_declared setting.scope.declared first) (names_declared setting.scope.declared second)
      (names_if_kept first (each_first Holds (part_rules setting first) (part_rules setting second) each))
      (names_if_kept second (each_rest Holds (part_rules setting first) (part_rules setting second) each))

  pub resolved_if_kept : (written : WrittenTree) → EachHolds (written_rules setting written) → AllByRecursion (IsNumbered setting.scope.targets) (targets_in written) → IsResolved setting.scope written
  resolved_if_kept written each numbered =
      record { names = names_if_kept written (each_rest Holds (size_rules setting (written_place written) (type_of setting written)) (part_rules setting written) each); targets = numbered }

module _ (setting : Setting) (types_known : TypesKnown setting) where
  -- a pointer to a type whose names are declared
  pub pointer_known : (to : WrittenTree) → EachHolds (written_rules setting to) → AllByRecursion (IsNumbered setting.scope.targets) (to ∷ targets_in to) → (number : ℕ) × (target_number setting.scope.targets to ≡ Some number) × (pointer_to setting.scope to ≡ Some (Pointer number))
  pointer_known to each numbered =
      let resolved = resolved_if_kept setting to each numbered.1 in
      let number = is_there (target_number setting.scope.targets to) numbered.0 in
      (number.0, number.1, ap (λ k. if k then option_map Pointer (target_number setting.scope.targets to) else None) resolved.names ∙ ap (option_map Pointer) number.1)

  -- the part of a known type
  part_known : (steps : List ℕ) (ty goal : Ty) → IsKnown setting ty → part steps (Some ty) ≡ Some goal → IsKnown setting goal
  part_known [] ty goal known is = subst (IsKnown setting) (some_value is) known
  part_known (suc zero ∷ steps) (PairTy first second) goal known is = part_known steps first goal known.0 is
  part_known (suc (suc zero) ∷ steps) (PairTy first second) goal known is = part_known steps second goal known.1 is
  part_known (zero ∷ steps) ty goal known is = part-none steps is
  part_known (suc (suc (suc n)) ∷ steps) ty goal known is = part-none steps is
  part_known (suc zero ∷ steps) UnitTy goal known is = part-none steps is
  part_known (suc zero ∷ steps) Word goal known is = part-none steps is
  part_known (suc zero ∷ steps) Boolean goal known is = part-none steps is
  part_known (suc zero ∷ steps) (Pointer target) goal known is = part-none steps is
  part_known (suc (suc zero) ∷ steps) UnitTy goal known is = part-none steps is
  part_known (suc (suc zero) ∷ steps) Word goal known is = part-none steps is
  part_known (suc (suc zero) ∷ steps) Boolean goal known is = part-none steps is
  part_known (suc (suc zero) ∷ steps) (Pointer target) goal known is = part-none steps is

  module _ (variables : Variables) (types : Types) (grows : Grows variables types) (vars_known : (name : Name) (ty : Ty) → variable_type variables name ≡ Some ty → IsKnown setting ty) where
    pub path_known : (path : PathTree) (ty : Ty) → path_type variables path ≡ Some ty → IsKnown setting ty
    path_known path ty is =
        by_option (variable_type variables path.root.text) (λ none. part-none path.steps (ap (part path.steps) (sym none) ∙ is))
        (λ root found. part_known path.steps root ty (vars_known path.root.text root found) (ap (part path.steps) (sym found) ∙ is))

    -- a path that keeps the rules has a type
    pub record PathSound (needed : Option Ty) (path : PathTree) : Type 0 where
      pub ty : Ty
      pub is : path_type variables path ≡ Some ty
      pub at_end : type_at_path types path ≡ Some ty
      pub fitting : fits needed (Some ty) ≡ true
      pub known : IsKnown setting ty

    pub path_sound : (needed : Option Ty) (path : PathTree) → EachHolds (path_rules variables needed path) → PathSound needed path
    path_sound needed path each =
        let parts = and_parts (is_some (path_type variables path)) (fits needed (path_type variables path)) each.1.0 in
        let found = is_there (path_type variables path) parts.0 in
        record {
          ty = found.0;
          is = found.1;
          at_end = path_grows variables types grows path found.0 found.1;
          fitting = subst (λ o. fits needed o ≡ true) found.1 parts.1;
          known = path_known path found.0 found.1;
        }

    -- an atom that keeps the rules has a type
    pub record AtomSound (needed : Option Ty) (atom : AtomTree) : Type 0 where
      pub ty : Ty
      pub is : atom_type setting variables atom ≡ Some ty
      pub fit : AtomFits setting types atom ty
      pub fitting : fits needed (Some ty) ≡ true
      pub known : IsKnown setting ty

    pub atom_sound : (needed : Option Ty) (atom : AtomTree) → EachHolds (atom_rules setting variables needed atom) → AllByRecursion (IsNumbered setting.scope.targets) (atom_targets atom) → AtomSound needed atom
    atom_sound needed (PlaceAtom at path) each numbered =
        let p = path_sound needed path each in
        record { ty = p.ty; is = p.is; fit = p.at_end; fitting = p.fitting; known = p.known }
    atom_sound needed (NumberAtom at number) each numbered =
        record { ty = Word; is = refl; fit = (below (leb-true number (2 ^ setting.widths.word - 1) each.0) (pow_pos setting.widths.word), refl); fitting = each.1.0; known = tt }
      where
        below : {n m : ℕ} → n ≤ m - 1 → 0 < m → n < m
        below p q = omega (arith, p, q)
    atom_sound needed (TrueAtom at) each numbered = record { ty = Boolean; is = refl; fit = refl; fitting = each.0; known = tt }
    atom_sound needed (FalseAtom at) each numbered = record { ty = Boolean; is = refl; fit = refl; fitting = each.0; known = tt }
    atom_sound needed (UnitAtom at) each numbered = record { ty = UnitTy; is = refl; fit = refl; fitting = each.0; known = tt }
    atom_sound needed (NullAtom at to) each numbered =
        let p = pointer_known to each.1 numbered in
        record {
          ty = Pointer p.0;
          is = p.2;
          fit = (p.0, refl);
          fitting = subst (λ o. fits needed o ≡ true) p.2 each.0;
          known = types_known.known (PtrType at to) (Pointer p.0) p.2;
        }
    atom_sound needed (ZeroAtom at written) each numbered =
        let found = types_known.denoted written (resolved_if_kept setting written each.1 numbered) in
        record {
          ty = found.0;
          is = found.1;
          fit = found.1;
          fitting = subst (λ o. fits needed o ≡ true) found.1 each.0;
          known = types_known.known written found.0 found.1;
        }

    -- an expression that keeps the rules has a type
    pub record ExprSound (expr : ExprTree) : Type 0 where
      pub ty : Ty
      pub is : expr_type setting variables expr ≡ Some ty
      pub fit : ExprFits setting types expr ty
      pub known : IsKnown setting ty

    op_fits : (operator : OpKind) (left right : Ty) → fits (left_type operator) (Some left) ≡ true → fits (right_type operator (Some left)) (Some right) ≡ true → OpFits setting operator left right (result_type operator)
    op_fits op.Add left right p q = (sym (fits_equal Word left p), sym (fits_equal Word right q), refl)
    op_fits op.Sub left right p q = (sym (fits_equal Word left p), sym (fits_equal Word right q), refl)
    op_fits op.Mul left right p q = (sym (fits_equal Word left p), sym (fits_equal Word right q), refl)
    op_fits op.Lt left right p q = (sym (fits_equal Word left p), sym (fits_equal Word right q), refl)
    op_fits op.Eq left right p q = (fits_equal left right q, refl)
    op_fits op.Ne left right p q = (fits_equal left right q, refl)
    op_fits op.And left right p q = (sym (fits_equal Boolean left p), sym (fits_equal Boolean right q), refl)
    op_fits op.Or left right p q = (sym (fits_equal Boolean left p), sym (fits_equal Boolean right q), refl)

    result_known : (operator : OpKind) → IsKnown setting (result_type operator)
    result_known op.Add = tt
    result_known op.Sub = tt
    result_known op.Mul = tt
    result_known op.Lt = tt
    result_known op.Eq = tt
    result_known op.Ne = tt
    result_known op.And = tt
    result_known op.Or = tt

    pub expr_sound : (expr : ExprTree) → EachHolds (expr_rules setting variables expr) → AllByRecursion (IsNumbered setting.scope.targets) (expr_targets expr) → ExprSound expr
    expr_sound (OneExpr at x) each numbered =
        let a = atom_sound None x each numbered in
        record { ty = a.ty; is = a.is; fit = a.fit; known = a.known }
    expr_sound (TwoExpr at x y) each numbered =
        let rules = each_rest Holds (size_rules setting at (expr_type setting variables (TwoExpr at x y))) (atom_rules setting variables None x ++ atom_rules setting variables None y) each in
        let a = atom_sound None x (each_first Holds (atom_rules setting variables None x) (atom_rules setting variables None y) rules) (each_first (IsNumbered setting.scope.targets) (atom_targets x) (atom_targets y) numbered) in
        let b = atom_sound None y (each_rest Holds (atom_rules setting variables None x) (atom_rules setting variables None y) rules) (each_rest (IsNumbered setting.scope.targets) (atom_targets x) (atom_targets y) numbered) in
        record { ty = PairTy a.ty b.ty; is = ap₂ pair_of a.is b.is; fit = (a.ty, b.ty, a.fit, b.fit, refl); known = (a.known, b.known) }
    expr_sound (NotExpr at x) each numbered =
        let a = atom_sound (Some Boolean) x each numbered in
        record { ty = Boolean; is = refl; fit = (subst (AtomFits setting types x) (sym (fits_equal Boolean a.ty a.fitting)) a.fit, refl); known = tt }
    expr_sound (OpExpr at operator x y) each numbered =
        let left = atom_rules setting variables (left_type operator) x in
        let right = atom_rules setting variables (right_type operator (atom_type setting variables x)) y in
        let a = atom_sound (left_type operator) x (each_first Holds left right each) (each_first (IsNumbered setting.scope.targets) (atom_targets x) (atom_targets y) numbered) in
        let b = atom_sound (right_type operator (atom_type setting variables x)) y (each_rest Holds left right each) (each_rest (IsNumbered setting.scope.targets) (atom_targets x) (atom_targets y) numbered) in
        record {
          ty = result_type operator;
          is = refl;
          fit = (a.ty, b.ty, a.fit, b.fit, op_fits operator a.ty b.ty a.fitting (subst (λ o. fits (right_type operator o) (Some b.ty) ≡ true) a.is b.fitting));
          known = result_known operator;
        }
