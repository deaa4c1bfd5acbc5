-- The names in a function of a well-typed program are those of its variables.
use Rattle.std.proofs.Common.{◌≡◌, ◌∙◌, ◌<◌, ap, sym, subst, refl, arith, ℕ, Bool, true, false, if◌then◌else◌, List, [], ◌∷◌, ◌++◌, length, map, nat_lt, Option, Some, None, is_some, option_map, position, slice_get, unwrap_or, bytes_eq}
use Rattle.std.proofs.Math.Bool.{Bool-set}
use Rattle.std.proofs.Math.Logic.{∥∥₁_elim}
use Rattle.std.proofs.lemmas.Bool.Decides.{Decides-ltb}
use Rattle.std.proofs.lemmas.Option.{none-some}
use Rattle.std.specs.List.{AllByRecursion, position_or_len}
use Rattle.tw_syntax.specs.Names.{NameTree, PathTree}
use Rattle.tw_syntax.specs.Programs.{FunTree, ParamTree, program_tree}
use Rattle.tw_syntax.specs.Statements.{StmtTree, Nothing, Then, Else, LetStmt, SwapStmt, MemSwapStmt, IfStmt, WithStmt, BlockStmt, SkipStmt}
use Rattle.tw_syntax.specs.Terms.{AtomTree, PlaceAtom, NumberAtom, TrueAtom, FalseAtom, UnitAtom, NullAtom, ZeroAtom, ExprTree, OneExpr, TwoExpr, NotExpr, OpExpr, RhsTree, ExprRhs, CallRhs, AllocRhs}
use Rattle.tw_types.specs.Types.{Ty}
use Rattle.tw_resolve.specs.declared.resolved.Resolved.{Resolved}
use Rattle.tw_resolve.specs.Declarations.{Name, funs_of}
use Rattle.tw_resolve.specs.Entries.{types_in}
use Rattle.tw_resolve.specs.Expressions.{Variables, part, texts_of, type_at_path, variable_type}
use Rattle.tw_resolve.specs.Programs.{end_variables}
use Rattle.tw_resolve.specs.Resolved.{resolved_setting}
use Rattle.tw_resolve.specs.Setting.{Setting}
use Rattle.tw_resolve.proofs.Each.{each-append}
use Rattle.tw_check.specs.Liveness.{atom_names, expr_names, names_of, rhs_names, texts}
use Rattle.tw_state.proofs.EntryFunctions.{function_of}
use Rattle.tw_state.proofs.SoundPrograms.{funs_fit}
use Rattle.tw_state.proofs.TypedTrees.{ArgsFit, AtomFits, ExprFits, FunFits, ParamFits, RhsFits, StmtFits}
use Rattle.tw_interp.specs.Facts.{all_prop}
use Rattle.tw_interp.specs.Numbered.{AreKnown, IsKnown, numbered_names}

known_within : (variables : Variables) (name : Name) (ty : Ty) → variable_type variables name ≡ Some ty → position_or_len (bytes_eq name) (texts_of variables) < length (texts_of variables)
known_within [] name ty is = absurd (none-some ty is)
known_within (v ∷ vs) name ty is = by (bytes_eq name v.0) refl (known_within vs name ty)
  where
    by : (k : Bool) → bytes_eq name v.0 ≡ k → (variable_type vs name ≡ Some ty → position_or_len (bytes_eq name) (texts_of vs) < length (texts_of vs))
        → position_or_len (bytes_eq name) (v.0 ∷ texts_of vs) < length (v.0 ∷ texts_of vs)
    by true same deeper = rw (same) (omega arith)
    by false other deeper = let later = deeper (subst (λ (k : Bool). (if k then Some v.1 else variable_type vs name) ≡ Some ty) other is) in rw (other) (omega (arith, later))

no_part : (steps : List ℕ) → part steps None ≡ None
no_part [] = refl
no_part (step ∷ steps) = no_part steps

module _ (variables : Variables) where
  -- a name that has a type is one of the variables
  known : (name : Name) (ty : Ty) → variable_type variables name ≡ Some ty → IsKnown (texts_of variables) name
  known name ty is =
      let within : nat_lt (position_or_len (bytes_eq name) (texts_of variables)) (length (texts_of variables)) ≡ true =
      (Decides-ltb (position_or_len (bytes_eq name) (texts_of variables)) (length (texts_of variables))).1 (known_within variables name ty is) in
      rw (within) refl

  path_known : (path : PathTree) (ty : Ty) → type_at_path (variable_type variables) path ≡ Some ty → IsKnown (texts_of variables) path.root.text
  path_known path ty is = by (variable_type variables path.root.text) refl
    where
      by : (o : Option Ty) → variable_type variables path.root.text ≡ o → IsKnown (texts_of variables) path.root.text
      by None none = absurd (none-some ty (sym (no_part path.steps) ∙ sym (ap (part path.steps) none) ∙ is))
      by (Some t) there = known path.root.text t there

  module _ (setting : Setting) where
    atom_known : (x : AtomTree) (ty : Ty) → AtomFits setting (variable_type variables) x ty → AllByRecursion (IsKnown (texts_of variables)) (texts (atom_names x))
    atom_known (PlaceAtom at path) ty fits = (path_known path ty fits, tt)
    atom_known (NumberAtom at number) ty fits = tt
    atom_known (TrueAtom at) ty fits = tt
    atom_known (FalseAtom at) ty fits = tt
    atom_known (UnitAtom at) ty fits = tt
    atom_known (NullAtom at to) ty fits = tt
    atom_known (ZeroAtom at written) ty fits = tt

    both_known : (first second : List NameTree) → AllByRecursion (IsKnown (texts_of variables)) (texts first) → AllByRecursion (IsKnown (texts_of variables)) (texts second) → AllByRecursion (IsKnown (texts_of variables)) (texts (first ++ second))
    both_known [] second a b = b
    both_known (name ∷ names) second a b = (a.0, both_known names second a.1 b)

    expr_known : (x : ExprTree) (ty : Ty) → ExprFits setting (variable_type variables) x ty → AllByRecursion (IsKnown (texts_of variables)) (texts (expr_names x))
    expr_known (OneExpr at x) ty fits = atom_known x ty fits
    expr_known (TwoExpr at x y) ty fits = both_known (atom_names x) (atom_names y) (atom_known x fits.0 fits.2) (atom_known y fits.1 fits.3)
    expr_known (NotExpr at x) ty fits = atom_known x _ fits.0
    expr_known (OpExpr at operator x y) ty fits = both_known (atom_names x) (atom_names y) (atom_known x fits.0 fits.2) (atom_known y fits.1 fits.3)

    args_known : (params : List ParamTree) (args : List NameTree) → ArgsFit setting (variable_type variables) params args → AllByRecursion (IsKnown (texts_of variables)) (texts args)
    args_known [] [] fits = tt
    args_known [] (arg ∷ args) fits = absurd fits
    args_known (param ∷ params) [] fits = absurd fits
    args_known (param ∷ params) (arg ∷ args) fits = (known arg.text fits.0.0 fits.0.2, args_known params args fits.1)

    rhs_known : (x : RhsTree) (ty : Ty) → RhsFits setting (variable_type variables) x ty → AllByRecursion (IsKnown (texts_of variables)) (texts (rhs_names x))
    rhs_known (ExprRhs x) ty fits = expr_known x ty fits
    rhs_known (CallRhs callee bound args) ty fits = args_known fits.fun.params args fits.fit
    rhs_known (AllocRhs to) ty fits = tt

    stmt_known : (s : StmtTree) → StmtFits setting (variable_type variables) s → AreKnown (texts_of variables) s
    stmt_known Nothing fits = tt
    stmt_known (Then first rest) fits = each-append (IsKnown (texts_of variables)) (names_of first) (names_of rest) (stmt_known first fits.0) (stmt_known rest fits.1)
    stmt_known (Else at stmts) fits = stmt_known stmts fits
    stmt_known (LetStmt at forward target rhs) fits = (known target.text fits.0 fits.1, rhs_known rhs fits.0 fits.2)
    stmt_known (SwapStmt at left right) fits = (path_known left fits.0 fits.1, (path_known right fits.0 fits.2, tt))
    stmt_known (MemSwapStmt at pointer value) fits = (path_known pointer _ fits.2, (path_known value fits.1 fits.4, tt))
    stmt_known (IfStmt at cond first other) fits =
        (path_known cond _ fits.0, each-append (IsKnown (texts_of variables)) (names_of first) (names_of other) (stmt_known first fits.1) (stmt_known other fits.2))
    stmt_known (WithStmt at setup work) fits = each-append (IsKnown (texts_of variables)) (names_of setup) (names_of work) (stmt_known setup fits.0) (stmt_known work fits.1)
    stmt_known (BlockStmt at body) fits = stmt_known body fits
    stmt_known (SkipStmt at) fits = tt

    params_known : (params : List ParamTree) → AllByRecursion (ParamFits setting (variable_type variables)) params → AllByRecursion (IsKnown (texts_of variables)) (map (λ param. param.name.text) params)
    params_known [] fits = tt
    params_known (param ∷ params) fits = (known param.name.text fits.0.0 fits.0.2, params_known params fits.1)

-- the names of a function are variables
abbrev pub FunKnown : List Name → FunTree → Type 0
FunKnown names fun = AllByRecursion (IsKnown names) (map (λ param. param.name.text) fun.params) × IsKnown names fun.returned.text × AreKnown names fun.body

fun_known : (setting : Setting) (number : ℕ) (fun : FunTree) → slice_get setting.funs number ≡ Some fun → FunFits setting fun → FunKnown (numbered_names setting number) fun
fun_known setting number fun there fits =
    let variables = end_variables setting fun in
    let names : texts_of variables ≡ numbered_names setting number = sym (ap (λ (o : Option FunTree). texts_of (unwrap_or (option_map (end_variables setting) o) [])) there) in
    subst (λ (ns : List Name). FunKnown ns fun) names
    (params_known variables setting fun.params fits.params, known variables fun.returned.text fits.result.0 fits.result.2, stmt_known variables setting fun.body fits.body)

known_prop : (names : List Name) (fun : FunTree) → IsProp (FunKnown names fun)
known_prop names fun =
    let one : (name : Name) → IsProp (IsKnown names name) = λ name. Bool-set (is_some (position (bytes_eq name) names)) true in
    hlevel (all_prop (IsKnown names) one (map (λ param. param.name.text) fun.params), one fun.returned.text, all_prop (IsKnown names) one (names_of fun.body))

pub names_known : (resolved : Resolved) (number : ℕ) (fun : FunTree) → slice_get (funs_of (program_tree resolved.program.now).decls) number ≡ Some fun → FunKnown (numbered_names (resolved_setting resolved) number) fun
names_known resolved number fun there =
    let program = program_tree resolved.program.now in
    let widths = resolved.tables.types.widths in
    let types = types_in resolved.tables.types.table.entries in
    let setting = resolved_setting resolved in
    ∥∥₁_elim resolved.typed (known_prop (numbered_names setting number) fun)
    (λ tables.
    let is = function_of widths program types tables.typed number fun there in
    fun_known setting number fun there (funs_fit widths program types tables.typed is.name fun is.named))
