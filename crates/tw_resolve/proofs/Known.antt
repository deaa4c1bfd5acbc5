-- The written types of a well-typed program have types.
use Rattle.std.proofs.Common.{◌≡◌, ◌++◌, ℕ, suc, Bool, true, false, not, List, [], ◌∷◌, map, flat_map, Option, Some, None, is_some, option_map, refl}
use Rattle.std.specs.List.{AllByRecursion}
use Rattle.std.proofs.lemmas.Bool.{and_parts}
use Rattle.tw_syntax.specs.Programs.{ParamTree, AliasTree, FunTree, DeclTree, AliasDecl, FunDecl}
use Rattle.tw_syntax.specs.Statements.{StmtTree, Nothing, Then, Else, LetStmt, SwapStmt, MemSwapStmt, IfStmt, WithStmt, BlockStmt, SkipStmt}
use Rattle.tw_syntax.specs.Terms.{AtomTree, PlaceAtom, NumberAtom, TrueAtom, FalseAtom, UnitAtom, NullAtom, ZeroAtom, ExprTree, OneExpr, TwoExpr, NotExpr, OpExpr, RhsTree, ExprRhs, CallRhs, AllocRhs}
use Rattle.tw_syntax.specs.Types.{WrittenTree, UnitType, UintType, BoolType, PairType, PtrType, NamedType, written_place}
use Rattle.tw_types.specs.Types.{Ty, Boolean, Pointer}
use Rattle.tw_resolve.specs.Declarations.{Name, is_one_of, aliases_of, funs_of, target_number, targets_in, atom_targets, expr_targets, rhs_targets, stmt_targets, decl_targets}
use Rattle.tw_resolve.specs.AliasTypes.{IsNumbered}
use Rattle.tw_resolve.specs.Denotes.{names_declared, AreComplete}
use Rattle.tw_resolve.specs.Setting.{Setting, type_of, IsKnown, pair_of, size_rules, part_rules, written_rules}
use Rattle.tw_resolve.specs.Expressions.{Variables, variable_type, path_rules, left_type, right_type, atom_type, expr_type, atom_rules, expr_rules, rhs_rules}
use Rattle.tw_resolve.specs.Statements.{variables_after, target_rules, stmt_rules}
use Rattle.tw_resolve.specs.Programs.{alias_rules, params_rules, param_rules, param_variables, return_rules, end_variables, fun_rules, funs_rules}
use Rattle.tw_resolve.proofs.Demands.{Holds, EachHolds}
use Rattle.tw_resolve.proofs.Each.{each_first, each_rest, each-append}
use Rattle.tw_resolve.proofs.Params.{AreParams, params_first, returned_type}

pub is_some_pair : (first second : Option Ty) → is_some first ≡ true → is_some second ≡ true → is_some (pair_of first second) ≡ true
is_some_pair (Some first) (Some second) one two = refl
is_some_pair None second one two = absurd (cc one)
is_some_pair (Some first) None one two = absurd (cc two)

is_false : (k : Bool) → not k ≡ true → k ≡ false
is_false false is = refl
is_false true is = absurd (cc is)

is_some_pointer : (number : Option ℕ) → is_some number ≡ true → is_some (option_map Pointer number) ≡ true
is_some_pointer (Some number) is = refl
is_some_pointer None is = absurd (cc is)

-- the written types of a function have types, its parameters come first, and the returned variable is none of them and has the type of
-- the result
pub record IsKnownFun (setting : Setting) (fun : FunTree) : Type 0 where
  pub params : AllByRecursion (λ param. IsKnown setting param.ty) fun.params
  pub result : IsKnown setting fun.result
  pub targets : AllByRecursion (IsKnown setting) (decl_targets (FunDecl fun))
  pub first : AreParams setting fun.params (param_variables setting fun.params)
  pub returned : variable_type (end_variables setting fun) fun.returned.text ≡ type_of setting fun.result
  pub own : is_one_of fun.returned.text (map (λ param. param.name.text) fun.params) ≡ false

module _ (setting : Setting) (complete : AreComplete setting.scope setting.types) where
  abbrev AreNumbered : List WrittenTree → Type 0
  AreNumbered targets = AllByRecursion (IsNumbered setting.scope.targets) targets

  abbrev AreKnown : List WrittenTree → Type 0
  AreKnown targets = AllByRecursion (IsKnown setting) targets

  -- the names in a written type that keeps its rules are declared
  names_of_parts : (written : WrittenTree) → EachHolds (part_rules setting written) → names_declared setting.scope.declared written ≡ true
  names_of_parts (UnitType at) each = refl
  names_of_parts (UintType at) each = refl
  names_of_parts (BoolType at) each = refl
  names_of_parts (PairType at first second) each =
      rw (names_of_parts first (each_first Holds (part_rules setting first) (part_rules setting second) each))
      (names_of_parts second (each_rest Holds (part_rules setting first) (part_rules setting second) each))
  names_of_parts (PtrType at to) each = names_of_parts to (each_rest Holds (size_rules setting (written_place to) (type_of setting to)) (part_rules setting to) each)
  names_of_parts (NamedType at name) each = each.0

  pub names_of_written : (written : WrittenTree) → EachHolds (written_rules setting written) → names_declared setting.scope.declared written ≡ true
  names_of_written written each =
      names_of_parts written (each_rest Holds (size_rules setting (written_place written) (type_of setting written)) (part_rules setting written) each)

  -- a written type has a type if its names are declared and its targets have numbers
  pub known : (written : WrittenTree) → names_declared setting.scope.declared written ≡ true → AreNumbered (targets_in written) → IsKnown setting written
  known (UnitType at) names numbered = refl
  known (UintType at) names numbered = refl
  known (BoolType at) names numbered = refl
  known (PairType at first second) names numbered =
      let parts = and_parts (names_declared setting.scope.declared first) (names_declared setting.scope.declared second) names in
      is_some_pair (type_of setting first) (type_of setting second)
      (known first parts.0 (each_first (IsNumbered setting.scope.targets) (targets_in first) (targets_in second) numbered))
      (known second parts.1 (each_rest (IsNumbered setting.scope.targets) (targets_in first) (targets_in second) numbered))
  known (PtrType at to) names numbered = rw names (is_some_pointer (target_number setting.scope.targets to) numbered.0)
  known (NamedType at name) names numbered = complete name names

  -- so have the targets in it
  inner_known : (written : WrittenTree) → names_declared setting.scope.declared written ≡ true → AreNumbered (targets_in written) → AreKnown (targets_in written)
  inner_known (UnitType at) names numbered = tt
  inner_known (UintType at) names numbered = tt
  inner_known (BoolType at) names numbered = tt
  inner_known (PairType at first second) names numbered =
      let parts = and_parts (names_declared setting.scope.declared first) (names_declared setting.scope.declared second) names in
      each-append (IsKnown setting) (targets_in first) (targets_in second)
      (inner_known first parts.0 (each_first (IsNumbered setting.scope.targets) (targets_in first) (targets_in second) numbered))
      (inner_known second parts.1 (each_rest (IsNumbered setting.scope.targets) (targets_in first) (targets_in second) numbered))
  inner_known (PtrType at to) names numbered = (known to names numbered.1, inner_known to names numbered.1)
  inner_known (NamedType at name) names numbered = tt

  -- a written type that keeps its rules
  written_known : (written : WrittenTree) → EachHolds (written_rules setting written) → AreNumbered (targets_in written) → IsKnown setting written
  written_known written each numbered = known written (names_of_written written each) numbered

  -- the targets in statements that keep their rules have types
  atom_known : (variables : Variables) (needed : Option Ty) (atom : AtomTree) → EachHolds (atom_rules setting variables needed atom)
      → AreNumbered (atom_targets atom) → AreKnown (atom_targets atom)
  atom_known variables needed (PlaceAtom at path) each numbered = tt
  atom_known variables needed (NumberAtom at number) each numbered = tt
  atom_known variables needed (TrueAtom at) each numbered = tt
  atom_known variables needed (FalseAtom at) each numbered = tt
  atom_known variables needed (UnitAtom at) each numbered = tt
  atom_known variables needed (NullAtom at to) each numbered =
      (written_known to each.1 numbered.1, inner_known to (names_of_written to each.1) numbered.1)
  atom_known variables needed (ZeroAtom at ty) each numbered = inner_known ty (names_of_written ty each.1) numbered

  atoms_known : (variables : Variables) (needed other : Option Ty) (x y : AtomTree)
      → EachHolds (atom_rules setting variables needed x ++ atom_rules setting variables other y)
      → AreNumbered (atom_targets x ++ atom_targets y) → AreKnown (atom_targets x ++ atom_targets y)
  atoms_known variables needed other x y each numbered =
      each-append (IsKnown setting) (atom_targets x) (atom_targets y)
      (atom_known variables needed x (each_first Holds (atom_rules setting variables needed x) (atom_rules setting variables other y) each)
      (each_first (IsNumbered setting.scope.targets) (atom_targets x) (atom_targets y) numbered))
      (atom_known variables other y (each_rest Holds (atom_rules setting variables needed x) (atom_rules setting variables other y) each)
      (each_rest (IsNumbered setting.scope.targets) (atom_targets x) (atom_targets y) numbered))

  expr_known : (variables : Variables) (expr : ExprTree) → EachHolds (expr_rules setting variables expr)
      → AreNumbered (expr_targets expr) → AreKnown (expr_targets expr)
  expr_known variables (OneExpr at x) each numbered = atom_known variables None x each numbered
  expr_known variables (TwoExpr at x y) each numbered =
      atoms_known variables None None x y
      (each_rest Holds (size_rules setting at (expr_type setting variables (TwoExpr at x y)))
      (atom_rules setting variables None x ++ atom_rules setting variables None y) each) numbered
  expr_known variables (NotExpr at x) each numbered = atom_known variables (Some Boolean) x each numbered
  expr_known variables (OpExpr at operator x y) each numbered =
      atoms_known variables (left_type operator) (right_type operator (atom_type setting variables x)) x y each numbered

  rhs_known : (number : ℕ) (fun : FunTree) (variables : Variables) (rhs : RhsTree) → EachHolds (rhs_rules setting number fun variables rhs)
      → AreNumbered (rhs_targets rhs) → AreKnown (rhs_targets rhs)
  rhs_known number fun variables (ExprRhs expr) each numbered = expr_known variables expr each numbered
  rhs_known number fun variables (CallRhs callee bound args) each numbered = tt
  rhs_known number fun variables (AllocRhs to) each numbered =
      (written_known to each numbered.1, inner_known to (names_of_written to each) numbered.1)

  stmt_known : (number : ℕ) (fun : FunTree) (variables : Variables) (stmt : StmtTree) → EachHolds (stmt_rules setting number fun variables stmt)
      → AreNumbered (stmt_targets stmt) → AreKnown (stmt_targets stmt)
  stmt_known number fun variables Nothing each numbered = tt
  stmt_known number fun variables (Then first rest) each numbered =
      let rules = stmt_rules setting number fun variables first in
      let later = variables_after setting variables first in
      let more = stmt_rules setting number fun later rest in
      each-append (IsKnown setting) (stmt_targets first) (stmt_targets rest)
      (stmt_known number fun variables first (each_first Holds rules more each) (each_first (IsNumbered setting.scope.targets) (stmt_targets first) (stmt_targets rest) numbered))
      (stmt_known number fun later rest (each_rest Holds rules more each) (each_rest (IsNumbered setting.scope.targets) (stmt_targets first) (stmt_targets rest) numbered))
  stmt_known number fun variables (Else at stmts) each numbered = stmt_known number fun variables stmts each numbered
  stmt_known number fun variables (LetStmt at forward target rhs) each numbered =
      let after_target = each_rest Holds (target_rules variables forward target) _ each in
      rhs_known number fun variables rhs (each_first Holds (rhs_rules setting number fun variables rhs) _ after_target) numbered
  stmt_known number fun variables (SwapStmt at left right) each numbered = tt
  stmt_known number fun variables (MemSwapStmt at pointer value) each numbered = tt
  stmt_known number fun variables (IfStmt at cond first other) each numbered =
      let rules = stmt_rules setting number fun variables first in
      let later = variables_after setting variables first in
      let more = stmt_rules setting number fun later other in
      let both = each_rest Holds (path_rules variables (Some Boolean) cond) (rules ++ more) each in
      each-append (IsKnown setting) (stmt_targets first) (stmt_targets other)
      (stmt_known number fun variables first (each_first Holds rules more both) (each_first (IsNumbered setting.scope.targets) (stmt_targets first) (stmt_targets other) numbered))
      (stmt_known number fun later other (each_rest Holds rules more both) (each_rest (IsNumbered setting.scope.targets) (stmt_targets first) (stmt_targets other) numbered))
  stmt_known number fun variables (WithStmt at setup work) each numbered =
      let rules = stmt_rules setting number fun variables setup in
      let later = variables_after setting variables setup in
      let more = stmt_rules setting number fun later work in
      each-append (IsKnown setting) (stmt_targets setup) (stmt_targets work)
      (stmt_known number fun variables setup (each_first Holds rules more each) (each_first (IsNumbered setting.scope.targets) (stmt_targets setup) (stmt_targets work) numbered))
      (stmt_known number fun later work (each_rest Holds rules more each) (each_rest (IsNumbered setting.scope.targets) (stmt_targets setup) (stmt_targets work) numbered))
  stmt_known number fun variables (BlockStmt at body) each numbered = stmt_known number fun variables body each numbered
  stmt_known number fun variables (SkipStmt at) each numbered = tt

  -- the parameters of a function that keep their rules have types, and so have the targets in them
  abbrev ParamsKnown : List ParamTree → Type 0
  ParamsKnown params = AllByRecursion (λ param. IsKnown setting param.ty) params

  abbrev params_targets : List ParamTree → List WrittenTree
  params_targets params = flat_map (λ param. targets_in param.ty) params

  params_known : (earlier : List Name) (params : List ParamTree) → EachHolds (params_rules setting earlier params)
      → AreNumbered (params_targets params) → ParamsKnown params × AreKnown (params_targets params)
  params_known earlier [] each numbered = (tt, tt)
  params_known earlier (param ∷ params) each numbered =
      let later = params_rules setting (earlier ++ param.name.text ∷ []) params in
      let own = (each_first Holds (param_rules setting earlier param) later each).1 in
      let here = each_first (IsNumbered setting.scope.targets) (targets_in param.ty) (params_targets params) numbered in
      let others = params_known (earlier ++ param.name.text ∷ []) params (each_rest Holds (param_rules setting earlier param) later each)
      (each_rest (IsNumbered setting.scope.targets) (targets_in param.ty) (params_targets params) numbered) in (
        (written_known param.ty own here, others.0),
        each-append (IsKnown setting) (targets_in param.ty) (params_targets params) (inner_known param.ty (names_of_written param.ty own) here) others.1,
      )

  -- a function that keeps its rules
  fun_known : (number : ℕ) (fun : FunTree) → EachHolds (fun_rules setting number fun) → AreNumbered (decl_targets (FunDecl fun)) → IsKnownFun setting fun
  fun_known number fun each numbered =
      let in_params = params_targets fun.params in
      let in_rest = targets_in fun.result ++ stmt_targets fun.body in
      let of_params = params_rules setting [] fun.params in
      let of_result = written_rules setting fun.result in
      let of_body = stmt_rules setting number fun (param_variables setting fun.params) fun.body in
      let of_return = return_rules setting fun (end_variables setting fun) in
      let rest_rules = each_rest Holds of_params (of_result ++ (of_body ++ of_return)) each in
      let result_rules = each_first Holds of_result (of_body ++ of_return) rest_rules in
      let body_rules = each_first Holds of_body of_return (each_rest Holds of_result (of_body ++ of_return) rest_rules) in
      let rest_numbered = each_rest (IsNumbered setting.scope.targets) in_params in_rest numbered in
      let result_numbered = each_first (IsNumbered setting.scope.targets) (targets_in fun.result) (stmt_targets fun.body) rest_numbered in
      let body_numbered = each_rest (IsNumbered setting.scope.targets) (targets_in fun.result) (stmt_targets fun.body) rest_numbered in
      let of_all = params_known [] fun.params (each_first Holds of_params (of_result ++ (of_body ++ of_return)) each)
      (each_first (IsNumbered setting.scope.targets) in_params in_rest numbered) in
      record {
        params = of_all.0;
        result = written_known fun.result result_rules result_numbered;
        targets = each-append (IsKnown setting) in_params in_rest of_all.1
            (each-append (IsKnown setting) (targets_in fun.result) (stmt_targets fun.body)
            (inner_known fun.result (names_of_written fun.result result_rules) result_numbered)
            (stmt_known number fun (param_variables setting fun.params) fun.body body_rules body_numbered));
        first = params_first setting fun.params (each_first Holds of_params (of_result ++ (of_body ++ of_return)) each) of_all.0;
        own = is_false _ (each_rest Holds of_body of_return (each_rest Holds of_result (of_body ++ of_return) rest_rules)).1.0;
        returned = returned_type setting fun (end_variables setting fun)
            (each_rest Holds of_body of_return (each_rest Holds of_result (of_body ++ of_return) rest_rules)) (written_known fun.result result_rules result_numbered);
      }

  -- so have those of all functions that keep their rules
  abbrev FunsNumbered : List FunTree → Type 0
  FunsNumbered funs = AllByRecursion (λ fun. AreNumbered (decl_targets (FunDecl fun))) funs

  pub funs_known : (number : ℕ) (funs : List FunTree) → EachHolds (funs_rules setting number funs) → FunsNumbered funs → AllByRecursion (IsKnownFun setting) funs
  funs_known number [] each numbered = tt
  funs_known number (fun ∷ funs) each numbered = (
    fun_known number fun (each_first Holds (fun_rules setting number fun) (funs_rules setting (suc number) funs) each) numbered.0,
    funs_known (suc number) funs (each_rest Holds (fun_rules setting number fun) (funs_rules setting (suc number) funs) each) numbered.1,
  )

  -- and those of all aliases
  abbrev AliasesKnown : List AliasTree → Type 0
  AliasesKnown aliases = AllByRecursion (λ alias. AreKnown (targets_in alias.body)) aliases

  pub aliases_known : (aliases : List AliasTree) → EachHolds (flat_map (alias_rules setting) aliases)
      → AllByRecursion (λ alias. AreNumbered (targets_in alias.body)) aliases → AliasesKnown aliases
  aliases_known [] each numbered = tt
  aliases_known (alias ∷ aliases) each numbered =
      let own = each_first Holds (alias_rules setting alias) (flat_map (alias_rules setting) aliases) each in
      let parts = each_rest Holds (size_rules setting alias.name.at (type_of setting alias.body)) (part_rules setting alias.body) own in (
        inner_known alias.body (names_of_parts alias.body parts) numbered.0,
        aliases_known aliases (each_rest Holds (alias_rules setting alias) (flat_map (alias_rules setting) aliases) each) numbered.1,
      )

  -- all targets of declarations
  pub targets_known : (decls : List DeclTree) → AliasesKnown (aliases_of decls) → AllByRecursion (IsKnownFun setting) (funs_of decls) → AreKnown (flat_map decl_targets decls)
  targets_known [] aliases funs = tt
  targets_known (AliasDecl alias ∷ decls) aliases funs =
      each-append (IsKnown setting) (targets_in alias.body) (flat_map decl_targets decls) aliases.0 (targets_known decls aliases.1 funs)
  targets_known (FunDecl fun ∷ decls) aliases funs =
      each-append (IsKnown setting) (decl_targets (FunDecl fun)) (flat_map decl_targets decls) funs.0.targets (targets_known decls aliases funs.1)
