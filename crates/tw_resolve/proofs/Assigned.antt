-- The variables of a well-typed function are its parameters and all targets of its assignments.
use Rattle.std.proofs.Common.{◌≡◌, ◌∙◌, ◌++◌, ap, sym, refl, ℕ, suc, Bool, true, false, if◌then◌else◌, List, [], ◌∷◌, flat_map, fold, get_or, Option, Some, None, is_some, option_and_then, slice_get, bytes_eq}
use Rattle.std.specs.List.{AllByRecursion}
use Rattle.std.proofs.lemmas.Bool.{and_parts}
use Rattle.std.proofs.lemmas.List.{map-append}
use Rattle.std.proofs.lemmas.List.Quantifiers.{position-Some}
use Rattle.std.proofs.lemmas.List.Sums.{fold-append}
use Rattle.std.proofs.lemmas.Option.{slice_get-get_or}
use Rattle.tw_text.specs.Places.{first_place}
use Rattle.tw_syntax.specs.Programs.{FunTree, FunDecl}
use Rattle.tw_syntax.specs.Statements.{StmtTree, Nothing, Then, Else, LetStmt, SwapStmt, MemSwapStmt, IfStmt, WithStmt, BlockStmt, SkipStmt}
use Rattle.tw_syntax.specs.Terms.{AtomTree, PlaceAtom, NumberAtom, TrueAtom, FalseAtom, UnitAtom, NullAtom, ZeroAtom, ExprTree, OneExpr, TwoExpr, NotExpr, OpExpr, RhsTree, ExprRhs, CallRhs, AllocRhs}
use Rattle.tw_syntax.specs.Types.{WrittenTree, PtrType}
use Rattle.tw_types.specs.Types.{Ty, Boolean}
use Rattle.tw_resolve.specs.Declarations.{Name, number_of, targets_in, atom_targets, expr_targets, rhs_targets, stmt_targets, decl_targets}
use Rattle.tw_resolve.specs.AliasTypes.{IsNumbered}
use Rattle.tw_resolve.specs.Denotes.{AreComplete}
use Rattle.tw_resolve.specs.Setting.{Setting, IsKnown, type_of, size_rules, written_rules, fits}
use Rattle.tw_resolve.specs.Expressions.{Variables, texts_of, variable_type, path_type, path_rules, atom_type, expr_type, rhs_type, atom_rules, expr_rules, rhs_rules}
use Rattle.tw_resolve.specs.Statements.{with_variable, assigned, variables_after, stmt_rules}
use Rattle.tw_resolve.specs.Programs.{with_new, variable_names, params_rules, param_variables, return_rules, end_variables, fun_rules, funs_rules}
use Rattle.tw_resolve.proofs.Demands.{Holds, EachHolds}
use Rattle.tw_resolve.proofs.Each.{each_at, each_first, each_rest}
use Rattle.tw_resolve.proofs.Known.{IsKnownFun, known, names_of_written, is_some_pair}
use Rattle.tw_resolve.proofs.Params.{type_there}

-- a variable with a known type is declared, if it is new
names_with : (variables : Variables) (name : Name) (found : Option Ty) → is_some found ≡ true
    → texts_of (with_variable variables name found) ≡ with_new (texts_of variables) name
names_with variables name None is = absurd (cc is)
names_with variables name (Some ty) is =
    by (is_some (variable_type variables name))
    ∙ ap (λ (k : Bool). if k then texts_of variables else texts_of variables ++ name ∷ []) (type_there variables name)
  where
    by : (k : Bool) → texts_of (if k then variables else variables ++ (name, ty) ∷ []) ≡ (if k then texts_of variables else texts_of variables ++ name ∷ [])
    by true = refl
    by false = map-append (λ variable. variable.0) variables ((name, ty) ∷ [])

module _ (setting : Setting) (complete : AreComplete setting.scope setting.types) (results : AllByRecursion (λ fun. IsKnown setting fun.result) setting.funs) where
  abbrev AreNumbered : List WrittenTree → Type 0
  AreNumbered targets = AllByRecursion (IsNumbered setting.scope.targets) targets

  -- what keeps its rules has a type
  atom_typed : (variables : Variables) (needed : Option Ty) (atom : AtomTree) → EachHolds (atom_rules setting variables needed atom)
      → AreNumbered (atom_targets atom) → is_some (atom_type setting variables atom) ≡ true
  atom_typed variables needed (PlaceAtom at path) each numbered =
      (and_parts (is_some (path_type variables path)) (fits needed (path_type variables path)) each.1.0).0
  atom_typed variables needed (NumberAtom at number) each numbered = refl
  atom_typed variables needed (TrueAtom at) each numbered = refl
  atom_typed variables needed (FalseAtom at) each numbered = refl
  atom_typed variables needed (UnitAtom at) each numbered = refl
  atom_typed variables needed (NullAtom at to) each numbered = known setting complete (PtrType at to) (names_of_written setting complete to each.1) numbered
  atom_typed variables needed (ZeroAtom at ty) each numbered = known setting complete ty (names_of_written setting complete ty each.1) numbered

  expr_typed : (variables : Variables) (expr : ExprTree) → EachHolds (expr_rules setting variables expr)
      → AreNumbered (expr_targets expr) → is_some (expr_type setting variables expr) ≡ true
  expr_typed variables (OneExpr at x) each numbered = atom_typed variables None x each numbered
  expr_typed variables (TwoExpr at x y) each numbered =
      let of_x = atom_rules setting variables None x in
      let of_y = atom_rules setting variables None y in
      let both = each_rest Holds (size_rules setting at (expr_type setting variables (TwoExpr at x y))) (of_x ++ of_y) each in
      is_some_pair (atom_type setting variables x) (atom_type setting variables y)
      (atom_typed variables None x (each_first Holds of_x of_y both) (each_first (IsNumbered setting.scope.targets) (atom_targets x) (atom_targets y) numbered))
      (atom_typed variables None y (each_rest Holds of_x of_y both) (each_rest (IsNumbered setting.scope.targets) (atom_targets x) (atom_targets y) numbered))
  expr_typed variables (NotExpr at x) each numbered = refl
  expr_typed variables (OpExpr at operator x y) each numbered = refl

  result_typed : (fun : FunTree) (name : Name) (number : Option ℕ) → number_of setting.funs name ≡ number → is_some number ≡ true
      → is_some (option_and_then (λ callee. type_of setting callee.result) (option_and_then (slice_get setting.funs) number)) ≡ true
  result_typed fun name (Some number) is some =
      let within = (position-Some (λ callee. bytes_eq name callee.name.text) setting.funs number fun is).0 in
      let at = slice_get-get_or setting.funs number fun within in
      rw at (each_at (λ callee. IsKnown setting callee.result) setting.funs number (get_or setting.funs number fun) results at)
  result_typed fun name None is some = absurd (cc some)

  rhs_typed : (number : ℕ) (fun : FunTree) (variables : Variables) (rhs : RhsTree) → EachHolds (rhs_rules setting number fun variables rhs)
      → AreNumbered (rhs_targets rhs) → is_some (rhs_type setting variables rhs) ≡ true
  rhs_typed number fun variables (ExprRhs expr) each numbered = expr_typed variables expr each numbered
  rhs_typed number fun variables (CallRhs callee bound args) each numbered =
      result_typed fun callee.text (number_of setting.funs callee.text) refl each.0
  rhs_typed number fun variables (AllocRhs to) each numbered = known setting complete (PtrType first_place to) (names_of_written setting complete to each) numbered

  two_names : (variables : Variables) (first rest : StmtTree)
      → texts_of (variables_after setting variables first) ≡ fold with_new (texts_of variables) (assigned first)
      → texts_of (variables_after setting (variables_after setting variables first) rest) ≡ fold with_new (texts_of (variables_after setting variables first)) (assigned rest)
      → texts_of (variables_after setting (variables_after setting variables first) rest) ≡ fold with_new (texts_of variables) (assigned first ++ assigned rest)
  two_names variables first rest one two =
      two
      ∙ ap (λ (names : List Name). fold with_new names (assigned rest)) one
      ∙ sym (fold-append with_new (texts_of variables) (assigned first) (assigned rest))

  -- the names of the variables after a statement that keeps its rules
  stmt_names : (number : ℕ) (fun : FunTree) (variables : Variables) (stmt : StmtTree) → EachHolds (stmt_rules setting number fun variables stmt)
      → AreNumbered (stmt_targets stmt) → texts_of (variables_after setting variables stmt) ≡ fold with_new (texts_of variables) (assigned stmt)
  stmt_names number fun variables Nothing each numbered = refl
  stmt_names number fun variables (Then first rest) each numbered =
      let rules = stmt_rules setting number fun variables first in
      let later = variables_after setting variables first in
      let more = stmt_rules setting number fun later rest in
      two_names variables first rest
      (stmt_names number fun variables first (each_first Holds rules more each) (each_first (IsNumbered setting.scope.targets) (stmt_targets first) (stmt_targets rest) numbered))
      (stmt_names number fun later rest (each_rest Holds rules more each) (each_rest (IsNumbered setting.scope.targets) (stmt_targets first) (stmt_targets rest) numbered))
  stmt_names number fun variables (Else at stmts) each numbered = stmt_names number fun variables stmts each numbered
  stmt_names number fun variables (LetStmt at true target rhs) each numbered =
      names_with variables target.text (rhs_type setting variables rhs)
      (rhs_typed number fun variables rhs (each_first Holds (rhs_rules setting number fun variables rhs) _ each) numbered)
  stmt_names number fun variables (LetStmt at false target rhs) each numbered = refl
  stmt_names number fun variables (SwapStmt at left right) each numbered = refl
  stmt_names number fun variables (MemSwapStmt at pointer value) each numbered = refl
  stmt_names number fun variables (IfStmt at cond first other) each numbered =
      let rules = stmt_rules setting number fun variables first in
      let later = variables_after setting variables first in
      let more = stmt_rules setting number fun later other in
      let both = each_rest Holds (path_rules variables (Some Boolean) cond) (rules ++ more) each in
      two_names variables first other
      (stmt_names number fun variables first (each_first Holds rules more both) (each_first (IsNumbered setting.scope.targets) (stmt_targets first) (stmt_targets other) numbered))
      (stmt_names number fun later other (each_rest Holds rules more both) (each_rest (IsNumbered setting.scope.targets) (stmt_targets first) (stmt_targets other) numbered))
  stmt_names number fun variables (WithStmt at setup work) each numbered =
      let rules = stmt_rules setting number fun variables setup in
      let later = variables_after setting variables setup in
      let more = stmt_rules setting number fun later work in
      two_names variables setup work
      (stmt_names number fun variables setup (each_first Holds rules more each) (each_first (IsNumbered setting.scope.targets) (stmt_targets setup) (stmt_targets work) numbered))
      (stmt_names number fun later work (each_rest Holds rules more each) (each_rest (IsNumbered setting.scope.targets) (stmt_targets setup) (stmt_targets work) numbered))
  stmt_names number fun variables (BlockStmt at body) each numbered = stmt_names number fun variables body each numbered
  stmt_names number fun variables (SkipStmt at) each numbered = refl

  -- the names of the variables of a function
  abbrev pub IsNamed : FunTree → Type 0
  IsNamed fun = texts_of (end_variables setting fun) ≡ variable_names fun

  fun_named_all : (number : ℕ) (fun : FunTree) → EachHolds (fun_rules setting number fun) → AreNumbered (decl_targets (FunDecl fun)) → IsKnownFun setting fun → IsNamed fun
  fun_named_all number fun each numbered here =
      let in_params = flat_map (λ param. targets_in param.ty) fun.params in
      let in_rest = targets_in fun.result ++ stmt_targets fun.body in
      let of_params = params_rules setting [] fun.params in
      let of_result = written_rules setting fun.result in
      let of_body = stmt_rules setting number fun (param_variables setting fun.params) fun.body in
      let of_return = return_rules setting fun (end_variables setting fun) in
      let rest_rules = each_rest Holds of_params (of_result ++ (of_body ++ of_return)) each in
      let body_rules = each_first Holds of_body of_return (each_rest Holds of_result (of_body ++ of_return) rest_rules) in
      let body_numbered = each_rest (IsNumbered setting.scope.targets) (targets_in fun.result) (stmt_targets fun.body)
      (each_rest (IsNumbered setting.scope.targets) in_params in_rest numbered) in
      stmt_names number fun (param_variables setting fun.params) fun.body body_rules body_numbered
      ∙ ap (λ (names : List Name). fold with_new names (assigned fun.body)) here.first.names

  -- of all functions that keep their rules
  pub funs_named : (number : ℕ) (funs : List FunTree) → EachHolds (funs_rules setting number funs) → AllByRecursion (λ fun. AreNumbered (decl_targets (FunDecl fun))) funs
      → AllByRecursion (IsKnownFun setting) funs → AllByRecursion IsNamed funs
  funs_named number [] each numbered here = tt
  funs_named number (fun ∷ funs) each numbered here = (
    fun_named_all number fun (each_first Holds (fun_rules setting number fun) (funs_rules setting (suc number) funs) each) numbered.0 here.0,
    funs_named (suc number) funs (each_rest Holds (fun_rules setting number fun) (funs_rules setting (suc number) funs) each) numbered.1 here.1,
  )
