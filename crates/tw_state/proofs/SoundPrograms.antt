-- A well-typed program whose functions are right is sound: the laws of entries hold for it.
use Rattle.std.proofs.Common.{◌≡◌, ◌∙◌, ◌+◌, refl, sym, ap, subst, arith, ℕ, zero, suc, Bool, true, false, if◌then◌else◌, List, [], ◌∷◌, ◌++◌, map, flat_map, fold, slice_get, Option, Some, None, is_some, option_and_then, bytes_eq}
use Rattle.std.specs.List.{AllByRecursion}
use Rattle.std.proofs.lemmas.Bool.{and_parts, or_parts, not-true}
use Rattle.std.proofs.lemmas.Option.{none-some}
use Rattle.tw_text.specs.declared.refusal.Rule.TheVariants as rule
use Rattle.tw_syntax.specs.Programs.{ParamTree, FunTree, DeclTree, AliasDecl, FunDecl, ProgramTree}
use Rattle.tw_syntax.specs.Statements.{StmtTree, Nothing, Then, Else, LetStmt, SwapStmt, MemSwapStmt, IfStmt, WithStmt, BlockStmt, SkipStmt}
use Rattle.tw_syntax.specs.Terms.{AtomTree, PlaceAtom, NumberAtom, TrueAtom, FalseAtom, UnitAtom, NullAtom, ZeroAtom, ExprTree, OneExpr, TwoExpr, NotExpr, OpExpr, RhsTree, ExprRhs, CallRhs, AllocRhs}
use Rattle.tw_syntax.specs.Types.{WrittenTree, UnitType, UintType, BoolType, PairType, PtrType, NamedType}
use Rattle.tw_types.specs.Types.{Widths, Ty, Boolean}
use Rattle.tw_resolve.specs.AliasTypes.{IsNumbered, IsResolved, IsResolvedAlias}
use Rattle.tw_resolve.specs.Declarations.{Name, is_one_of, aliases_of, funs_of, declared_as, number_of, target_number, targets_in, with_target, atom_targets, expr_targets, rhs_targets, stmt_targets, decl_targets, targets_of}
use Rattle.tw_resolve.specs.Demands.{demand}
use Rattle.tw_resolve.specs.Denotes.{names_declared, scope_of}
use Rattle.tw_resolve.specs.Expressions.{Types, Variables, variable_type, atom_type, expr_type, rhs_type, left_type, right_type, fun_named, path_rules, atom_rules, expr_rules, rhs_rules}
use Rattle.tw_resolve.specs.Names.{name_rules, different_rules, aliases_rules, alias_names, fun_names}
use Rattle.tw_resolve.specs.Programs.{IsTyped, setting_of, alias_rules, param_rules, params_rules, with_param, param_variables, return_rules, end_variables, fun_rules, funs_rules, type_rules}
use Rattle.tw_resolve.specs.Setting.{Setting, type_of, size_rules, written_rules, fits}
use Rattle.tw_resolve.specs.Statements.{variables_after, stmt_rules}
use Rattle.tw_resolve.proofs.Texts.{bytes_eq-sym}
use Rattle.tw_resolve.proofs.Demands.{Holds, EachHolds, none_broken-each}
use Rattle.tw_resolve.proofs.Denoting.{type_of-denotes, denotes-type_of}
use Rattle.tw_resolve.proofs.Each.{each_first, each_rest, each-append}
use Rattle.tw_resolve.specs.Setting as Denoting
use Rattle.tw_resolve.proofs.Params.{params_first}
use Rattle.tw_resolve.proofs.Numbered.{all_numbered, aliases_resolved}
use Rattle.tw_check.specs.Right.{IsRight}
use Rattle.tw_state.specs.Steps.{fun_types}
use Rattle.tw_state.proofs.Basics.{some_value, by_option, name_test}
use Rattle.tw_state.proofs.Blocks.{get_all}
use Rattle.tw_state.proofs.Calls.{AreDifferent}
use Rattle.tw_state.proofs.Known.{known, known_denoted}
use Rattle.tw_state.proofs.TypedTrees.{ParamFits, FunFits, FunsFit}
use Rattle.tw_state.proofs.CallEnds.{StmtDescends}
use Rattle.tw_state.proofs.SoundExpressions.{TypesKnown, Grows, is_there, fits_equal, resolved_if_kept}
use Rattle.tw_state.proofs.SoundStatements.{HeadKnown, AreKnown, with_known, grows_after, later, stmt_sound}
use Rattle.tw_state.proofs.EntryResults.{IsSound}

module _ (setting : Setting) where
  abbrev AllNumbered : List WrittenTree → Type 0
  AllNumbered targets = AllByRecursion (IsNumbered setting.scope.targets) targets

  abbrev AllResolved : List WrittenTree → Type 0
  AllResolved targets = AllByRecursion (IsResolved setting.scope) targets

  -- the targets in a written type refer to what is there, if it does
  inner_resolved : (written : WrittenTree) → names_declared setting.scope.declared written ≡ true → AllNumbered (targets_in written) → AllResolved (targets_in written)
  inner_resolved (UnitType at) names numbered = tt
  inner_resolved (UintType at) names numbered = tt
  inner_resolved (BoolType at) names numbered = tt
  inner_resolved (NamedType at name) names numbered = tt
  inner_resolved (PtrType at to) names numbered = (record { names = names; targets = numbered.1 }, inner_resolved to names numbered.1)
  inner_resolved (PairType at first second) names numbered =
      let parts = and_parts (names_declared setting.scope.declared first) (names_declared setting.scope.declared second) names in
      each-append (IsResolved setting.scope) (targets_in first) (targets_in second)
      (inner_resolved first parts.0 (each_first (IsNumbered setting.scope.targets) (targets_in first) (targets_in second) numbered))
      (inner_resolved second parts.1 (each_rest (IsNumbered setting.scope.targets) (targets_in first) (targets_in second) numbered))

  written_resolved : (written : WrittenTree) → EachHolds (written_rules setting written) → AllNumbered (targets_in written) → AllResolved (targets_in written)
  written_resolved written each numbered = inner_resolved written (resolved_if_kept setting written each numbered).names numbered

  target_resolved : (to : WrittenTree) → EachHolds (written_rules setting to) → AllNumbered (to ∷ targets_in to) → AllResolved (to ∷ targets_in to)
  target_resolved to each numbered = (resolved_if_kept setting to each numbered.1, written_resolved to each numbered.1)

  atom_resolved : (variables : Variables) (needed : Option Ty) (atom : AtomTree) → EachHolds (atom_rules setting variables needed atom) → AllNumbered (atom_targets atom) → AllResolved (atom_targets atom)
  atom_resolved variables needed (PlaceAtom at path) each numbered = tt
  atom_resolved variables needed (NumberAtom at number) each numbered = tt
  atom_resolved variables needed (TrueAtom at) each numbered = tt
  atom_resolved variables needed (FalseAtom at) each numbered = tt
  atom_resolved variables needed (UnitAtom at) each numbered = tt
  atom_resolved variables needed (NullAtom at to) each numbered = target_resolved to each.1 numbered
  atom_resolved variables needed (ZeroAtom at written) each numbered = written_resolved written each.1 numbered

  two_resolved : (variables : Variables) (p q : Option Ty) (x y : AtomTree) → EachHolds (atom_rules setting variables p x ++ atom_rules setting variables q y) → AllNumbered (atom_targets x ++ atom_targets y) → AllResolved (atom_targets x ++ atom_targets y)
  two_resolved variables p q x y each numbered =
      let first = atom_rules setting variables p x in
      let second = atom_rules setting variables q y in
      each-append (IsResolved setting.scope) (atom_targets x) (atom_targets y)
      (atom_resolved variables p x (each_first Holds first second each) (each_first (IsNumbered setting.scope.targets) (atom_targets x) (atom_targets y) numbered))
      (atom_resolved variables q y (each_rest Holds first second each) (each_rest (IsNumbered setting.scope.targets) (atom_targets x) (atom_targets y) numbered))

  expr_resolved : (variables : Variables) (expr : ExprTree) → EachHolds (expr_rules setting variables expr) → AllNumbered (expr_targets expr) → AllResolved (expr_targets expr)
  expr_resolved variables (OneExpr at x) each numbered = atom_resolved variables None x each numbered
  expr_resolved variables (TwoExpr at x y) each numbered =
      two_resolved variables None None x y (each_rest Holds (size_rules setting at (expr_type setting variables (TwoExpr at x y))) (atom_rules setting variables None x ++ atom_rules setting variables None y) each) numbered
  expr_resolved variables (NotExpr at x) each numbered = atom_resolved variables (Some Boolean) x each numbered
  expr_resolved variables (OpExpr at operator x y) each numbered =
      two_resolved variables (left_type operator) (right_type operator (atom_type setting variables x)) x y each numbered

  rhs_resolved : (variables : Variables) (number : ℕ) (caller : FunTree) (rhs : RhsTree) → EachHolds (rhs_rules setting number caller variables rhs) → AllNumbered (rhs_targets rhs) → AllResolved (rhs_targets rhs)
  rhs_resolved variables number caller (ExprRhs expr) each numbered = expr_resolved variables expr each numbered
  rhs_resolved variables number caller (CallRhs callee bound args) each numbered = tt
  rhs_resolved variables number caller (AllocRhs to) each numbered = target_resolved to each numbered

  -- the targets in a statement that keeps the rules refer to what is there
  stmt_resolved : (number : ℕ) (caller : FunTree) (s : StmtTree) (variables : Variables) → EachHolds (stmt_rules setting number caller variables s) → AllNumbered (stmt_targets s) → AllResolved (stmt_targets s)
  stmt_resolved number caller Nothing variables each numbered = tt
  stmt_resolved number caller (SkipStmt at) variables each numbered = tt
  stmt_resolved number caller (SwapStmt at left right) variables each numbered = tt
  stmt_resolved number caller (MemSwapStmt at pointer value) variables each numbered = tt
  stmt_resolved number caller (Else at stmts) variables each numbered = stmt_resolved number caller stmts variables each numbered
  stmt_resolved number caller (BlockStmt at body) variables each numbered = stmt_resolved number caller body variables each numbered
  stmt_resolved number caller (LetStmt at true target rhs) variables each numbered =
      rhs_resolved variables number caller rhs (each_first Holds (rhs_rules setting number caller variables rhs) (demand rule.TypeChanged target.at (fits (variable_type variables target.text) (rhs_type setting variables rhs)) ∷ []) each) numbered
  stmt_resolved number caller (LetStmt at false target rhs) variables each numbered =
      rhs_resolved variables number caller rhs (each_first Holds (rhs_rules setting number caller variables rhs) (demand rule.TypeChanged target.at (fits (variable_type variables target.text) (rhs_type setting variables rhs)) ∷ []) each.1) numbered
  stmt_resolved number caller (Then first rest) variables each numbered =
      let p = stmt_rules setting number caller variables first in
      let q = stmt_rules setting number caller (variables_after setting variables first) rest in
      each-append (IsResolved setting.scope) (stmt_targets first) (stmt_targets rest)
      (stmt_resolved number caller first variables (each_first Holds p q each) (each_first (IsNumbered setting.scope.targets) (stmt_targets first) (stmt_targets rest) numbered))
      (stmt_resolved number caller rest (variables_after setting variables first) (each_rest Holds p q each) (each_rest (IsNumbered setting.scope.targets) (stmt_targets first) (stmt_targets rest) numbered))
  stmt_resolved number caller (WithStmt at setup work) variables each numbered =
      let p = stmt_rules setting number caller variables setup in
      let q = stmt_rules setting number caller (variables_after setting variables setup) work in
      each-append (IsResolved setting.scope) (stmt_targets setup) (stmt_targets work)
      (stmt_resolved number caller setup variables (each_first Holds p q each) (each_first (IsNumbered setting.scope.targets) (stmt_targets setup) (stmt_targets work) numbered))
      (stmt_resolved number caller work (variables_after setting variables setup) (each_rest Holds p q each) (each_rest (IsNumbered setting.scope.targets) (stmt_targets setup) (stmt_targets work) numbered))
  stmt_resolved number caller (IfStmt at cond first other) variables each numbered =
      let p = stmt_rules setting number caller variables first in
      let q = stmt_rules setting number caller (variables_after setting variables first) other in
      let rules = each_rest Holds (path_rules variables (Some Boolean) cond) (p ++ q) each in
      each-append (IsResolved setting.scope) (stmt_targets first) (stmt_targets other)
      (stmt_resolved number caller first variables (each_first Holds p q rules) (each_first (IsNumbered setting.scope.targets) (stmt_targets first) (stmt_targets other) numbered))
      (stmt_resolved number caller other (variables_after setting variables first) (each_rest Holds p q rules) (each_rest (IsNumbered setting.scope.targets) (stmt_targets first) (stmt_targets other) numbered))

  -- parameters that keep the rules
  record ParamsSound (earlier : List Name) (params : List ParamTree) : Type 0 where
    pub resolved : AllByRecursion (λ param. IsResolved setting.scope param.ty) params
    pub targets : AllResolved (flat_map (λ param. targets_in param.ty) params)
    pub different : AreDifferent (map (λ param. param.name.text) params)
    pub new : (name : Name) → is_one_of name earlier ≡ true → is_one_of name (map (λ param. param.name.text) params) ≡ false

  params_sound : (earlier : List Name) (params : List ParamTree) → EachHolds (params_rules setting earlier params) → AllNumbered (flat_map (λ param. targets_in param.ty) params) → ParamsSound earlier params
  params_sound earlier [] each numbered = record { resolved = tt; targets = tt; different = tt; new = λ name on. refl }
  params_sound earlier (param ∷ params) each numbered =
      let first = param_rules setting earlier param in
      let rest = params_rules setting (earlier ++ param.name.text ∷ []) params in
      let rules = each_first Holds first rest each in
      let others = flat_map (λ (p : ParamTree). targets_in p.ty) params in
      let here = each_first (IsNumbered setting.scope.targets) (targets_in param.ty) others numbered in
      let deeper = params_sound (earlier ++ param.name.text ∷ []) params (each_rest Holds first rest each) (each_rest (IsNumbered setting.scope.targets) (targets_in param.ty) others numbered) in
      let apart = later earlier param.name.text (map (λ p. p.name.text) params) (not-true (is_one_of param.name.text earlier) rules.0) deeper.new in
      record {
        resolved = (resolved_if_kept setting param.ty rules.1 here, deeper.resolved);
        targets = each-append (IsResolved setting.scope) (targets_in param.ty) others (written_resolved param.ty rules.1 here) deeper.targets;
        different = (apart.0, deeper.different);
        new = apart.1;
      }

  -- the rules of the function of a number
  rules_at : (start : ℕ) (funs : List FunTree) (k : ℕ) (fun : FunTree) → slice_get funs k ≡ Some fun → EachHolds (funs_rules setting start funs) → EachHolds (fun_rules setting (start + k) fun)
  rules_at start [] k fun is each = absurd (none-some fun is)
  rules_at start (first ∷ rest) zero fun is each =
      subst (λ f. EachHolds (fun_rules setting (start + 0) f)) (some_is is)
      (subst (λ n. EachHolds (fun_rules setting n first)) (omega arith) (each_first Holds (fun_rules setting start first) (funs_rules setting (suc start) rest) each))
    where
      some_is : {x y : FunTree} → Some x ≡ Some y → x ≡ y
      some_is same = some_value same
  rules_at start (first ∷ rest) (suc k) fun is each =
      subst (λ n. EachHolds (fun_rules setting n fun)) (omega arith)
      (rules_at (suc start) rest k fun is (each_rest Holds (fun_rules setting start first) (funs_rules setting (suc start) rest) each))

  -- the rules of a function, part by part
  record FunRules (k : ℕ) (fun : FunTree) : Type 0 where
    pub params : EachHolds (params_rules setting [] fun.params)
    pub result : EachHolds (written_rules setting fun.result)
    pub body : EachHolds (stmt_rules setting k fun (param_variables setting fun.params) fun.body)
    pub return : EachHolds (return_rules setting fun (end_variables setting fun))

  fun_parts : (k : ℕ) (fun : FunTree) → EachHolds (fun_rules setting k fun) → FunRules k fun
  fun_parts k fun each =
      let a = params_rules setting [] fun.params in
      let b = written_rules setting fun.result in
      let c = stmt_rules setting k fun (param_variables setting fun.params) fun.body in
      let d = return_rules setting fun (end_variables setting fun) in
      let after_a = each_rest Holds a (b ++ (c ++ d)) each in
      let after_b = each_rest Holds b (c ++ d) after_a in
      record { params = each_first Holds a (b ++ (c ++ d)) each; result = each_first Holds b (c ++ d) after_a; body = each_first Holds c d after_b; return = each_rest Holds c d after_b }

  -- the targets in a function, part by part
  record FunTargets (fun : FunTree) : Type 0 where
    pub params : AllNumbered (flat_map (λ param. targets_in param.ty) fun.params)
    pub result : AllNumbered (targets_in fun.result)
    pub body : AllNumbered (stmt_targets fun.body)

  fun_targets : (fun : FunTree) → AllNumbered (decl_targets (FunDecl fun)) → FunTargets fun
  fun_targets fun numbered =
      let a = flat_map (λ (param : ParamTree). targets_in param.ty) fun.params in
      let after = each_rest (IsNumbered setting.scope.targets) a (targets_in fun.result ++ stmt_targets fun.body) numbered in
      record {
        params = each_first (IsNumbered setting.scope.targets) a (targets_in fun.result ++ stmt_targets fun.body) numbered;
        result = each_first (IsNumbered setting.scope.targets) (targets_in fun.result) (stmt_targets fun.body) after;
        body = each_rest (IsNumbered setting.scope.targets) (targets_in fun.result) (stmt_targets fun.body) after;
      }

  fun_resolved : (k : ℕ) (fun : FunTree) → FunRules k fun → FunTargets fun → AllResolved (decl_targets (FunDecl fun))
  fun_resolved k fun rules targets =
      each-append (IsResolved setting.scope) (flat_map (λ (param : ParamTree). targets_in param.ty) fun.params) (targets_in fun.result ++ stmt_targets fun.body)
      (params_sound [] fun.params rules.params targets.params).targets
      (each-append (IsResolved setting.scope) (targets_in fun.result) (stmt_targets fun.body)
      (written_resolved fun.result rules.result targets.result)
      (stmt_resolved k fun fun.body (param_variables setting fun.params) rules.body targets.body))

  -- all targets of declarations refer to what is there
  decls_resolved : (decls : List DeclTree) (start : ℕ) → AllByRecursion (IsResolvedAlias setting.scope) (aliases_of decls) → EachHolds (funs_rules setting start (funs_of decls)) → AllNumbered (flat_map decl_targets decls) → AllResolved (flat_map decl_targets decls)
  decls_resolved [] start aliases each numbered = tt
  decls_resolved (AliasDecl alias ∷ decls) start aliases each numbered =
      let rest = flat_map decl_targets decls in
      each-append (IsResolved setting.scope) (targets_in alias.body) rest
      (inner_resolved alias.body aliases.0.names (each_first (IsNumbered setting.scope.targets) (targets_in alias.body) rest numbered))
      (decls_resolved decls start aliases.1 each (each_rest (IsNumbered setting.scope.targets) (targets_in alias.body) rest numbered))
  decls_resolved (FunDecl fun ∷ decls) start aliases each numbered =
      let rest = flat_map decl_targets decls in
      let here = fun_rules setting start fun in
      let more = funs_rules setting (suc start) (funs_of decls) in
      each-append (IsResolved setting.scope) (decl_targets (FunDecl fun)) rest
      (fun_resolved start fun (fun_parts start fun (each_first Holds here more each)) (fun_targets fun (each_first (IsNumbered setting.scope.targets) (decl_targets (FunDecl fun)) rest numbered)))
      (decls_resolved decls (suc start) aliases (each_rest Holds here more each) (each_rest (IsNumbered setting.scope.targets) (decl_targets (FunDecl fun)) rest numbered))

  -- the list of targets without repetitions
  kept_resolved : (more targets : List WrittenTree) → AllResolved targets → AllResolved more → AllResolved (fold with_target targets more)
  kept_resolved [] targets all others = all
  kept_resolved (to ∷ more) targets all others = kept_resolved more (with_target targets to) (by (is_some (target_number targets to))) others.1
    where
      by : (k : Bool) → AllResolved (if k then targets else targets ++ to ∷ [])
      by true = all
      by false = each-append (IsResolved setting.scope) targets (to ∷ []) all (others.0, tt)

  -- the targets of each function have numbers
  funs_numbered : (decls : List DeclTree) → AllNumbered (flat_map decl_targets decls) → AllByRecursion FunTargets (funs_of decls)
  funs_numbered [] numbered = tt
  funs_numbered (AliasDecl alias ∷ decls) numbered = funs_numbered decls (each_rest (IsNumbered setting.scope.targets) (targets_in alias.body) (flat_map decl_targets decls) numbered)
  funs_numbered (FunDecl fun ∷ decls) numbered = (
    fun_targets fun (each_first (IsNumbered setting.scope.targets) (decl_targets (FunDecl fun)) (flat_map decl_targets decls) numbered),
    funs_numbered decls (each_rest (IsNumbered setting.scope.targets) (decl_targets (FunDecl fun)) (flat_map decl_targets decls) numbered),
  )

  -- a function by its name, and its number
  function_at : (name : Name) (fun : FunTree) → fun_named setting name ≡ Some fun → (k : ℕ) × (number_of setting.funs name ≡ Some k) × (slice_get setting.funs k ≡ Some fun)
  function_at name fun named =
      by_option (number_of setting.funs name) (λ none. absurd (none-some fun (ap (option_and_then (slice_get setting.funs)) (sym none) ∙ named)))
      (λ k is. (k, is, ap (option_and_then (slice_get setting.funs)) (sym is) ∙ named))

  module _ (types_known : TypesKnown setting) where
    known_params : (params : List ParamTree) → AllByRecursion (λ param. IsResolved setting.scope param.ty) params → AllByRecursion (λ param. (ty : Ty) × (type_of setting param.ty ≡ Some ty)) params
    known_params [] all = tt
    known_params (param ∷ params) all = (types_known.denoted param.ty all.0, known_params params all.1)

    -- the variables where a body begins
    variables_known : (params : List ParamTree) (variables : Variables) → AreKnown setting variables → AreKnown setting (fold (with_param setting) variables params)
    variables_known [] variables known = known
    variables_known (param ∷ params) variables known =
        variables_known params (with_param setting variables param) (with_known setting variables known param.name.text (type_of setting param.ty) (types_known.known param.ty))

    -- each parameter has its type
    params_typed : (params : List ParamTree) (variables : Variables) → map (λ variable. variable.0) variables ≡ map (λ param. param.name.text) params → map (λ variable. Some variable.1) variables ≡ map (λ param. type_of setting param.ty) params
        → AreDifferent (map (λ param. param.name.text) params) → AllByRecursion (λ param. variable_type variables param.name.text ≡ type_of setting param.ty) params
    params_typed [] variables names types different = tt
    params_typed (param ∷ params) [] names types different = absurd (nil_is_not_cons names)
      where
        nil_is_not_cons : {x : Name} {xs : List Name} → [] ≡ x ∷ xs → ⊥
        nil_is_not_cons same = cc
    params_typed (param ∷ params) (variable ∷ variables) names types different = (
      rw (sym (first_is names), name_test variable.0) (first_is types),
      later_typed params (subst (λ n. is_one_of n (map (λ param. param.name.text) params) ≡ false) (sym (first_is names)) different.0) (params_typed params variables (rest_is names) (rest_is types) different.1),
    )
      where
        first_is : {A : Type 0} {x y : A} {xs ys : List A} → x ∷ xs ≡ y ∷ ys → x ≡ y
        first_is same = cc

        rest_is : {A : Type 0} {x y : A} {xs ys : List A} → x ∷ xs ≡ y ∷ ys → xs ≡ ys
        rest_is same = cc

        later_typed : (rest : List ParamTree) → is_one_of variable.0 (map (λ param. param.name.text) rest) ≡ false → AllByRecursion (λ param. variable_type variables param.name.text ≡ type_of setting param.ty) rest
            → AllByRecursion (λ param. variable_type (variable ∷ variables) param.name.text ≡ type_of setting param.ty) rest
        later_typed [] differ all = tt
        later_typed (other ∷ rest) differ all =
            let parts = or_parts (bytes_eq variable.0 other.name.text) (is_one_of variable.0 (map (λ param. param.name.text) rest)) differ in
            (ap (λ k. if k then Some variable.1 else variable_type variables other.name.text) (bytes_eq-sym other.name.text variable.0 ∙ parts.0) ∙ all.0, later_typed rest parts.1 all.1)

    params_fit : (types : Types) (variables : Variables) → Grows variables types → (params : List ParamTree) → AllByRecursion (λ param. variable_type variables param.name.text ≡ type_of setting param.ty) params
        → AllByRecursion (λ param. (ty : Ty) × (type_of setting param.ty ≡ Some ty)) params → AllByRecursion (ParamFits setting types) params
    params_fit types variables grows [] typed all = tt
    params_fit types variables grows (param ∷ params) typed all =
        ((all.0.0, all.0.1, grows param.name.text all.0.0 (typed.0 ∙ all.0.1)), params_fit types variables grows params typed.1 all.1)

    -- types that are known
    are_known : (params : List ParamTree) → AllByRecursion (λ param. (ty : Ty) × (type_of setting param.ty ≡ Some ty)) params → AllByRecursion (λ param. Denoting.IsKnown setting param.ty) params
    are_known [] all = tt
    are_known (param ∷ params) all = (ap is_some all.0.1, are_known params all.1)

module _ (widths : Widths) (program : ProgramTree) (types : Name → Option Ty) (typed : IsTyped widths program types) where
  abbrev pub checked_setting : Setting
  checked_setting = setting_of widths program types

  aliases_each : AllByRecursion (IsResolvedAlias (scope_of program)) (aliases_of program.decls)
  aliases_each =
      let aliases = aliases_of program.decls in
      let first = different_rules [] (alias_names aliases) in
      let second = different_rules [] (fun_names (funs_of program.decls)) in
      let third = aliases_rules (declared_as aliases) aliases in
      let names = (none_broken-each (name_rules program)).1 typed.names in
      aliases_resolved program ((none_broken-each third).0 (each_rest Holds second third (each_rest Holds first (second ++ third) names)))

  funs_each : EachHolds (funs_rules checked_setting 0 (funs_of program.decls))
  funs_each =
      each_rest Holds (flat_map (alias_rules checked_setting) (aliases_of program.decls)) (funs_rules checked_setting 0 (funs_of program.decls))
      ((none_broken-each (type_rules checked_setting (aliases_of program.decls))).1 typed.typed)

  denoted : (written : WrittenTree) → IsResolved (scope_of program) written → (ty : Ty) × (type_of checked_setting written ≡ Some ty)
  denoted written is =
      let d = known (scope_of program) (aliases_of program.decls) refl aliases_each typed.finite written is in
      (d.0, denotes-type_of checked_setting typed.are_types d.1)

  numbered : AllByRecursion (IsNumbered (targets_of program)) (flat_map decl_targets program.decls)
  numbered = all_numbered (flat_map decl_targets program.decls) []

  pub targets_each : AllByRecursion (IsResolved (scope_of program)) (targets_of program)
  targets_each = kept_resolved checked_setting (flat_map decl_targets program.decls) [] tt (decls_resolved checked_setting program.decls 0 aliases_each funs_each numbered)

  types_are_known : TypesKnown checked_setting
  types_are_known = record {
    denoted = denoted;
    known = λ written ty is.
        known_denoted checked_setting (λ number target there. denoted target (get_all (IsResolved (scope_of program)) (targets_of program) number target targets_each there))
        (type_of-denotes checked_setting typed.are_types written ty is);
  }

  rules_of : (k : ℕ) (fun : FunTree) → slice_get (funs_of program.decls) k ≡ Some fun → FunRules checked_setting k fun
  rules_of k fun is = fun_parts checked_setting k fun (subst (λ n. EachHolds (fun_rules checked_setting n fun)) (omega arith) (rules_at checked_setting 0 (funs_of program.decls) k fun is funs_each))

  targets_of_fun : (k : ℕ) (fun : FunTree) → slice_get (funs_of program.decls) k ≡ Some fun → FunTargets checked_setting fun
  targets_of_fun k fun is = get_all (FunTargets checked_setting) (funs_of program.decls) k fun (funs_numbered checked_setting program.decls numbered) is

  head_known : (name : Name) (fun : FunTree) → fun_named checked_setting name ≡ Some fun → HeadKnown checked_setting fun
  head_known name fun named =
      let at = function_at checked_setting name fun named in
      let rules = rules_of at.0 fun at.2 in
      let targets = targets_of_fun at.0 fun at.2 in
      record {
        result = denoted fun.result (resolved_if_kept checked_setting fun.result rules.result targets.result);
        params = known_params checked_setting types_are_known fun.params (params_sound checked_setting [] fun.params rules.params targets.params).resolved;
      }

  -- a function that keeps the rules
  record FunSound (k : ℕ) (fun : FunTree) : Type 0 where
    pub fit : FunFits checked_setting fun
    pub descends : StmtDescends checked_setting k fun.body

  fun_sound : (name : Name) (k : ℕ) (fun : FunTree) → fun_named checked_setting name ≡ Some fun → slice_get (funs_of program.decls) k ≡ Some fun → FunSound k fun
  fun_sound name k fun named is =
      let rules = rules_of k fun is in
      let targets = targets_of_fun k fun is in
      let head = head_known name fun named in
      let ends = fun_types checked_setting fun in
      let params = params_sound checked_setting [] fun.params rules.params targets.params in
      let body = stmt_sound checked_setting types_are_known head_known ends k fun fun.body (param_variables checked_setting fun.params) (variables_known checked_setting types_are_known fun.params [] (λ n ty found. absurd (none-some ty found))) (λ n ty found. found) rules.body targets.body in
      let first = params_first checked_setting fun.params rules.params (are_known checked_setting types_are_known fun.params head.params) in
      let returned = is_there (ends fun.returned.text) rules.return.0 in
      let same = fits_equal head.result.0 returned.0 (subst (λ o. fits o (Some returned.0) ≡ true) head.result.1 (subst (λ o. fits (type_of checked_setting fun.result) o ≡ true) returned.1 rules.return.1.1.0)) in
      record {
        fit = record {
          body = body.fit;
          params = params_fit checked_setting types_are_known ends (param_variables checked_setting fun.params) (grows_after checked_setting (param_variables checked_setting fun.params) fun.body) fun.params
              (params_typed checked_setting types_are_known fun.params (param_variables checked_setting fun.params) first.names first.types params.different) head.params;
          result = (head.result.0, head.result.1, returned.1 ∙ ap Some (sym same));
          different = (not-true (is_one_of fun.returned.text (map (λ param. param.name.text) fun.params)) rules.return.1.0, params.different);
        };
        descends = body.descends;
      }

  -- each function of a well-typed program has its types
  pub funs_fit : FunsFit checked_setting
  funs_fit name fun named =
      let at = function_at checked_setting name fun named in (fun_sound name at.0 fun named at.2).fit

  -- a well-typed program whose functions are right is sound
  pub sound : AllByRecursion IsRight (funs_of program.decls) → IsSound checked_setting
  sound right = record {
    fit = funs_fit;
    right = λ name fun named. let at = function_at checked_setting name fun named in get_all IsRight (funs_of program.decls) at.0 fun right at.2;
    descend = λ name k fun number named.
        (fun_sound name k fun named (ap (option_and_then (slice_get (funs_of program.decls))) (sym number) ∙ named)).descends;
  }
