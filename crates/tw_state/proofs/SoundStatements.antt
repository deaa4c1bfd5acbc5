-- The rules of types of a program give typed statements whose calls go down.
use Rattle.std.proofs.Common.{◌≡◌, ◌∙◌, ◌==◌, refl, sym, ap, subst, arith, ltb, ltb-true, ℕ, pred, Bool, true, false, ◌||◌, ◌&&◌, if◌then◌else◌, List, [], ◌∷◌, ◌++◌, map, length, get_or, slice_get, Option, Some, None, is_some, option_and_then, bytes_eq, ◌⊎◌, inl, inr, ⊎_elim}
use Rattle.std.specs.List.{AllByRecursion}
use Rattle.std.proofs.lemmas.Bool.{and_parts, not-true}
use Rattle.std.proofs.lemmas.Bool.Decides.{Decides-eqb}
use Rattle.std.proofs.lemmas.Option.{slice_get-get_or, none-some}
use Rattle.std.proofs.lemmas.List.Quantifiers.{position-Some}
use Rattle.tw_syntax.specs.Names.{NameTree}
use Rattle.tw_syntax.specs.Programs.{ParamTree, FunTree}
use Rattle.tw_syntax.specs.Statements.{StmtTree, Nothing, Then, Else, LetStmt, SwapStmt, MemSwapStmt, IfStmt, WithStmt, BlockStmt, SkipStmt}
use Rattle.tw_syntax.specs.Terms.{BoundTree, FixedBound, SameBound, LessBound, RhsTree, ExprRhs, CallRhs, AllocRhs}
use Rattle.tw_syntax.specs.Types.{PtrType}
use Rattle.tw_text.specs.Places.{first_place}
use Rattle.std.proofs.Math.Bool.{beq}
use Rattle.tw_types.specs.Types.{Ty, UnitTy, Word, Boolean, Pointer, PairTy}
use Rattle.tw_resolve.specs.AliasTypes.{IsNumbered}
use Rattle.tw_resolve.specs.Declarations.{Name, is_one_of, number_of, rhs_targets, stmt_targets}
use Rattle.tw_resolve.specs.Expressions.{Types, Variables, variable_type, path_type, rhs_type, fun_named, is_own, is_smaller, may_call, matches_declared, if_there, params_of, callee_rules, bound_rules, arg_rules, args_rules, rhs_rules, path_rules}
use Rattle.tw_resolve.specs.Setting.{Setting, type_of, pointee, fits}
use Rattle.tw_resolve.specs.Statements.{with_variable, variables_after, stmt_rules, is_pointer}
use Rattle.tw_text.specs.declared.refusal.Rule.TheVariants as rule
use Rattle.tw_resolve.specs.Demands.{demand}
use Rattle.tw_resolve.proofs.Demands.{Holds, EachHolds}
use Rattle.tw_resolve.proofs.Each.{each_first, each_rest}
use Rattle.tw_resolve.proofs.Texts.{bytes_eq-sym}
use Rattle.tw_check.proofs.NameSets.{is_one_of-append, names_differ}
use Rattle.tw_state.proofs.Basics.{same_some, by_option, name_test, contradiction}
use Rattle.tw_state.proofs.Calls.{AreDifferent}
use Rattle.tw_state.proofs.Known.{IsKnown}
use Rattle.tw_state.proofs.TypedTrees.{ArgsFit, RhsFits, StmtFits}
use Rattle.tw_state.proofs.CallEnds.{MayCall, CallsEarlier, CallsItself, IsLess, RhsDescends, StmtDescends}
use Rattle.tw_state.proofs.SoundExpressions.{TypesKnown, Grows, is_there, fits_equal, pointer_known, path_sound, expr_sound}

-- a variable keeps its type in a longer list
type_in_longer : (variables more : Variables) (name : Name) (ty : Ty) → variable_type variables name ≡ Some ty → variable_type (variables ++ more) name ≡ Some ty
type_in_longer [] more name ty is = absurd (none-some ty is)
type_in_longer (first ∷ variables) more name ty is = by (bytes_eq name first.0) is (type_in_longer variables more name ty)
  where
    by : (k : Bool) → (if k then Some first.1 else variable_type variables name) ≡ Some ty → (variable_type variables name ≡ Some ty → variable_type (variables ++ more) name ≡ Some ty)
        → (if k then Some first.1 else variable_type (variables ++ more) name) ≡ Some ty
    by true is deeper = is
    by false is deeper = deeper is

-- a new variable has its type
type_of_last : (variables : Variables) (name : Name) (ty : Ty) → is_some (variable_type variables name) ≡ false → variable_type (variables ++ (name, ty) ∷ []) name ≡ Some ty
type_of_last [] name ty none = rw (name_test name) refl
type_of_last (first ∷ variables) name ty none = by (bytes_eq name first.0) none (type_of_last variables name ty)
  where
    by : (k : Bool) → is_some (if k then Some first.1 else variable_type variables name) ≡ false → (is_some (variable_type variables name) ≡ false → variable_type (variables ++ (name, ty) ∷ []) name ≡ Some ty)
        → (if k then Some first.1 else variable_type (variables ++ (name, ty) ∷ []) name) ≡ Some ty
    by true none deeper = contradiction {test = true} refl none
    by false none deeper = deeper none

-- the type of a variable is that of an earlier one, or of the last one
type_in_either : (variables : Variables) (name other : Name) (new ty : Ty) → variable_type (variables ++ (name, new) ∷ []) other ≡ Some ty → (variable_type variables other ≡ Some ty) ⊎ (new ≡ ty)
type_in_either [] name other new ty is = by (bytes_eq other name) is
  where
    by : (k : Bool) → (if k then Some new else None) ≡ Some ty → (None ≡ Some ty) ⊎ (new ≡ ty)
    by true is = inr (same_some refl is)
    by false is = inl is
type_in_either (first ∷ variables) name other new ty is = by (bytes_eq other first.0) is (type_in_either variables name other new ty)
  where
    by : (k : Bool) → (if k then Some first.1 else variable_type (variables ++ (name, new) ∷ []) other) ≡ Some ty
        → (variable_type (variables ++ (name, new) ∷ []) other ≡ Some ty → (variable_type variables other ≡ Some ty) ⊎ (new ≡ ty)) → ((if k then Some first.1 else variable_type variables other) ≡ Some ty) ⊎ (new ≡ ty)
    by true is deeper = inl is
    by false is deeper = deeper is

-- variables keep their types
pub with_variable_keeps : (variables : Variables) (name : Name) (o : Option Ty) → Grows variables (variable_type (with_variable variables name o))
with_variable_keeps variables name None other ty is = is
with_variable_keeps variables name (Some new) other ty is = by (is_some (variable_type variables name))
  where
    by : (k : Bool) → variable_type (if k then variables else variables ++ (name, new) ∷ []) other ≡ Some ty
    by true = is
    by false = type_in_longer variables ((name, new) ∷ []) other ty is

with_variable_new : (variables : Variables) (name : Name) (o : Option Ty) → is_some (variable_type variables name) ≡ false → variable_type (with_variable variables name o) name ≡ o
with_variable_new variables name None none = no_value (variable_type variables name) none
  where
    no_value : (o : Option Ty) → is_some o ≡ false → o ≡ None
    no_value None none = refl
    no_value (Some ty) none = contradiction {test = true} refl none
with_variable_new variables name (Some ty) none = rw none (type_of_last variables name ty none)

pub grows_after : (setting : Setting) (variables : Variables) (s : StmtTree) → Grows variables (variable_type (variables_after setting variables s))
grows_after setting variables Nothing name ty is = is
grows_after setting variables (Then first rest) name ty is = grows_after setting (variables_after setting variables first) rest name ty (grows_after setting variables first name ty is)
grows_after setting variables (Else at stmts) name ty is = grows_after setting variables stmts name ty is
grows_after setting variables (LetStmt at true target rhs) name ty is = with_variable_keeps variables target.text (rhs_type setting variables rhs) name ty is
grows_after setting variables (LetStmt at false target rhs) name ty is = is
grows_after setting variables (SwapStmt at left right) name ty is = is
grows_after setting variables (MemSwapStmt at pointer value) name ty is = is
grows_after setting variables (IfStmt at cond first other) name ty is = grows_after setting (variables_after setting variables first) other name ty (grows_after setting variables first name ty is)
grows_after setting variables (WithStmt at setup work) name ty is = grows_after setting (variables_after setting variables setup) work name ty (grows_after setting variables setup name ty is)
grows_after setting variables (BlockStmt at body) name ty is = grows_after setting variables body name ty is
grows_after setting variables (SkipStmt at) name ty is = is

-- variables that grow into others after a statement grow into them
grows_past : (setting : Setting) (variables : Variables) (s : StmtTree) {types : Types} → Grows (variables_after setting variables s) types → Grows variables types
grows_past setting variables s grows name ty is = grows name ty (grows_after setting variables s name ty is)

grows_with : (variables : Variables) (name : Name) (o : Option Ty) {types : Types} → Grows (with_variable variables name o) types → Grows variables types
grows_with variables name o grows other ty is = grows other ty (with_variable_keeps variables name o other ty is)

-- the types of variables are known
abbrev pub AreKnown : Setting → Variables → Type 0
AreKnown setting variables = (name : Name) (ty : Ty) → variable_type variables name ≡ Some ty → IsKnown setting ty

-- variables with one more whose type is known, if it has one
pub with_known : (setting : Setting) (variables : Variables) → AreKnown setting variables → (name : Name) (o : Option Ty) → ((ty : Ty) → o ≡ Some ty → IsKnown setting ty) → AreKnown setting (with_variable variables name o)
with_known setting variables known name None is = known
with_known setting variables known name (Some new) is = by (is_some (variable_type variables name))
  where
    by : (k : Bool) → AreKnown setting (if k then variables else variables ++ (name, new) ∷ [])
    by true other ty found = known other ty found
    by false other ty found = ⊎_elim (known other ty) (λ same. subst (IsKnown setting) same (is new refl)) (type_in_either variables name other new ty found)

-- the types in the head of a function are known
pub record HeadKnown (setting : Setting) (fun : FunTree) : Type 0 where
  pub result : (ty : Ty) × (type_of setting fun.result ≡ Some ty)
  pub params : AllByRecursion (λ param. (ty : Ty) × (type_of setting param.ty ≡ Some ty)) fun.params

-- a name after those that came before differs from them
pub later : (earlier : List Name) (name : Name) (rest : List Name) → is_one_of name earlier ≡ false → ((other : Name) → is_one_of other (earlier ++ name ∷ []) ≡ true → is_one_of other rest ≡ false)
    → (is_one_of name rest ≡ false) × ((other : Name) → is_one_of other earlier ≡ true → is_one_of other (name ∷ rest) ≡ false)
later earlier name rest new deeper = (
  deeper name (is_one_of-append name earlier (name ∷ []) ∙ last name (is_one_of name earlier) (name_test name)),
  λ other on.
      ap (λ k. k || is_one_of other rest) (bytes_eq-sym other name ∙ names_differ (λ n. is_one_of n earlier) name other new on)
      ∙ deeper other (is_one_of-append other earlier (name ∷ []) ∙ ap (λ k. k || (bytes_eq other name || false)) on),
)
  where
    last : (n : Name) (k : Bool) → bytes_eq n name ≡ true → (k || (bytes_eq n name || false)) ≡ true
    last n true is = refl
    last n false is = ap (λ l. l || false) is

module _ (setting : Setting) (types_known : TypesKnown setting) (funs_known : (name : Name) (fun : FunTree) → fun_named setting name ≡ Some fun → HeadKnown setting fun) (types : Types) where
  -- arguments that keep the rules
  pub record ArgsSound (earlier : List Name) (params : List ParamTree) (args : List NameTree) : Type 0 where
    pub fit : ArgsFit setting types params args
    pub once : AreDifferent (map (λ arg. arg.text) args)
    pub new : (name : Name) → is_one_of name earlier ≡ true → is_one_of name (map (λ arg. arg.text) args) ≡ false

  args_sound : (variables : Variables) → Grows variables types → (earlier : List Name) (params : List ParamTree) (args : List NameTree) → length args ≡ length params → AllByRecursion (λ param. (ty : Ty) × (type_of setting param.ty ≡ Some ty)) params
      → EachHolds (args_rules setting variables earlier params args) → ArgsSound earlier params args
  args_sound variables grows earlier [] [] len known each = record { fit = tt; once = tt; new = λ name on. refl }
  args_sound variables grows earlier (param ∷ params) (arg ∷ args) len known each =
      let first = arg_rules variables earlier (type_of setting param.ty) arg in
      let rest = args_rules setting variables (earlier ++ arg.text ∷ []) params args in
      let rules = each_first Holds first rest each in
      let deeper = args_sound variables grows (earlier ++ arg.text ∷ []) params args (ap pred len) known.1 (each_rest Holds first rest each) in
      let ty = is_there (variable_type variables arg.text) rules.0 in
      let same = fits_equal known.0.0 ty.0 (subst (λ o. fits o (Some ty.0) ≡ true) known.0.1 (subst (λ o. fits (type_of setting param.ty) o ≡ true) ty.1 rules.1.1.0)) in
      let apart = later earlier arg.text (map (λ a. a.text) args) (not-true (is_one_of arg.text earlier) rules.1.0) deeper.new in
      record {
        fit = ((known.0.0, known.0.1, grows arg.text ty.0 ty.1 ∙ ap Some (sym same)), deeper.fit);
        once = (apart.0, deeper.once);
        new = apart.1;
      }
  args_sound variables grows earlier [] (arg ∷ args) len known each = absurd (omega (arith, len))
  args_sound variables grows earlier (param ∷ params) [] len known each = absurd (omega (arith, len))

  module _ (number : ℕ) (caller : FunTree) where
    -- calls go down
    goes_down : (j : ℕ) (bound : Option BoundTree) → may_call number j (is_smaller caller bound) ≡ true → MayCall number j bound
    goes_down j bound test = by (ltb j number) (j == number) refl refl test
      where
        less : (bound : Option BoundTree) → is_smaller caller bound ≡ true → IsLess bound
        less (Some (LessBound name n)) test = ltb-true 0 n (and_parts (is_own caller.bound name) (ltb 0 n) test).1
        less (Some (FixedBound n)) test = contradiction {test = true} refl (sym test)
        less (Some (SameBound name)) test = contradiction {test = true} refl (sym test)
        less None test = contradiction {test = true} refl (sym test)

        by : (k l : Bool) → ltb j number ≡ k → (j == number) ≡ l → (k || (l && is_smaller caller bound)) ≡ true → MayCall number j bound
        by true l p q test = CallsEarlier (ltb-true j number p)
        by false true p q test = CallsItself ((Decides-eqb j number).0 q) (less bound test)
        by false false p q test = contradiction {test = true} refl (sym test)

    -- a right side that keeps the rules
    pub record RhsSound (variables : Variables) (rhs : RhsTree) : Type 0 where
      pub ty : Ty
      pub is : rhs_type setting variables rhs ≡ Some ty
      pub fit : RhsFits setting types rhs ty
      pub descends : RhsDescends setting number rhs
      pub known : IsKnown setting ty

    rhs_sound : (variables : Variables) → Grows variables types → AreKnown setting variables → (rhs : RhsTree) → EachHolds (rhs_rules setting number caller variables rhs) → AllByRecursion (IsNumbered setting.scope.targets) (rhs_targets rhs) → RhsSound variables rhs
    rhs_sound variables grows known (ExprRhs expr) each numbered =
        let e = expr_sound setting types_known variables types grows known expr each numbered in
        record { ty = e.ty; is = e.is; fit = e.fit; descends = tt; known = e.known }
    rhs_sound variables grows known (AllocRhs to) each numbered =
        let p = pointer_known setting types_known to each numbered in
        let content = types_known.known (PtrType first_place to) (Pointer p.0) p.2 in
        record {
          ty = Pointer p.0;
          is = p.2;
          fit = record { target = p.0; content = content.0; numbered = p.1; denotes = content.1; pointer = refl };
          descends = tt;
          known = content;
        }
    rhs_sound variables grows known (CallRhs callee bound args) each numbered =
        let head = callee_rules setting number caller callee bound args in
        let tail = bound_rules caller bound ++ args_rules setting variables [] (params_of (fun_named setting callee.text)) args in
        let rules = each_first Holds head tail each in
        let j = is_there (number_of setting.funs callee.text) rules.0 in
        let there = position-Some (λ fun. bytes_eq callee.text fun.name.text) setting.funs j.0 caller j.1 in
        call (each_rest Holds (bound_rules caller bound) (args_rules setting variables [] (params_of (fun_named setting callee.text)) args) (each_rest Holds head tail each))
        j.0 j.1 (get_or setting.funs j.0 caller) (ap (option_and_then (slice_get setting.funs)) j.1 ∙ slice_get-get_or setting.funs j.0 caller there.0) rules
      where
        call : EachHolds (args_rules setting variables [] (params_of (fun_named setting callee.text)) args) → (j : ℕ) → number_of setting.funs callee.text ≡ Some j → (fun : FunTree) → fun_named setting callee.text ≡ Some fun
            → EachHolds (callee_rules setting number caller callee bound args) → RhsSound variables (CallRhs callee bound args)
        call args_each j is_j fun named rules =
            let head_known = funs_known callee.text fun named in
            let matches : matches_declared bound args fun ≡ true = subst (λ o. if_there o (matches_declared bound args) ≡ true) named rules.1.1.0 in
            let len = (Decides-eqb (length args) (length fun.params)).0 (and_parts (beq (is_some bound) (is_some fun.bound)) (length args == length fun.params) matches).1 in
            let sound = args_sound variables grows [] fun.params args len head_known.params (subst (λ o. EachHolds (args_rules setting variables [] (params_of o) args)) named args_each) in
            record {
              ty = head_known.result.0;
              is = ap (option_and_then (λ (f : FunTree). type_of setting f.result)) named ∙ head_known.result.1;
              fit = record { fun = fun; named = named; result = head_known.result.1; fit = sound.fit; once = sound.once };
              descends = (j, is_j, goes_down j bound (subst (λ o. if_there o (λ other. may_call number other (is_smaller caller bound)) ≡ true) is_j rules.1.0));
              known = types_known.known fun.result head_known.result.0 head_known.result.1;
            }

    -- a statement that keeps the rules
    pub record StmtSound (variables : Variables) (s : StmtTree) : Type 0 where
      pub fit : StmtFits setting types s
      pub descends : StmtDescends setting number s
      pub known : AreKnown setting (variables_after setting variables s)

    pointer_of : (ty : Ty) → is_pointer ty ≡ true → (target : ℕ) × (ty ≡ Pointer target)
    pointer_of (Pointer target) is = (target, refl)
    pointer_of UnitTy is = contradiction {test = true} refl (sym is)
    pointer_of Word is = contradiction {test = true} refl (sym is)
    pointer_of Boolean is = contradiction {test = true} refl (sym is)
    pointer_of (PairTy first second) is = contradiction {test = true} refl (sym is)

    new_known : (variables : Variables) → AreKnown setting variables → (name : Name) (o : Option Ty) (ty : Ty) → o ≡ Some ty → IsKnown setting ty → AreKnown setting (with_variable variables name o)
    new_known variables known name o ty is is_known = with_known setting variables known name o (λ t same. subst (IsKnown setting) (same_some is same) is_known)

    pub stmt_sound : (s : StmtTree) (variables : Variables) → AreKnown setting variables → Grows (variables_after setting variables s) types → EachHolds (stmt_rules setting number caller variables s) → AllByRecursion (IsNumbered setting.scope.targets) (stmt_targets s) → StmtSound variables s
    stmt_sound Nothing variables known grows each numbered = record { fit = tt; descends = tt; known = known }
    stmt_sound (SkipStmt at) variables known grows each numbered = record { fit = tt; descends = tt; known = known }
    stmt_sound (Else at stmts) variables known grows each numbered =
        let a = stmt_sound stmts variables known grows each numbered in record { fit = a.fit; descends = a.descends; known = a.known }
    stmt_sound (BlockStmt at body) variables known grows each numbered =
        let a = stmt_sound body variables known grows each numbered in record { fit = a.fit; descends = a.descends; known = a.known }
    stmt_sound (Then first rest) variables known grows each numbered =
        let middle = variables_after setting variables first in
        let p = stmt_rules setting number caller variables first in
        let q = stmt_rules setting number caller middle rest in
        let a = stmt_sound first variables known (grows_past setting middle rest grows) (each_first Holds p q each) (each_first (IsNumbered setting.scope.targets) (stmt_targets first) (stmt_targets rest) numbered) in
        let b = stmt_sound rest middle a.known grows (each_rest Holds p q each) (each_rest (IsNumbered setting.scope.targets) (stmt_targets first) (stmt_targets rest) numbered) in
        record { fit = (a.fit, b.fit); descends = (a.descends, b.descends); known = b.known }
    stmt_sound (WithStmt at setup work) variables known grows each numbered =
        let middle = variables_after setting variables setup in
        let p = stmt_rules setting number caller variables setup in
        let q = stmt_rules setting number caller middle work in
        let a = stmt_sound setup variables known (grows_past setting middle work grows) (each_first Holds p q each) (each_first (IsNumbered setting.scope.targets) (stmt_targets setup) (stmt_targets work) numbered) in
        let b = stmt_sound work middle a.known grows (each_rest Holds p q each) (each_rest (IsNumbered setting.scope.targets) (stmt_targets setup) (stmt_targets work) numbered) in
        record { fit = (a.fit, b.fit); descends = (a.descends, b.descends); known = b.known }
    stmt_sound (IfStmt at cond first other) variables known grows each numbered =
        let middle = variables_after setting variables first in
        let c = path_rules variables (Some Boolean) cond in
        let p = stmt_rules setting number caller variables first in
        let q = stmt_rules setting number caller middle other in
        let rules = each_rest Holds c (p ++ q) each in
        let start = grows_past setting variables first (grows_past setting middle other grows) in
        let path = path_sound setting types_known variables types start known (Some Boolean) cond (each_first Holds c (p ++ q) each) in
        let a = stmt_sound first variables known (grows_past setting middle other grows) (each_first Holds p q rules) (each_first (IsNumbered setting.scope.targets) (stmt_targets first) (stmt_targets other) numbered) in
        let b = stmt_sound other middle a.known grows (each_rest Holds p q rules) (each_rest (IsNumbered setting.scope.targets) (stmt_targets first) (stmt_targets other) numbered) in
        record { fit = (path.at_end ∙ ap Some (sym (fits_equal Boolean path.ty path.fitting)), a.fit, b.fit); descends = (a.descends, b.descends); known = b.known }
    stmt_sound (SwapStmt at left right) variables known grows each numbered =
        let p = path_rules variables None left in
        let q = path_rules variables (path_type variables left) right in
        let a = path_sound setting types_known variables types grows known None left (each_first Holds p q each) in
        let b = path_sound setting types_known variables types grows known (path_type variables left) right (each_rest Holds p q each) in
        let same = fits_equal a.ty b.ty (subst (λ o. fits o (Some b.ty) ≡ true) a.is b.fitting) in
        record { fit = (a.ty, a.at_end, b.at_end ∙ ap Some (sym same)); descends = tt; known = known }
    stmt_sound (MemSwapStmt at pointer value) variables known grows each numbered =
        let p = path_rules variables None pointer in
        let q = demand rule.TypeMismatch pointer.root.at (if_there (path_type variables pointer) is_pointer) ∷ path_rules variables (pointee setting (path_type variables pointer)) value in
        let rest = each_rest Holds p q each in
        let a = path_sound setting types_known variables types grows known None pointer (each_first Holds p q each) in
        let target = pointer_of a.ty (subst (λ o. if_there o is_pointer ≡ true) a.is rest.0) in
        let content = subst (IsKnown setting) target.1 a.known in
        let b = path_sound setting types_known variables types grows known (pointee setting (path_type variables pointer)) value rest.1 in
        let needed : pointee setting (path_type variables pointer) ≡ Some content.0 = ap (pointee setting) (a.is ∙ ap Some target.1) ∙ content.1 in
        let same = fits_equal content.0 b.ty (subst (λ o. fits o (Some b.ty) ≡ true) needed b.fitting) in
        record { fit = (target.0, content.0, a.at_end ∙ ap Some target.1, content.1, b.at_end ∙ ap Some (sym same)); descends = tt; known = known }
    stmt_sound (LetStmt at true target rhs) variables known grows each numbered =
        let p = rhs_rules setting number caller variables rhs in
        let q = demand rule.TypeChanged target.at (fits (variable_type variables target.text) (rhs_type setting variables rhs)) ∷ [] in
        let r = rhs_sound variables (grows_with variables target.text (rhs_type setting variables rhs) grows) known rhs (each_first Holds p q each) numbered in
        let fitting = (each_rest Holds p q each).0 in
        record {
          fit = (r.ty, target_type r.ty r.is fitting, r.fit);
          descends = r.descends;
          known = new_known variables known target.text (rhs_type setting variables rhs) r.ty r.is r.known;
        }
      where
        target_type : (ty : Ty) → rhs_type setting variables rhs ≡ Some ty → fits (variable_type variables target.text) (rhs_type setting variables rhs) ≡ true → types target.text ≡ Some ty
        target_type ty is fitting =
            by_option (variable_type variables target.text)
            (λ none. grows target.text ty (with_variable_new variables target.text (rhs_type setting variables rhs) (ap is_some none) ∙ is))
            (λ t found.
            grows target.text ty
            (with_variable_keeps variables target.text (rhs_type setting variables rhs) target.text ty
            (found ∙ ap Some (fits_equal t ty (subst (λ o. fits (Some t) o ≡ true) is (subst (λ o. fits o (rhs_type setting variables rhs) ≡ true) found fitting))))))
    stmt_sound (LetStmt at false target rhs) variables known grows each numbered =
        let p = rhs_rules setting number caller variables rhs in
        let q = demand rule.TypeChanged target.at (fits (variable_type variables target.text) (rhs_type setting variables rhs)) ∷ [] in
        let r = rhs_sound variables grows known rhs (each_first Holds p q each.1) numbered in
        let t = is_there (variable_type variables target.text) each.0 in
        let fitting = (each_rest Holds p q each.1).0 in
        let same = fits_equal t.0 r.ty (subst (λ o. fits (Some t.0) o ≡ true) r.is (subst (λ o. fits o (rhs_type setting variables rhs) ≡ true) t.1 fitting)) in
        record { fit = (r.ty, grows target.text t.0 t.1 ∙ ap Some same, r.fit); descends = r.descends; known = known }
