-- What a callee sees of its caller, and what its caller keeps.
use Rattle.std.proofs.Common.{◌≡◌, ◌∙◌, refl, sym, ap, subst, subst₂, ℕ, true, false, ◌||◌, List, [], ◌∷◌, map, Some, None, bytes_eq}
use Rattle.std.proofs.Math.Path.{fun_ext}
use Rattle.std.proofs.lemmas.Bool.{or_parts}
use Rattle.tw_syntax.specs.Names.{NameTree}
use Rattle.tw_syntax.specs.Programs.{ParamTree, FunTree}
use Rattle.tw_resolve.specs.Declarations.{is_one_of}
use Rattle.tw_resolve.specs.Expressions.{fun_named}
use Rattle.tw_resolve.specs.Setting.{Setting}
use Rattle.tw_resolve.proofs.Texts.{bytes_eq-sym}
use Rattle.tw_check.specs.Liveness.{param_names}
use Rattle.tw_check.specs.Reverse.{reverse_of}
use Rattle.tw_state.specs.States.{Name, Store, State}
use Rattle.tw_state.specs.Steps.{activation_of, param_links, links, seen, seen_by, KeepsOthers}
use Rattle.tw_state.specs.Semantics.{Runs}
use Rattle.tw_state.proofs.Basics.{by_test, same_name, name_test, contradiction}
use Rattle.tw_state.proofs.SingleSteps.{same_state}

-- the names are all different
abbrev pub AreDifferent : List Name → Type 0
AreDifferent [] = Unit {0}
AreDifferent (name ∷ names) = (is_one_of name names ≡ false) × AreDifferent names

-- the returned name and the parameters of each function are all different
abbrev pub HaveDifferentNames : Setting → Type 0
HaveDifferentNames setting = (name : Name) (fun : FunTree) → fun_named setting name ≡ Some fun → AreDifferent (fun.returned.text ∷ param_names fun)

-- the names of a callee, and those of a caller
abbrev pub inner : List (Name × Name) → List Name
inner shared = map (λ link. link.0) shared

abbrev pub outer : List (Name × Name) → List Name
outer shared = map (λ link. link.1) shared

inner_among : (name : Name) (params : List ParamTree) (args : List NameTree) → is_one_of name (map (λ param. param.name.text) params) ≡ false → is_one_of name (inner (param_links params args)) ≡ false
inner_among name [] args none = refl
inner_among name (param ∷ params) [] none = refl
inner_among name (param ∷ params) (arg ∷ args) none =
    let parts = or_parts (bytes_eq name param.name.text) (is_one_of name (map (λ p. p.name.text) params)) none in
    rw (parts.0, inner_among name params args parts.1) refl

params_different : (params : List ParamTree) (args : List NameTree) → AreDifferent (map (λ param. param.name.text) params) → AreDifferent (inner (param_links params args))
params_different [] args different = tt
params_different (param ∷ params) [] different = tt
params_different (param ∷ params) (arg ∷ args) different = (inner_among param.name.text params args different.0, params_different params args different.1)

-- the inner names of a call are different
pub links_different : (fun : FunTree) (target : NameTree) (args : List NameTree) → AreDifferent (fun.returned.text ∷ param_names fun) → AreDifferent (inner (links fun target args))
links_different fun target args different = (inner_among fun.returned.text fun.params args different.0, params_different fun.params args different.1)

-- a name that is not shared has no value for the callee
pub unseen : (shared : List (Name × Name)) (store : Store) (name : Name) → is_one_of name (inner shared) ≡ false → seen shared store name ≡ None
unseen [] store name none = refl
unseen (link ∷ more) store name none =
    let parts = or_parts (bytes_eq name link.0) (is_one_of name (inner more)) none in
    rw (bytes_eq-sym link.0 name, parts.0) (unseen more store name parts.1)

-- stores of which a callee sees the same have the same values of shared names
pub outer_same : (shared : List (Name × Name)) (x y : Store) → AreDifferent (inner shared) → seen shared x ≡ seen shared y
    → (name : Name) → is_one_of name (outer shared) ≡ true → x name ≡ y name
outer_same [] x y different same name one = contradiction one refl
outer_same (link ∷ more) x y different same name one =
    by_test (bytes_eq name link.1)
    (λ is. subst (λ n. x n ≡ y n) (sym (same_name name link.1 is)) first)
    (λ other. outer_same more x y different.1 (fun_ext rest) name (subst (λ k. (k || is_one_of name (outer more)) ≡ true) other one))
  where
    seen_first : (s : Store) → seen (link ∷ more) s link.0 ≡ s link.1
    seen_first s = rw (name_test link.0) refl

    seen_later : (s : Store) (n : Name) → bytes_eq link.0 n ≡ false → seen (link ∷ more) s n ≡ seen more s n
    seen_later s n other = rw other refl

    first : x link.1 ≡ y link.1
    first = sym (seen_first x) ∙ ap (λ (s : Store). s link.0) same ∙ seen_first y

    rest : (n : Name) → seen more x n ≡ seen more y n
    rest n =
        by_test (bytes_eq link.0 n)
        (λ is. subst (λ m. seen more x m ≡ seen more y m) (same_name link.0 n is) (unseen more x link.0 different.0 ∙ sym (unseen more y link.0 different.0)))
        (λ other. sym (seen_later x n other) ∙ ap (λ (s : Store). s n) same ∙ seen_later y n other)

-- what the callee sees and the other names determine a state
pub call_end : (shared : List (Name × Name)) (old : Store) (x y : State) → AreDifferent (inner shared) → seen_by shared x ≡ seen_by shared y
    → KeepsOthers shared old x.store → KeepsOthers shared old y.store → x ≡ y
call_end shared old x y different same a b =
    same_state (ap (λ (s : State). s.head) same) (ap (λ (s : State). s.cells) same)
    (fun_ext (λ name.
    by_test (is_one_of name (outer shared))
    (outer_same shared x.store y.store different (ap (λ (s : State). s.store) same) name)
    (λ other. a name other ∙ sym (b name other))))

module _ (setting : Setting) where
  -- a call of one function with one bound, forward and backward
  pub same_call : {fun other : FunTree} {n m : ℕ} (target : NameTree) (args : List NameTree) (old new : State) → fun ≡ other → n ≡ m
      → Runs setting (activation_of setting other m) other.body (seen_by (links other target args) old) (seen_by (links other target args) new)
      → Runs setting (activation_of setting fun n) fun.body (seen_by (links fun target args) old) (seen_by (links fun target args) new)
  same_call {fun} {other} {n} {m} target args old new same bounds runs =
      subst₂ (λ f k. Runs setting (activation_of setting f k) f.body (seen_by (links f target args) old) (seen_by (links f target args) new)) (sym same) (sym bounds) runs

  pub same_uncall : {fun other : FunTree} {n m : ℕ} (target : NameTree) (args : List NameTree) (old new : State) → fun ≡ other → n ≡ m
      → Runs setting (activation_of setting other m) (reverse_of other.body) (seen_by (links other target args) old) (seen_by (links other target args) new)
      → Runs setting (activation_of setting fun n) (reverse_of fun.body) (seen_by (links fun target args) old) (seen_by (links fun target args) new)
  same_uncall {fun} {other} {n} {m} target args old new same bounds runs =
      subst₂ (λ f k. Runs setting (activation_of setting f k) (reverse_of f.body) (seen_by (links f target args) old) (seen_by (links f target args) new)) (sym same) (sym bounds) runs

pub same_others : {fun other : FunTree} (target : NameTree) (args : List NameTree) (old new : Store) → fun ≡ other
    → KeepsOthers (links other target args) old new → KeepsOthers (links fun target args) old new
same_others {fun} {other} target args old new same keeps = subst (λ f. KeepsOthers (links f target args) old new) (sym same) keeps
