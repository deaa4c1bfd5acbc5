-- Frames and the lists of values that they are loaded from and written to.
use Rattle.std.proofs.Common.{◌≡◌, ◌∙◌, ◌+◌, ◌≤◌, ◌<◌, ap, sym, subst, refl, arith, ℕ, zero, suc, Bool, true, false, if◌then◌else◌, List, [], ◌∷◌, ◌++◌, map, drop, take, length, Some, None, option_map, slice_get, bytes_eq}
use Rattle.std.proofs.Math.Seq.{drop-length}
use Rattle.std.proofs.lemmas.Option.{none-some, slice_get-map}
use Rattle.tw_types.specs.declared.values.Val.{Val}
use Rattle.tw_types.specs.FromCode.{value_of}
use Rattle.tw_types.specs.Values.{Value}
use Rattle.tw_resolve.specs.Declarations.{is_one_of}
use Rattle.tw_state.specs.Listed as listed
use Rattle.tw_state.specs.States.{Name, Store, empty, with_value}
use Rattle.tw_state.proofs.Basics.{contradiction, name_test, same_name, some_value}
use Rattle.tw_state.proofs.Calls.{AreDifferent}
use Rattle.tw_interp.specs.declared.variable.Var.{Var}
use Rattle.tw_interp.proofs.Ahead.{ahead_next}
use Rattle.tw_interp.proofs.Padding.{at_place}

no_values : (names : List Name) → empty ≡ listed.store_of names []
no_values [] = refl
no_values (name ∷ names) = refl

pub none_loaded : (names : List Name) (vals : List Val) → empty ≡ listed.store_of (drop (length vals) names) (map value_of (drop (length vals) vals))
none_loaded names vals = no_values (drop (length vals) names) ∙ sym (ap (λ (vs : List Val). listed.store_of (drop (length vals) names) (map value_of vs)) (drop-length vals))

pub loaded_next : (names : List Name) (vals : List Val) (i k : ℕ) (name : Name) (val copy : Val) (now next : Store) → slice_get names i ≡ Some name → slice_get vals i ≡ Some val → k ≡ i + 1 → value_of copy ≡ value_of val
    → now ≡ listed.store_of (drop k names) (map value_of (drop k vals)) → next ≡ with_value now name (value_of copy) → next ≡ listed.store_of (drop i names) (map value_of (drop i vals))
loaded_next names vals i k name val copy now next at_name at_val more same is after =
    after
    ∙ ap (λ v. with_value now name v) same
    ∙ ap (λ (s : Store). with_value s name (value_of val)) (is ∙ ap (λ (n : ℕ). listed.store_of (drop n names) (map value_of (drop n vals))) more)
    ∙ sym (ap (λ (ns : List Name). listed.store_of ns (map value_of (drop i vals))) (ahead_next names i name at_name)
    ∙ ap (λ (vs : List Val). listed.store_of (name ∷ drop (i + 1) names) (map value_of vs)) (ahead_next vals i val at_val))

-- a listed store has the value of this place at the name of this place
pub listed_at : (names : List Name) (values : List Value) (i : ℕ) (name : Name) → AreDifferent names → slice_get names i ≡ Some name → i < length values
    → (v : Value) × (listed.store_of names values name ≡ Some v) × (slice_get values i ≡ Some v)
listed_at [] values i name different at inside = absurd (none-some name at)
listed_at (first ∷ names) [] i name different at inside = absurd (omega (arith, inside))
listed_at (first ∷ names) (value ∷ values) zero name different at inside =
    (value, ap (λ k. if k then Some value else listed.store_of names values name) (subst (λ n. bytes_eq first n ≡ true) (some_value at) (name_test first)), refl)
listed_at (first ∷ names) (value ∷ values) (suc i) name different at inside =
    let later = listed_at names values i name different.1 at (omega (arith, inside)) in
    (later.0, ap (λ k. if k then Some value else listed.store_of names values name) (apart (bytes_eq first name) refl) ∙ later.1, later.2)
  where
    apart : (k : Bool) → bytes_eq first name ≡ k → bytes_eq first name ≡ false
    apart true same = contradiction (subst (λ n. is_one_of n names ≡ true) (sym (same_name first name same)) (at_place names i name at)) different.0
    apart false other = other

take_more : {A : Type 0} (xs : List A) (i : ℕ) (x : A) → slice_get xs i ≡ Some x → take (i + 1) xs ≡ take i xs ++ x ∷ []
take_more [] i x is = absurd (none-some x is)
take_more (y ∷ ys) zero x is = ap (λ z. z ∷ []) (some_value is)
take_more (y ∷ ys) (suc i) x is =
    let e : suc i + 1 ≡ suc (i + 1) = omega arith in
    ap (λ (n : ℕ). take n (y ∷ ys)) e ∙ ap (λ zs. y ∷ zs) (take_more ys i x is)

map_more : (xs : List Val) (x : Val) → map value_of (xs ++ x ∷ []) ≡ map value_of xs ++ value_of x ∷ []
map_more [] x = refl
map_more (y ∷ ys) x = ap (λ zs. value_of y ∷ zs) (map_more ys x)

pub unloaded_next : (names : List Name) (values : List Value) (i : ℕ) (name : Name) (store : Store) (old new : List Val) (copy : Val) → AreDifferent names → slice_get names i ≡ Some name → i < length values
    → store ≡ listed.store_of names values → Some (value_of copy) ≡ store name → new ≡ old ++ copy ∷ [] → map value_of old ≡ take i values → map value_of new ≡ take (i + 1) values
unloaded_next names values i name store old new copy different at inside lists found after is =
    let there = listed_at names values i name different at inside in
    let same = some_value (found ∙ ap (λ (s : Store). s name) lists ∙ there.1) in
    ap (map value_of) after
    ∙ map_more old copy
    ∙ ap (λ vs. vs ++ value_of copy ∷ []) is
    ∙ ap (λ v. take i values ++ v ∷ []) same
    ∙ sym (take_more values i there.0 there.2)

pub not_unloaded : {P : Type 0} (names : List Name) (values : List Value) (i : ℕ) (name : Name) (store : Store) → AreDifferent names → slice_get names i ≡ Some name → i < length values
    → store ≡ listed.store_of names values → None ≡ store name → P
not_unloaded names values i name store different at inside lists none =
    let there = listed_at names values i name different at inside in
    absurd (none-some there.0 (none ∙ ap (λ (s : Store). s name) lists ∙ there.1))

-- names without values do not matter
pub listed_short : (names more : List Name) (values : List Value) → length values ≤ length names → listed.store_of names values ≡ listed.store_of (names ++ more) values
listed_short [] more [] short = no_values more
listed_short [] more (value ∷ values) short = absurd (omega (arith, short))
listed_short (name ∷ names) more [] short = refl
listed_short (name ∷ names) more (value ∷ values) short = ap (λ (s : Store). with_value s name value) (listed_short names more values (omega (arith, short)))

-- the name of the variable of a place
pub name_of_var : (vars : List Var) (i : ℕ) (var : Var) → slice_get vars i ≡ Some var → slice_get (map (λ v. v.name.text.now) vars) i ≡ Some var.name.text.now
name_of_var vars i var at = slice_get-map (λ v. v.name.text.now) vars i ∙ ap (option_map (λ v. v.name.text.now)) at
