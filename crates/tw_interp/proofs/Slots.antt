-- Stores of variables by number.
use Rattle.std.proofs.Common.{◌≡◌, ◌∙◌, ◌<◌, ap, arith, length, sym, subst, refl, ℕ, zero, suc, ◌==◌, Bool, true, false, if◌then◌else◌, List, [], ◌∷◌, ◌++◌, get_or, slice_get, slice_set, unwrap_or, nat_lt, Option, Some, None, option_and_then, option_map, position, bytes_eq}
use Rattle.std.proofs.Math.Dec.{eqb-suc-suc, eqb-suc-zero, eqb-zero-suc}
use Rattle.std.proofs.Math.Path.{fun_ext}
use Rattle.std.proofs.lemmas.Bool.{eq-eqb, eqb-true}
use Rattle.std.proofs.lemmas.Bool.Decides.{Decides-ltb}
use Rattle.std.proofs.lemmas.List.Quantifiers.{position-Some}
use Rattle.std.proofs.lemmas.Option.{none-some, slice_get-get_or}
use Rattle.std.specs.List.{position_or_len}
use Rattle.tw_syntax.specs.Names.{PathTree}
use Rattle.tw_types.specs.declared.values.Val.{Val}
use Rattle.tw_types.specs.FromCode.{value_of}
use Rattle.tw_types.specs.Values.{Value}
use Rattle.tw_resolve.specs.Declarations.{AreDifferent}
use Rattle.tw_resolve.proofs.Each.{each_at}
use Rattle.tw_resolve.proofs.Texts.{bytes_eq-sym}
use Rattle.tw_check.specs.Names.{Names, with_name}
use Rattle.tw_state.specs.Parts.{with_part, with_value_at}
use Rattle.tw_state.specs.States.{Name, Store, without}
use Rattle.tw_state.proofs.Basics.{contradiction, name_test, same_name, some_value}
use Rattle.tw_interp.specs.declared.changes.Changes.{Changes}
use Rattle.tw_interp.specs.Frames.{Slots, change_at, changed, slots_in, store_by, with_found, with_slot}

-- the name of a number
named_by : (names : List Name) (name : Name) (slot : ℕ) → Some slot ≡ position (bytes_eq name) names → name ≡ get_or names slot []
named_by names name slot is = same_name name (get_or names slot []) (position-Some (bytes_eq name) names slot [] (sym is)).1

pub slot_name : (names : List Name) (name : Name) (slot : ℕ) → Some slot ≡ position (bytes_eq name) names → slice_get names slot ≡ Some name
slot_name names name slot is =
    slice_get-get_or names slot [] (position-Some (bytes_eq name) names slot [] (sym is)).0 ∙ ap Some (sym (named_by names name slot is))

-- a name of different ones is the first one that is equal to it
is_first : (names : List Name) (name : Name) (slot : ℕ) → AreDifferent names → slice_get names slot ≡ Some name → (position_or_len (bytes_eq name) names ≡ slot) × (slot < length names)
is_first [] name slot different there = absurd (none-some name there)
is_first (first ∷ names) name zero different there =
    let same : first ≡ name = some_value there in
    (rw (same, name_test name) refl, omega arith)
is_first (first ∷ names) name (suc slot) different there =
    let later = is_first names name slot different.1 there in
    let other = bytes_eq-sym name first ∙ each_at (λ n. bytes_eq first n ≡ false) names slot name different.0 there in
    (rw (other, later.0) (omega arith), omega (arith, later.1))

pub number_of_name : (names : List Name) (name : Name) (slot : ℕ) → AreDifferent names → slice_get names slot ≡ Some name → Some slot ≡ position (bytes_eq name) names
number_of_name names name slot different there =
    let first = is_first names name slot different there in
    let within : nat_lt slot (length names) ≡ true = (Decides-ltb slot (length names)).1 first.1 in
    sym (rw (first.0, within) refl)

-- names of one number are equal
same_slot : (names : List Name) (name other : Name) (slot : ℕ) → Some slot ≡ position (bytes_eq name) names → Some slot ≡ position (bytes_eq other) names → bytes_eq name other ≡ true
same_slot names name other slot is also =
    subst (λ n. bytes_eq name n ≡ true) (named_by names name slot is ∙ sym (named_by names other slot also)) (name_test name)

module _ (names : List Name) (name : Name) (slot : ℕ) (is : Some slot ≡ position (bytes_eq name) names) where
  -- what changes at one number changes at one name
  pub at_name : {B : Type 0} (other : Name) (old new : Option ℕ → B) (b : B) → new (Some slot) ≡ b → ((s : ℕ) → (slot == s) ≡ false → new (Some s) ≡ old (Some s)) → new None ≡ old None
      → new (position (bytes_eq other) names) ≡ (if bytes_eq name other then b else old (position (bytes_eq other) names))
  at_name other old new b here apart none = by (bytes_eq name other) refl
    where
      by_slot : (s : ℕ) → bytes_eq name other ≡ false → Some s ≡ position (bytes_eq other) names → (k : Bool) → (slot == s) ≡ k → new (Some s) ≡ old (Some s)
      by_slot s differ there true same = contradiction (same_slot names name other slot is (ap Some (eqb-true slot s same) ∙ there)) differ
      by_slot s differ there false differs = apart s differs

      by_number : bytes_eq name other ≡ false → (o : Option ℕ) → o ≡ position (bytes_eq other) names → new o ≡ old o
      by_number differ None there = none
      by_number differ (Some s) there = by_slot s differ there (slot == s) refl

      by : (k : Bool) → bytes_eq name other ≡ k → new (position (bytes_eq other) names) ≡ (if k then b else old (position (bytes_eq other) names))
      by true same = ap (λ n. new (position (bytes_eq n) names)) (sym (same_name name other same)) ∙ sym (ap new is) ∙ here
      by false differ = by_number differ (position (bytes_eq other) names) refl

  -- a value that is put at a number is put at its name
  pub store_put : (slots : Slots) (found : Option Value) → store_by names (with_slot slots slot found) ≡ with_found (store_by names slots) name found
  store_put slots found =
      fun_ext (λ other.
      at_name other (option_and_then slots) (option_and_then (with_slot slots slot found)) found
      (ap (λ k. if k then found else slots slot) (eq-eqb slot slot refl)) (λ s differs. ap (λ k. if k then found else slots s) differs) refl)

-- a name without a value loses none
pub nothing_taken : (store : Store) (name : Name) → None ≡ store name → store ≡ without store name
nothing_taken store name none = fun_ext (λ other. by other (bytes_eq name other) refl)
  where
    by : (other : Name) (k : Bool) → bytes_eq name other ≡ k → store other ≡ (if k then None else store other)
    by other true same = ap store (sym (same_name name other same)) ∙ sym none
    by other false differ = refl

-- a value at a path is a part of the value of its root
pub part_put : (store : Store) (path : PathTree) (value : Value) → with_found store path.root.text (option_map (λ whole. with_part path.steps whole value) (store path.root.text)) ≡ with_value_at store path value
part_put store path value = fun_ext (λ other. by other (bytes_eq path.root.text other) refl)
  where
    by : (other : Name) (k : Bool) → bytes_eq path.root.text other ≡ k
        → (if k then option_map (λ whole. with_part path.steps whole value) (store path.root.text) else store other) ≡ (if k then option_map (λ whole. with_part path.steps whole value) (store other) else store other)
    by other true same = ap (λ n. option_map (λ whole. with_part path.steps whole value) (store n)) (same_name path.root.text other same)
    by other false differ = refl

-- a path whose root has no value takes none
pub nothing_put : (store : Store) (path : PathTree) (value : Value) → None ≡ store path.root.text → store ≡ with_value_at store path value
nothing_put store path value none =
    nothing_taken store path.root.text none ∙ ap (λ o. with_found store path.root.text (option_map (λ whole. with_part path.steps whole value) o)) none ∙ part_put store path value

-- a name without a number has no value
pub no_slot : (names : List Name) (slots : Slots) (name : Name) → None ≡ position (bytes_eq name) names → None ≡ store_by names slots name
no_slot names slots name none = ap (option_and_then slots) none

-- a value that is none, past the end, is no more
pub no_more : (values : List (Option Val)) → slots_in (values ++ None ∷ []) ≡ slots_in values
no_more values = fun_ext (λ slot. ap (option_map value_of) (longer values slot))
  where
    none : Option Val
    none = None

    past : (slot : ℕ) → unwrap_or (slice_get (none ∷ []) slot) None ≡ None
    past zero = refl
    past (suc slot) = refl

    longer : (values : List (Option Val)) (slot : ℕ) → unwrap_or (slice_get (values ++ None ∷ []) slot) None ≡ unwrap_or (slice_get values slot) None
    longer [] slot = past slot
    longer (x ∷ xs) zero = refl
    longer (x ∷ xs) (suc slot) = longer xs slot

-- a value that is written
pub slot_written : (values : List (Option Val)) (slot : ℕ) (val : Val) → slot < length values → slots_in (slice_set values slot (Some val)) ≡ with_slot (slots_in values) slot (Some (value_of val))
slot_written values slot val inside = fun_ext (λ other. written values slot other inside)
  where
    written : (values : List (Option Val)) (slot other : ℕ) → slot < length values
        → option_map value_of (unwrap_or (slice_get (slice_set values slot (Some val)) other) None) ≡ (if slot == other then Some (value_of val) else option_map value_of (unwrap_or (slice_get values other) None))
    written [] slot other inside = absurd (omega (arith, inside))
    written (x ∷ xs) zero zero inside = refl
    written (x ∷ xs) zero (suc other) inside = sym (ap (λ k. if k then Some (value_of val) else slots_in xs other) (eqb-zero-suc other))
    written (x ∷ xs) (suc slot) zero inside = sym (ap (λ k. if k then Some (value_of val) else option_map value_of x) (eqb-suc-zero slot))
    written (x ∷ xs) (suc slot) (suc other) inside =
        written xs slot other (omega (arith, inside)) ∙ sym (ap (λ k. if k then Some (value_of val) else slots_in xs other) (eqb-suc-suc slot other))

-- a change that is noted
pub change_put : (names : List Name) (name : Name) (slot : ℕ) → Some slot ≡ position (bytes_eq name) names → (old new : Changes) (is_live : Bool) → change_at new slot ≡ Some is_live
    → ((s : ℕ) → (slot == s) ≡ false → change_at new s ≡ change_at old s) → (live : Names) → changed names new live ≡ with_name (changed names old live) name is_live
change_put names name slot is old new is_live here apart live =
    fun_ext (λ other.
    at_name names name slot is other (λ o. unwrap_or (option_and_then (change_at old) o) (live other)) (λ o. unwrap_or (option_and_then (change_at new) o) (live other)) is_live
    (ap (λ o. unwrap_or o (live other)) here) (λ s differs. ap (λ o. unwrap_or o (live other)) (apart s differs)) refl)
