-- What an insertion into a table or a set of names gives.
use denote.Bor.{Bor}
use Rattle.indexmap.specs.IndexMap.{insert_entry}
use Rattle.std.proofs.Common.{◌≡◌, ◌∙◌, ◌||◌, if◌then◌else◌, cond, ℕ, Bool, true, false, List, [], ◌∷◌, Option, Some, option_map, Result, Ok, Err, OnOk, OnErr, bytes_eq, ap, sym, subst, refl}
use Rattle.std.specs.List.{AllByRecursion}
use Rattle.std.proofs.lemmas.Slice.Eq.{bytes_eq-Decides}

-- names are equal in either order
pub either_order : (name other : List ℕ) → bytes_eq name other ≡ bytes_eq other name
either_order name other = by (bytes_eq name other) refl (bytes_eq other name) refl
  where
    by : (k : Bool) → bytes_eq name other ≡ k → (m : Bool) → bytes_eq other name ≡ m → k ≡ m
    by true is true is2 = refl
    by false is false is2 = refl
    by true is false is2 =
        let back : bytes_eq other name ≡ true = (bytes_eq-Decides other name).1 (sym ((bytes_eq-Decides name other).0 is)) in
        absurd (cc (back, is2))
    by false is true is2 =
        let back : bytes_eq name other ≡ true = (bytes_eq-Decides name other).1 (sym ((bytes_eq-Decides other name).0 is2)) in
        absurd (cc (back, is))

-- a name is in a set after an insertion, if it was or is the one inserted
pub name_after : (name other : List ℕ) (was now : Bool) → now ≡ cond (bytes_eq name other) true was → now ≡ (was || bytes_eq other name)
name_after name other was now is = is ∙ ap (λ (k : Bool). cond k true was) (either_order name other) ∙ by was (bytes_eq other name)
  where
    by : (was k : Bool) → cond k true was ≡ (was || k)
    by true true = refl
    by true false = refl
    by false true = refl
    by false false = refl

-- what is found under a name after an insertion
pub found_after : {V T : Type 0} (tree : V → T) (name other : List ℕ) (value : V) (was now : Option V) → now ≡ cond (bytes_eq name other) (Some value) was
    → option_map tree now ≡ (if bytes_eq other name then Some (tree value) else option_map tree was)
found_after tree name other value was now is =
    ap (option_map tree) (is ∙ ap (λ (k : Bool). cond k (Some value) was) (either_order name other)) ∙ by (bytes_eq other name)
  where
    by : (k : Bool) → option_map tree (cond k (Some value) was) ≡ (if k then Some (tree value) else option_map tree was)
    by true = refl
    by false = refl

-- what all values have stays, if a value is inserted that has it
values_insert : {V : Type 0} (P : V → Type 0) (eq : Bor (List ℕ) → Bor (List ℕ) → Bool) (key : Bor (List ℕ)) (value : V) → P value
    → (entries : List (Bor (List ℕ) × V)) → AllByRecursion (λ entry. P entry.1) entries → AllByRecursion (λ entry. P entry.1) (insert_entry eq entries key value)
values_insert P eq key value own [] all = (own, tt)
values_insert P eq key value own (entry ∷ entries) all = by (eq key entry.0) (values_insert P eq key value own entries all.1)
  where
    by : (k : Bool) → AllByRecursion (λ entry. P entry.1) (insert_entry eq entries key value)
        → AllByRecursion (λ entry. P entry.1) (cond k ((entry.0, value) ∷ entries) (entry ∷ insert_entry eq entries key value))
    by true rest = (own, all.1)
    by false rest = (all.0, rest)

pub values_after : {V A E : Type 0} (P : V → Type 0) (eq : Bor (List ℕ) → Bor (List ℕ) → Bool) (key : Bor (List ℕ)) (value : V) (old new : List (Bor (List ℕ) × V))
    (result : Result A E) → OnOk result (new ≡ insert_entry eq old key value) → OnErr result (new ≡ old) → P value
    → AllByRecursion (λ entry. P entry.1) old → AllByRecursion (λ entry. P entry.1) new
values_after P eq key value old new (Ok x) ok err own was = subst (AllByRecursion (λ entry. P entry.1)) (sym ok) (values_insert P eq key value own old was)
values_after P eq key value old new (Err x) ok err own was = subst (AllByRecursion (λ entry. P entry.1)) (sym err) was
