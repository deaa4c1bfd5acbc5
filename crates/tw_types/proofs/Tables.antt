-- The table of targets: the places of texts, an appended target, and another type at one place.
use denote.Bor.{Bor}
use Rattle.std.proofs.Common.{◌≡◌, ◌≢◌, ◌∙◌, ap, sym, ℕ, zero, suc, ◌+◌, ◌≤◌, Bool, true, false, cond, not, List, [], ◌∷◌, ◌++◌, map, length, position, Some, None, option_map, slice_get, get_or, arith, refl, true≢false, bytes_eq}
use Rattle.std.specs.List.{AllByRecursion, position_or_len}
use Rattle.std.specs.Map.{keys_of, values_of}
use Rattle.std.proofs.lemmas.Grind.{common_steps}
use Rattle.std.proofs.lemmas.List.{length-map, map-append}
use Rattle.std.proofs.lemmas.List.Quantifiers.{position-Some}
use Rattle.std.proofs.lemmas.Option.{slice_get-get_or}
use Rattle.std.proofs.lemmas.Slice.Eq.{bytes_eq-Decides}
use Rattle.indexmap.specs.Layout.{set_value_at}
use Rattle.tw_types.specs.declared.types.Ty as ty
use Rattle.tw_types.specs.Types.{Ty, UnitTy, Target}
use Rattle.tw_types.specs.FromCode.{ty_of, target_of, targets_of}
use Rattle.tw_types.specs.Table.{AreDistinct, place_of, interned, defined, written_at, ty_at}

module _ {X : Type 0} (p : X → Bool) where
  -- a test that no element passes
  abbrev Fails : List X → Type 0
  Fails xs = AllByRecursion (λ x. p x ≡ false) xs

  -- if the first place is past the end, no element passes
  fails_from : (xs : List X) → length xs ≤ position_or_len p xs → Fails xs
  fails_from [] long = tt
  fails_from (x ∷ xs) long = by (p x) refl long (fails_from xs)
    where
      by : (k : Bool) → p x ≡ k → suc (length xs) ≤ cond (not k) (1 + position_or_len p xs) 0 → (length xs ≤ position_or_len p xs → Fails xs) → (p x ≡ false) × Fails xs
      by true e long rest = absurd (omega (arith, long))
      by false e long rest = (e, rest (omega (arith, long)))

  -- no place means that no element passes
  pub fails_of_none : (xs : List X) → position p xs ≡ None → Fails xs
  fails_of_none xs none = fails_from xs (grind (arith, common_steps))

  -- an element that passes, after others that fail
  or_len-appended : (xs : List X) (x : X) → Fails xs → p x ≡ true → position_or_len p (xs ++ x ∷ []) ≡ length xs
  or_len-appended [] x fails passes = rw passes refl
  or_len-appended (y ∷ xs) x fails passes = rw (fails.0, or_len-appended xs x fails.1 passes) (omega arith)

  pub place-appended : (xs : List X) (x : X) → Fails xs → p x ≡ true → position p (xs ++ x ∷ []) ≡ Some (length xs)
  place-appended xs x fails passes =
      let at = or_len-appended xs x fails passes in grind (arith, common_steps)

-- the first place in a list of images
or_len-map : {X Y : Type 0} (p : Y → Bool) (f : X → Y) (xs : List X) → position_or_len p (map f xs) ≡ position_or_len (λ x. p (f x)) xs
or_len-map p f [] = refl
or_len-map p f (x ∷ xs) = ap (λ n. cond (not (p (f x))) (1 + n) 0) (or_len-map p f xs)

place-map : {X Y : Type 0} (p : Y → Bool) (f : X → Y) (xs : List X) → position p (map f xs) ≡ position (λ x. p (f x)) xs
place-map p f xs = rw (or_len-map p f xs, length-map xs f) refl

-- the place of a text among the targets is that of its key among the keys
pub place_of-keys : (text : List ℕ) (entries : List (Bor (List ℕ) × ty.Ty)) → place_of text (targets_of entries) ≡ position (λ key. bytes_eq text key.now) (keys_of entries)
place_of-keys text entries =
    place-map (λ (target : Target). bytes_eq text target.written) target_of entries
    ∙ sym (place-map (λ (key : Bor (List ℕ)). bytes_eq text key.now) (λ entry. entry.0) entries)

-- a text that is not there differs from all that are there
different_of_fails : (text : List ℕ) (targets : List Target) → Fails (λ target. bytes_eq text target.written) targets → AllByRecursion (λ target. target.written ≢ text) targets
different_of_fails text [] fails = tt
different_of_fails text (target ∷ targets) fails =
    ((λ same. true≢false (sym ((bytes_eq-Decides text target.written).1 (sym same)) ∙ fails.0)), different_of_fails text targets fails.1)

-- a property of all elements and of one more is a property of all elements of the longer list
all_appended : {X : Type 0} (P : X → Type 0) (xs : List X) (x : X) → AllByRecursion P xs → P x → AllByRecursion P (xs ++ x ∷ [])
all_appended P [] x all one = (one, tt)
all_appended P (y ∷ xs) x all one = (all.0, all_appended P xs x all.1 one)

-- distinct targets are distinct with one of another text appended
distinct_appended : (targets : List Target) (target : Target) → AreDistinct targets → AllByRecursion (λ other. other.written ≢ target.written) targets → AreDistinct (targets ++ target ∷ [])
distinct_appended [] target distinct apart = (tt, tt)
distinct_appended (other ∷ targets) target distinct apart =
    (all_appended (λ another. other.written ≢ another.written) targets target distinct.0 apart.0, distinct_appended targets target distinct.1 apart.1)

pub distinct-interned : (text : List ℕ) (ty : Ty) (targets : List Target) → place_of text targets ≡ None → AreDistinct targets → AreDistinct (targets ++ record { written = text; ty = ty } ∷ [])
distinct-interned text ty targets none distinct =
    distinct_appended targets _ distinct (different_of_fails text targets (fails_of_none _ targets none))

-- the place of a new text is the place after the others
pub place_of-new : (text : List ℕ) (ty : Ty) (targets : List Target) → place_of text targets ≡ None → place_of text (targets ++ record { written = text; ty = ty } ∷ []) ≡ Some (length targets)
place_of-new text ty targets none =
    place-appended (λ target. bytes_eq text target.written) targets _ (fails_of_none _ targets none) ((bytes_eq-Decides text text).1 refl)

-- a known text changes nothing; a new one is appended
pub interned-known : (text : List ℕ) (targets : List Target) {place : ℕ} → place_of text targets ≡ Some place → interned text targets ≡ targets
interned-known text targets known = rw known refl

pub interned-new : (text : List ℕ) (targets : List Target) → place_of text targets ≡ None → interned text targets ≡ targets ++ record { written = text; ty = UnitTy } ∷ []
interned-new text targets none = rw none refl

-- the entries of the table, with another one appended
pub targets_of-appended : (entries : List (Bor (List ℕ) × ty.Ty)) (entry : Bor (List ℕ) × ty.Ty) → targets_of (entries ++ entry ∷ []) ≡ targets_of entries ++ target_of entry ∷ []
targets_of-appended entries entry = map-append target_of entries (entry ∷ [])

-- the entries of the table, with another type at one place
pub targets_of-defined : (entries : List (Bor (List ℕ) × ty.Ty)) (place : ℕ) (t : ty.Ty) → targets_of (set_value_at entries place t) ≡ defined place (ty_of t) (targets_of entries)
targets_of-defined [] place t = refl
targets_of-defined (entry ∷ entries) zero t = refl
targets_of-defined (entry ∷ entries) (suc place) t = ap (λ rest. target_of entry ∷ rest) (targets_of-defined entries place t)

-- another type at one place keeps the number of targets
pub length-defined : (place : ℕ) (t : Ty) (targets : List Target) → length (defined place t targets) ≡ length targets
length-defined place t [] = refl
length-defined zero t (target ∷ targets) = refl
length-defined (suc place) t (target ∷ targets) = ap suc (length-defined place t targets)

-- another type at one place keeps the texts of the targets
all-defined : (P : List ℕ → Type 0) (place : ℕ) (t : Ty) (targets : List Target) → AllByRecursion (λ target. P target.written) targets → AllByRecursion (λ target. P target.written) (defined place t targets)
all-defined P place t [] all = tt
all-defined P zero t (target ∷ targets) all = all
all-defined P (suc place) t (target ∷ targets) all = (all.0, all-defined P place t targets all.1)

pub distinct-defined : (place : ℕ) (t : Ty) (targets : List Target) → AreDistinct targets → AreDistinct (defined place t targets)
distinct-defined place t [] distinct = tt
distinct-defined zero t (target ∷ targets) distinct = distinct
distinct-defined (suc place) t (target ∷ targets) distinct =
    (all-defined (λ text. target.written ≢ text) place t targets distinct.0, distinct-defined place t targets distinct.1)

-- the type at a place
pub ty_at-values : (entries : List (Bor (List ℕ) × ty.Ty)) (place : ℕ) (t : ty.Ty) → slice_get (values_of entries) place ≡ Some t → ty_at (targets_of entries) place ≡ Some (ty_of t)
ty_at-values [] place t at = cc
ty_at-values (entry ∷ entries) zero t at = ap (option_map ty_of) at
ty_at-values (entry ∷ entries) (suc place) t at = ty_at-values entries place t at

-- the text at the place that it has
pub written_at-place_of : (text : List ℕ) (targets : List Target) (place : ℕ) → place_of text targets ≡ Some place → written_at targets place ≡ Some text
written_at-place_of text targets place known =
    let none : Target = record { written = []; ty = UnitTy } in
    let found = position-Some (λ (target : Target). bytes_eq text target.written) targets place none known in
    ap (option_map (λ (target : Target). target.written)) (slice_get-get_or targets place none found.0)
    ∙ ap Some (sym ((bytes_eq-Decides text (get_or targets place none).written).0 found.1))
