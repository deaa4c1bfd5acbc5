-- What tables hold at a place, and checks of all that they hold.
use denote.Bor.{Bor}
use Rattle.std.proofs.Common.{◌≡◌, ◌∙◌, ap, ap₂, sym, ◌++◌, take, flat_map, Result, Ok, Err, ℕ, zero, suc, ◌+◌, add-one, List, [], ◌∷◌, map, drop, Some, option_map, slice_get}
use Rattle.std.specs.Map.{values_of}
use Rattle.std.specs.Result.{IsErrAnd}
use Rattle.std.proofs.lemmas.List.{map-append}
use Rattle.tw_text.specs.declared.refusal.Fault.{Fault}
use Rattle.tw_syntax.specs.Programs.{FunTree}
use Rattle.tw_resolve.specs.Demands.{Demand, first_broken, Tries}
use Rattle.tw_resolve.specs.Setting.{Setting}
use Rattle.tw_resolve.specs.Programs.{fun_rules, funs_rules}
use Rattle.tw_resolve.proofs.Demands.{first_broken-after_none}
use Rattle.tw_resolve.proofs.Trying.{stopped}

-- the value at a place, and its tree
pub value_at : {V X : Type 0} (f : V → X) (entries : List (Bor (List ℕ) × V)) (place : ℕ) (value : V)
    → slice_get (values_of entries) place ≡ Some value → slice_get (map (λ entry. f entry.1) entries) place ≡ Some (f value)
value_at f [] place value at = absurd (cc at)
value_at f (entry ∷ entries) zero value at = ap (option_map f) at
value_at f (entry ∷ entries) (suc place) value at = value_at f entries place value at

-- what is left of a list from a place on
drop_suc : {X : Type 0} (xs : List X) (place : ℕ) (x : X) → slice_get xs place ≡ Some x → drop place xs ≡ x ∷ drop (suc place) xs
drop_suc [] place x at = absurd (cc at)
drop_suc (y ∷ xs) zero x at = let same : y ≡ x = cc at in ap (λ z. z ∷ xs) same
drop_suc (y ∷ xs) (suc place) x at = drop_suc xs place x at

pub drop_at_place : {X : Type 0} (xs : List X) (place : ℕ) (x : X) → slice_get xs place ≡ Some x → drop place xs ≡ x ∷ drop (place + 1) xs
drop_at_place xs place x at = rw (add-one place) (drop_suc xs place x at)

take_suc : {X : Type 0} (xs : List X) (place : ℕ) (x : X) → slice_get xs place ≡ Some x → take (suc place) xs ≡ take place xs ++ x ∷ []
take_suc [] place x at = absurd (cc at)
take_suc (y ∷ xs) zero x at = let same : y ≡ x = cc at in ap (λ z. z ∷ []) same
take_suc (y ∷ xs) (suc place) x at = ap (λ rest. y ∷ rest) (take_suc xs place x at)

pub take_at_place : {X : Type 0} (xs : List X) (place : ℕ) (x : X) → slice_get xs place ≡ Some x → take (place + 1) xs ≡ take place xs ++ x ∷ []
take_at_place xs place x at = rw (add-one place) (take_suc xs place x at)

-- the rules of each item of a list
module _ {X : Type 0} (rules : X → List Demand) (xs : List X) (place : ℕ) (x : X) (at : slice_get xs place ≡ Some x) where
  pub each_stopped : {A B : Type 0} (fault : Fault) (result : Result B Fault) → Tries {A = A} (rules x) (Err fault) → IsErrAnd result (λ e. e ≡ fault)
      → Tries (flat_map rules (drop place xs)) result
  each_stopped fault result tries is =
      rw (drop_at_place xs place x at) (stopped (rules x) (flat_map rules (drop (place + 1) xs)) fault result tries is)

  pub each_kept : {A : Type 0} (y : A) → Tries (rules x) (Ok y)
      → first_broken (flat_map rules (drop place xs)) ≡ first_broken (flat_map rules (drop (place + 1) xs))
  each_kept y tries =
      ap (λ (rest : List X). first_broken (flat_map rules rest)) (drop_at_place xs place x at)
      ∙ first_broken-after_none (rules x) (flat_map rules (drop (place + 1) xs)) tries.kept

-- the rules of functions by number
module _ (setting : Setting) (funs : List FunTree) (number : ℕ) (fun : FunTree) (at : slice_get funs number ≡ Some fun) where
  next_rules : funs_rules setting number (drop number funs) ≡ fun_rules setting number fun ++ funs_rules setting (number + 1) (drop (number + 1) funs)
  next_rules =
      ap (funs_rules setting number) (drop_at_place funs number fun at)
      ∙ ap (λ n. fun_rules setting number fun ++ funs_rules setting n (drop (number + 1) funs)) (sym (add-one number))

  pub fun_stopped : {A B : Type 0} (fault : Fault) (result : Result B Fault) → Tries {A = A} (fun_rules setting number fun) (Err fault)
      → IsErrAnd result (λ e. e ≡ fault) → Tries (funs_rules setting number (drop number funs)) result
  fun_stopped fault result tries is =
      rw next_rules (stopped (fun_rules setting number fun) (funs_rules setting (number + 1) (drop (number + 1) funs)) fault result tries is)

  pub fun_kept : {A : Type 0} (y : A) → Tries (fun_rules setting number fun) (Ok y)
      → first_broken (funs_rules setting number (drop number funs)) ≡ first_broken (funs_rules setting (number + 1) (drop (number + 1) funs))
  fun_kept y tries =
      ap first_broken next_rules
      ∙ first_broken-after_none (fun_rules setting number fun) (funs_rules setting (number + 1) (drop (number + 1) funs)) tries.kept

-- what was found of the first items of a list, with one more
pub found_next : {X V W : Type 0} (view : V → W) (wanted : X → W) (xs : List X) (place : ℕ) (x : X) (items new : List V) (v : V)
    → slice_get xs place ≡ Some x → new ≡ items ++ v ∷ [] → view v ≡ wanted x → map view items ≡ map wanted (take place xs)
    → map view new ≡ map wanted (take (place + 1) xs)
found_next view wanted xs place x items new v at added same so_far =
    ap (map view) added
    ∙ map-append view items (v ∷ [])
    ∙ ap₂ (λ ys y. ys ++ y ∷ []) so_far same
    ∙ sym (map-append wanted (take place xs) (x ∷ []))
    ∙ ap (map wanted) (sym (take_at_place xs place x at))
