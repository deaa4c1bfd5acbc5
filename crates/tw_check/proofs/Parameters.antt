-- The set of the names of a list.
use Rattle.std.proofs.Common.{◌≡◌, ◌∙◌, ap, refl, ℕ, Bool, true, false, ◌||◌, if◌then◌else◌, List, ◌∷◌, bytes_eq}
use Rattle.tw_resolve.proofs.Texts.{bytes_eq-sym}
use Rattle.tw_check.specs.Names.{Names, with_name, is_one_of}

true_or : (was later : Bool) → true ≡ (was || (true || later))
true_or true later = refl
true_or false later = refl

-- a name put in is no longer to come
pub put_in : (names : Names) (x : List ℕ) (rest : List (List ℕ)) (name : List ℕ) → (with_name names x true name || is_one_of name rest) ≡ (names name || is_one_of name (x ∷ rest))
put_in names x rest name =
    elim (bytes_eq x name) as (λ k. ((if k then true else names name) || is_one_of name rest) ≡ (names name || (k || is_one_of name rest))) [
      | true ↦ true_or (names name) (is_one_of name rest)
      | false ↦ refl
    ]
    ∙ ap (λ k. names name || (k || is_one_of name rest)) (bytes_eq-sym x name)
