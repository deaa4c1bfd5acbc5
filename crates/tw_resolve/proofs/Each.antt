-- What holds of each item of a list.
use Rattle.std.proofs.Common.{◌≡◌, ℕ, zero, suc, List, [], ◌∷◌, ◌++◌, Some, slice_get, subst}
use Rattle.std.specs.List.{AllByRecursion}

module _ {X : Type 0} (P : X → Type 0) where
  pub each_first : (xs ys : List X) → AllByRecursion P (xs ++ ys) → AllByRecursion P xs
  each_first [] ys each = tt
  each_first (x ∷ xs) ys each = (each.0, each_first xs ys each.1)

  pub each_rest : (xs ys : List X) → AllByRecursion P (xs ++ ys) → AllByRecursion P ys
  each_rest [] ys each = each
  each_rest (x ∷ xs) ys each = each_rest xs ys each.1

  pub each-append : (xs ys : List X) → AllByRecursion P xs → AllByRecursion P ys → AllByRecursion P (xs ++ ys)
  each-append [] ys first rest = rest
  each-append (x ∷ xs) ys first rest = (first.0, each-append xs ys first.1 rest)

  pub each_always : ((x : X) → P x) → (xs : List X) → AllByRecursion P xs
  each_always holds [] = tt
  each_always holds (x ∷ xs) = (holds x, each_always holds xs)

  pub each_weaker : (Q : X → Type 0) → ((x : X) → P x → Q x) → (xs : List X) → AllByRecursion P xs → AllByRecursion Q xs
  each_weaker Q weaker [] each = tt
  each_weaker Q weaker (x ∷ xs) each = (weaker x each.0, each_weaker Q weaker xs each.1)

  -- and of the one at a place
  pub each_at : (xs : List X) (place : ℕ) (x : X) → AllByRecursion P xs → slice_get xs place ≡ Some x → P x
  each_at [] place x each at = absurd (cc at)
  each_at (y ∷ xs) zero x each at = (let same : y ≡ x = cc at in subst P same each.0)
  each_at (y ∷ xs) (suc place) x each at = each_at xs place x each.1 at
