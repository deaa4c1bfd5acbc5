-- Lists of which each item has a property.
use Rattle.std.proofs.Common.{List, [], ◌∷◌, ◌++◌}
use Rattle.std.specs.List.{AllByRecursion}

module _ {A : Type 0} where
  pub all_append : (P : A → Type 0) (xs ys : List A) → AllByRecursion P xs → AllByRecursion P ys → AllByRecursion P (xs ++ ys)
  all_append P [] ys first second = second
  all_append P (x ∷ xs) ys first second = (first.0, all_append P xs ys first.1 second)

  pub all_prefix : (P : A → Type 0) (xs ys : List A) → AllByRecursion P (xs ++ ys) → AllByRecursion P xs
  all_prefix P [] ys all = tt
  all_prefix P (x ∷ xs) ys all = (all.0, all_prefix P xs ys all.1)

  pub all_suffix : (P : A → Type 0) (xs ys : List A) → AllByRecursion P (xs ++ ys) → AllByRecursion P ys
  all_suffix P [] ys all = all
  all_suffix P (x ∷ xs) ys all = all_suffix P xs ys all.1

  pub all_weaker : (P Q : A → Type 0) → ((x : A) → P x → Q x) → (xs : List A) → AllByRecursion P xs → AllByRecursion Q xs
  all_weaker P Q weaker [] all = tt
  all_weaker P Q weaker (x ∷ xs) all = (weaker x all.0, all_weaker P Q weaker xs all.1)
