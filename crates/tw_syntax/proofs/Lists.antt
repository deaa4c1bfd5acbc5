-- Lists that a test compares.
use Rattle.std.proofs.Common.{◌≡◌, ◌≢◌, refl, ap, sym, ◌∙◌, suc, Bool, false, List, [], ◌∷◌, length, map}
use Rattle.std.proofs.lemmas.Bool.{and_right}
use Rattle.std.proofs.lemmas.List.{length-map}
use Rattle.tw_syntax.specs.Same.{same_each}

pub same_each-lengths : {A : Type 0} (test : A → A → Bool) (xs ys : List A) → length xs ≢ length ys → same_each test xs ys ≡ false
same_each-lengths test [] [] h = absurd (h refl)
same_each-lengths test [] (y ∷ ys) h = refl
same_each-lengths test (x ∷ xs) [] h = refl
same_each-lengths test (x ∷ xs) (y ∷ ys) h = and_right (test x y) _ (same_each-lengths test xs ys (λ e. h (ap suc e)))

pub same_each-map_lengths : {A B : Type 0} (tree : A → B) (test : B → B → Bool) (xs ys : List A) → length xs ≢ length ys → same_each test (map tree xs) (map tree ys) ≡ false
same_each-map_lengths tree test xs ys h =
    same_each-lengths test (map tree xs) (map tree ys) (λ e. h (sym (length-map xs tree) ∙ e ∙ length-map ys tree))

pub ruleset lengths = (same_each-map_lengths)
