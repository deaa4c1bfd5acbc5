-- What lies on a stack, the top first.
use Rattle.std.proofs.Common.{◌≡◌, ◌∙◌, List, [], ◌∷◌, ◌++◌, map, reverse, length, ap, refl, arith}
use Rattle.std.proofs.lemmas.List.{map-append, reverse-append}

pub on_top : {X Y : Type 0} (tree : X → Y) (below whole : List X) (x : X) → whole ≡ below ++ x ∷ [] → reverse (map tree whole) ≡ tree x ∷ reverse (map tree below)
on_top tree below whole x is =
    ap (λ (xs : List _). reverse (map tree xs)) is ∙ ap reverse (map-append tree below (x ∷ [])) ∙ reverse-append (map tree below) (tree x ∷ [])

pub empty : {X : Type 0} (xs : List X) → length xs ≡ 0 → xs ≡ []
empty [] none = refl
empty (x ∷ xs) none = absurd (omega arith)
