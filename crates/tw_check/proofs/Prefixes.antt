-- The test of a prefix that slices have.
use Rattle.std.proofs.Common.{◌≡◌, ap, refl, ℕ, ◌==◌, nat_eq, ◌&&◌, List, [], ◌∷◌}
use Rattle.std.specs.List.{starts_with}
use Rattle.tw_check.specs.Right.{is_prefix}

pub starts_with-is_prefix : (steps needle : List ℕ) → starts_with nat_eq steps needle ≡ is_prefix needle steps
starts_with-is_prefix steps [] = refl
starts_with-is_prefix [] (x ∷ needle) = refl
starts_with-is_prefix (y ∷ steps) (x ∷ needle) = ap (λ rest. (x == y) && rest) (starts_with-is_prefix steps needle)

pub ruleset prefixes = (starts_with-is_prefix)
