-- Numbers in ascending order.
use Rattle.std.specs.Prelude.{◌≡◌, ℕ, nat_le, if◌then◌else◌, List, [], ◌∷◌, refl}

-- a number put before the first of the others that is not less
abbrev pub inserted : ℕ → List ℕ → List ℕ
inserted n [] = n ∷ []
inserted n (first ∷ rest) = if nat_le n first then n ∷ first ∷ rest else first ∷ inserted n rest

-- the numbers in ascending order
abbrev pub sorted : List ℕ → List ℕ
sorted [] = []
sorted (n ∷ others) = inserted n (sorted others)

pub sorted-three : sorted (6 ∷ 2 ∷ 5 ∷ []) ≡ 2 ∷ 5 ∷ 6 ∷ []
sorted-three = refl

pub sorted-same : sorted (3 ∷ 1 ∷ 3 ∷ []) ≡ 1 ∷ 3 ∷ 3 ∷ []
sorted-same = refl
