-- A gate line as letters, then numbers.
use Rattle.std.specs.Prelude.{◌≡◌, ℕ, List, [], ◌∷◌, ◌++◌, length, codes, refl}
use Rattle.tw_gate.specs.Gates.{PlainGate, X, H, T, Tdg}

-- the letters that begin a gate's line
abbrev pub letters : PlainGate → List ℕ
letters (X [] target) = codes "x"
letters (X (a ∷ []) target) = codes "cx"
letters (X (a ∷ b ∷ []) target) = codes "ccx"
letters (X (a ∷ b ∷ c ∷ rest) target) = codes "mcx"
letters (H wire) = codes "h"
letters (T wire) = codes "t"
letters (Tdg wire) = codes "tdg"

-- the numbers that follow them
abbrev pub numbers_of : PlainGate → List ℕ
numbers_of (X [] target) = target ∷ []
numbers_of (X (a ∷ []) target) = a ∷ target ∷ []
numbers_of (X (a ∷ b ∷ []) target) = a ∷ b ∷ target ∷ []
numbers_of (X (a ∷ b ∷ c ∷ rest) target) = length (a ∷ b ∷ c ∷ rest) ∷ a ∷ b ∷ c ∷ (rest ++ target ∷ [])
numbers_of (H wire) = wire ∷ []
numbers_of (T wire) = wire ∷ []
numbers_of (Tdg wire) = wire ∷ []

pub letters-three_controls : letters (X (0 ∷ 1 ∷ 2 ∷ []) 3) ≡ codes "mcx"
letters-three_controls = refl

pub numbers_of-three_controls : numbers_of (X (0 ∷ 1 ∷ 2 ∷ []) 3) ≡ 3 ∷ 0 ∷ 1 ∷ 2 ∷ 3 ∷ []
numbers_of-three_controls = refl
