-- Numbers as lists of bits, least bit first.
use Rattle.std.specs.Prelude.{◌≡◌, ℕ, zero, suc, ◌+◌, ◌*◌, ◌/◌, ◌%◌, ◌==◌, if◌then◌else◌, Bool, true, false, List, [], ◌∷◌, refl}

-- a number in this number of bits, least bit first
abbrev pub number_bits : ℕ → ℕ → List Bool
number_bits zero n = []
number_bits (suc width) n = (n % 2 == 1) ∷ number_bits width (n / 2)

-- the number of these bits, least bit first
abbrev pub bits_number : List Bool → ℕ
bits_number [] = 0
bits_number (b ∷ bits) = (if b then 1 else 0) + 2 * bits_number bits

-- six in four bits
pub six_in_four_bits : number_bits 4 6 ≡ false ∷ true ∷ true ∷ false ∷ []
six_in_four_bits = refl

-- the bits past the width are dropped
pub six_in_two_bits : number_bits 2 6 ≡ false ∷ true ∷ []
six_in_two_bits = refl

pub four_bits_of_six : bits_number (false ∷ true ∷ true ∷ false ∷ []) ≡ 6
four_bits_of_six = refl
