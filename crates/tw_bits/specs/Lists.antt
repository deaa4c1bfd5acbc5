-- Bits of a list: the one at a place, and the list with that one flipped.
use Rattle.std.specs.Prelude.{◌≡◌, ℕ, zero, suc, Bool, true, false, not, List, [], ◌∷◌, refl}

-- the bit at a place; 0 past the end
abbrev pub bit_at : List Bool → ℕ → Bool
bit_at [] place = false
bit_at (b ∷ bits) zero = b
bit_at (b ∷ bits) (suc place) = bit_at bits place

-- the bits with the one at a place flipped; unchanged if the place is past the end
abbrev pub flipped : List Bool → ℕ → List Bool
flipped [] place = []
flipped (b ∷ bits) zero = not b ∷ bits
flipped (b ∷ bits) (suc place) = b ∷ flipped bits place

pub bit_at-inside : bit_at (false ∷ true ∷ []) 1 ≡ true
bit_at-inside = refl

pub bit_at-past : bit_at (false ∷ true ∷ []) 2 ≡ false
bit_at-past = refl

pub flipped_inside : flipped (true ∷ false ∷ true ∷ []) 2 ≡ true ∷ false ∷ false ∷ []
flipped_inside = refl

pub flipped_past : flipped (true ∷ false ∷ []) 2 ≡ true ∷ false ∷ []
flipped_past = refl
