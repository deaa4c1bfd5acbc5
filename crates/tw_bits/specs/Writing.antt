-- Parts of a list of bits: overwritten, read, and padded with zeros.
use Rattle.std.specs.Prelude.{◌≡◌, ℕ, ◌+◌, ◌-◌, Bool, true, false, List, [], ◌∷◌, ◌++◌, length, take, drop, replicate, refl}

-- the bits, with new ones that replace as many from a place on
abbrev pub written : ℕ → List Bool → List Bool → List Bool
written at new old = take at old ++ (new ++ drop (at + length new) old)

-- this number of bits, from a place on
abbrev pub taken : ℕ → ℕ → List Bool → List Bool
taken at len bits = take len (drop at bits)

-- the bits, followed by zeros up to this length
abbrev pub padded : ℕ → List Bool → List Bool
padded len bits = bits ++ replicate (len - length bits) false

pub written_inside : written 1 (true ∷ true ∷ []) (false ∷ false ∷ false ∷ false ∷ []) ≡ false ∷ true ∷ true ∷ false ∷ []
written_inside = refl

pub taken_inside : taken 1 2 (false ∷ true ∷ true ∷ false ∷ []) ≡ true ∷ true ∷ []
taken_inside = refl

pub padded_to_three : padded 3 (true ∷ []) ≡ true ∷ false ∷ false ∷ []
padded_to_three = refl
