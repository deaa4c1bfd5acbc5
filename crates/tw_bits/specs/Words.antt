-- Machine words as one number.
use Rattle.std.specs.Prelude.{◌≡◌, ℕ, ◌+◌, ◌*◌, ◌^◌, List, [], ◌∷◌, refl}

-- the number whose digits to the base 2^64 are these words, least word first
abbrev pub words_number : List ℕ → ℕ
words_number [] = 0
words_number (word ∷ words) = words_number words * 2 ^ 64 + word

pub three_and_one : words_number (3 ∷ 1 ∷ []) ≡ 18446744073709551619
three_and_one = refl
