-- Places in a text, by lines and characters.
use Rattle.std.specs.Prelude.{◌≡◌, ℕ, ◌+◌, ◌==◌, if◌then◌else◌, List, [], ◌∷◌, codes, refl}
use Rattle.tw_text.specs.declared.place.Pos.{Pos}

-- the place of the first character
abbrev pub first_place : Pos
first_place = record { line = 1; col = 1 }

-- the place after a character: after a newline the first column of the next line, else the next column
abbrev pub after_char : Pos → ℕ → Pos
after_char at c = if c == 10 then record { line = at.line + 1; col = 1 } else record at { col = at.col + 1 }

pub after_char-letter : after_char first_place 97 ≡ record { line = 1; col = 2 }
after_char-letter = refl

pub after_char-newline : after_char (record { line = 3; col = 9 }) 10 ≡ record { line = 4; col = 1 }
after_char-newline = refl

-- the place after these characters
abbrev pub after_chars : Pos → List ℕ → Pos
after_chars at [] = at
after_chars at (c ∷ cs) = after_chars (after_char at c) cs

pub after_two_lines : after_chars first_place (codes "ab\nc") ≡ record { line = 2; col = 2 }
after_two_lines = refl

pub after_nothing : after_chars first_place [] ≡ first_place
after_nothing = refl
