-- The digits that a text begins with.
use Rattle.std.specs.Prelude.{◌≡◌, List, [], codes, refl, ℕ}
use Rattle.std.specs.List.{take_while}
use Rattle.std.specs.Char.{is_ascii_digit}

-- the longest prefix of ASCII digits
abbrev pub digit_run : List ℕ → List ℕ
digit_run bytes = take_while is_ascii_digit bytes

pub digit_run-number : digit_run (codes "42 7") ≡ codes "42"
digit_run-number = refl

pub digit_run-word : digit_run (codes "x42") ≡ []
digit_run-word = refl
