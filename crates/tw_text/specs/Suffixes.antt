-- Suffixes of a text.
use Rattle.std.specs.Prelude.{◌≡◌, ◌<◌, ℕ, List, ◌∷◌, ◌++◌, length}
use Rattle.std.specs.Str.{chars}

-- the text ends with this suffix
pub record EndsWith (text rest : List ℕ) : Type 0 where
  pub prefix : List ℕ
  pub parts : text ≡ prefix ++ rest

-- the text is this character, then this suffix
pub record Begins (text : List ℕ) (c : ℕ) (rest : List ℕ) : Type 0 where
  pub spelled : chars text ≡ c ∷ chars rest
  pub suffix : EndsWith text rest
  pub shorter : length rest < length text

-- the text is this prefix, then this suffix
pub record Follows (text prefix rest : List ℕ) : Type 0 where
  pub spelled : chars text ≡ chars prefix ++ chars rest
  pub suffix : EndsWith text rest
