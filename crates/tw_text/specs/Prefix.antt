-- Prefixes of a text.
use Rattle.std.specs.Prelude.{◌≡◌, ◌==◌, ℕ, if◌then◌else◌, List, [], ◌∷◌, Option, Some, None, codes, refl}

-- the suffix after this prefix, if the bytes begin with it; unfoldable, as it would open over each literal otherwise
unfoldable pub after : List ℕ → List ℕ → Option (List ℕ)
after [] bytes = Some bytes
after (c ∷ prefix) [] = None
after (c ∷ prefix) (byte ∷ bytes) = if byte == c then after prefix bytes else None

pub after-prefix : after (codes "wires ") (codes "wires 7\n") ≡ Some (codes "7\n")
unfolding after
after-prefix = refl

pub after-other : after (codes "gates ") (codes "wires 7\n") ≡ None
unfolding after
after-other = refl

pub after-short : after (codes "wires ") (codes "wire") ≡ None
unfolding after
after-short = refl
