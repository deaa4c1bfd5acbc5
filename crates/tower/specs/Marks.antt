-- The line `%%` in an input: the source before it, and the states after it.
use Rattle.std.specs.Prelude.{◌≡◌, ℕ, ◌==◌, Bool, true, if◌then◌else◌, List, [], ◌∷◌, Option, Some, None, option_and_then, codes, refl}
use Rattle.tw_text.specs.Prefix.{after}

-- the bytes after a newline, if there is one; the last line may lack it
abbrev pub after_end : List ℕ → Option (List ℕ)
after_end [] = Some []
after_end (byte ∷ bytes) = if byte == 10 then Some bytes else None

-- the bytes after a line `%%` at their start, if they begin with one
abbrev pub after_mark : List ℕ → Option (List ℕ)
after_mark bytes = option_and_then after_end (after (codes "%%") bytes)

-- a byte before the mark, or the end of the source at a mark
abbrev pub parted_at : Option (List ℕ) → ℕ → List ℕ × List ℕ → List ℕ × List ℕ
parted_at (Some rest) byte parts = ([], rest)
parted_at None byte parts = (byte ∷ parts.0, parts.1)

-- the bytes before the first line `%%` and those after it, from a place that begins a line or lies within one; without such a line all
-- bytes come before it
abbrev pub parted : Bool → List ℕ → List ℕ × List ℕ
parted begins [] = ([], [])
parted begins (byte ∷ bytes) = parted_at (if begins then after_mark (byte ∷ bytes) else None) byte (parted (byte == 10) bytes)

pub source_and_states : parted true (codes "a %%\n%%\nb\n%%\n") ≡ (codes "a %%\n", codes "b\n%%\n")
unfolding after
source_and_states = refl

pub mark_at_end : parted true (codes "a\n%%") ≡ (codes "a\n", [])
unfolding after
mark_at_end = refl

pub no_mark : parted true (codes "%%%\n %%\n") ≡ (codes "%%%\n %%\n", [])
unfolding after
no_mark = refl
