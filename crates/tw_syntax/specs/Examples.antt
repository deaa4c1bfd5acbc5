-- Parts of worked examples.
use denote.Bor.{Bor}
use Rattle.std.specs.Prelude.{ℕ, List}
use Rattle.tw_text.specs.declared.place.Pos.{Pos}
use Rattle.tw_syntax.specs.declared.name.Name.{Name}

-- a value at some address of the arena
abbrev pub lent : {A : Type 0} → A → Bor A
lent x = record { ref_ptr = (0, 0); now = x }

-- the place of a line and a column
abbrev pub place : ℕ → ℕ → Pos
place line col = record { line = line; col = col }

-- a name at a place
abbrev pub name : List ℕ → Pos → Name
name text at = record { text = lent text; at = at }
