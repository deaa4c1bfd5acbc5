-- The line of a statement that is stuck.
use Rattle.std.specs.Prelude.{◌≡◌, ℕ, List, ◌++◌, codes, decimal, refl}
use Rattle.std.specs.Fmt.{digits}
use Rattle.tw_text.specs.declared.place.Pos.{Pos}
use Rattle.tw_state.specs.Stuck.{Reason, Unmet, Wild, Dirty, Pad}

-- the name of a reason
abbrev pub reason_name : Reason → List ℕ
reason_name Unmet = codes "unmet"
reason_name Wild = codes "wild"
reason_name Dirty = codes "dirty"
reason_name Pad = codes "pad"

-- the line of a statement that is stuck: the reason, and the place of its first token
abbrev pub stuck_line : Reason → Pos → List ℕ
stuck_line reason at = codes "stuck " ++ (reason_name reason ++ (codes " at " ++ (decimal at.line ++ (codes ":" ++ (decimal at.col ++ codes "\n")))))

pub line_of_unmet : stuck_line Unmet (record { line = 1; col = 29 }) ≡ codes "stuck unmet at 1:29\n"
unfolding digits
line_of_unmet = refl
