-- The limits, by what they count.
use Rattle.std.specs.Prelude.{◌≡◌, ℕ, refl}
use Rattle.tw_text.specs.declared.refusal.Counted.{Counted}
use Rattle.tw_text.specs.declared.refusal.Counted.TheVariants as counted
use Rattle.tw_text.specs.declared.limits.TheConstants.{INPUT_LIMIT, NESTING_LIMIT, STATEMENTS_LIMIT, DEPTH_LIMIT, CONTROLS_LIMIT, WIRES_LIMIT, LINES_LIMIT, STATES_LIMIT}

-- the limit: the greatest count that is accepted
abbrev pub limit_of : Counted → ℕ
limit_of counted.Input = INPUT_LIMIT
limit_of counted.Nesting = NESTING_LIMIT
limit_of counted.Statements = STATEMENTS_LIMIT
limit_of counted.Depth = DEPTH_LIMIT
limit_of counted.Controls = CONTROLS_LIMIT
limit_of counted.Wires = WIRES_LIMIT
limit_of counted.Lines = LINES_LIMIT
limit_of counted.States = STATES_LIMIT

pub limit_of-nesting : limit_of counted.Nesting ≡ 64
limit_of-nesting = refl
