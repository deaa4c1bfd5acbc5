-- When a code simulates an entry.
use Rattle.std.specs.Prelude.{◌≡◌, ℕ, true, false, length, Option}
use Rattle.tw_syntax.specs.Programs.{FunTree}
use Rattle.tw_code.specs.Trees.{CodeTree}
use Rattle.tw_code.specs.Meaning.{mean}
use Rattle.tw_resolve.specs.Setting.{Setting}
use Rattle.tw_state.specs.declared.state.Side.TheVariants as side
use Rattle.tw_state.specs.States.{State}
use Rattle.tw_state.specs.Results.{HasResult}
use Rattle.tw_state.specs.EntryEncoding.{encoded_on}

-- On this number of wires, which hold all bits of an encoding, the code takes the encoding of each state on which the entry has a result
-- to the encoding of that result, every other wire zero, and backward it takes it back.
pub record Simulates (setting : Setting) (fun : FunTree) (bound : Option ℕ) (wires : ℕ) (code : CodeTree) : Type 0 where
  pub at_start : (start end : State) → HasResult setting fun bound start end → length (encoded_on wires setting side.Start fun start) ≡ wires
  pub at_end : (start end : State) → HasResult setting fun bound start end → length (encoded_on wires setting side.End fun end) ≡ wires
  pub takes : (start end : State) → HasResult setting fun bound start end
      → mean code false (encoded_on wires setting side.Start fun start) ≡ encoded_on wires setting side.End fun end
  pub undoes : (start end : State) → HasResult setting fun bound start end
      → mean code true (encoded_on wires setting side.End fun end) ≡ encoded_on wires setting side.Start fun start
