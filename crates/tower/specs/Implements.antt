-- When the gates of a file implement an entry.
use Rattle.std.specs.Prelude.{◌≡◌, ℕ, Bool, length, List, Option}
use Rattle.tw_syntax.specs.Programs.{FunTree}
use Rattle.tw_gate.specs.declared.gate.Level.{Level}
use Rattle.tw_gate.specs.declared.gate.Level.TheVariants as levels
use Rattle.tw_gate.specs.Gates.{PlainGate, act, inverse}
use Rattle.tw_types.specs.Types.{block_count}
use Rattle.tw_resolve.specs.Setting.{Setting}
use Rattle.tw_state.specs.declared.state.Side.TheVariants as side
use Rattle.tw_state.specs.States.{State, IsWellFormed}
use Rattle.tw_state.specs.Results.{HasResult}
use Rattle.tw_state.specs.Renaming.{Permutation, renamed}
use Rattle.tw_state.specs.EntryEncoding.{encoded_on, IsInjectiveOn}

-- the gates, which are those of a file of this level, take these bits to those. Nothing is compiled to level `t` yet
abbrev pub Takes : Level → List PlainGate → (before after : List Bool) → Type 0
Takes levels.Mcx gates before after = act gates before ≡ after
Takes levels.Tof gates before after = act gates before ≡ after
Takes levels.T gates before after = ⊥

-- On this number of wires, which hold all bits of an encoding, the gates take the encoding of each state on which the entry has a
-- result to the encoding of that result, every other wire zero, and their inverse takes it back. Renaming the blocks commutes with
-- this. At the start and at the end the encoding is injective, and each result is well-formed.
pub record Implements (setting : Setting) (fun : FunTree) (bound : Option ℕ) (level : Level) (wires : ℕ) (gates : List PlainGate) : Type 0 where
  pub at_start : (start end : State) → HasResult setting fun bound start end → length (encoded_on wires setting side.Start fun start) ≡ wires
  pub at_end : (start end : State) → HasResult setting fun bound start end → length (encoded_on wires setting side.End fun end) ≡ wires
  pub takes : (start end : State) → HasResult setting fun bound start end →
      Takes level gates (encoded_on wires setting side.Start fun start) (encoded_on wires setting side.End fun end)
  pub undoes : (start end : State) → HasResult setting fun bound start end →
      Takes level (inverse gates) (encoded_on wires setting side.End fun end) (encoded_on wires setting side.Start fun start)
  pub renames : (pi : Permutation (block_count setting.widths)) (start end : State) → HasResult setting fun bound start end →
      HasResult setting fun bound (renamed pi start) (renamed pi end)
      × Takes level gates (encoded_on wires setting side.Start fun (renamed pi start)) (encoded_on wires setting side.End fun (renamed pi end))
  pub injective_at_start : IsInjectiveOn wires setting side.Start fun
  pub injective_at_end : IsInjectiveOn wires setting side.End fun
  pub result_well_formed : (start end : State) → HasResult setting fun bound start end → IsWellFormed end
