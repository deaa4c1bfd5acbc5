-- The encodings of states, as the code writes them.
use Rattle.std.specs.Prelude.{◌≡◌, ℕ, List, Option, Some, Result, slice_get}
use Rattle.tw_io.specs.Devices.{Wrote}
use Rattle.tw_io.specs.declared.device.WriteFault.{WriteFault}
use Rattle.tw_syntax.specs.Programs.{FunTree}
use Rattle.tw_resolve.specs.Setting.{Setting}
use Rattle.tw_state.specs.declared.state.Side.{Side}
use Rattle.tw_state.specs.EntryEncoding.{EncodedFits}
use Rattle.tw_state.specs.FromCode.{ListedState}
use Rattle.tw_state.specs.TypedLists.{IsTypedEntry}
use Rattle.tw_sim.specs.BitLines.{bit_line, bit_lines}
use Rattle.tower.specs.Encode.{encoding, encodings}

-- a state is typed on a side of the function of this number, and this number of wires holds its encoding
abbrev pub CanEncode : ℕ → Setting → ℕ → Side → ListedState → Type 0
CanEncode wires setting number side listed = IsTypedEntry setting number side listed × EncodedFits wires setting listed

module _ {K : Type 0} (taken : K → Option (List ℕ)) (faults : K → ℕ) where
  -- calls that write the encoding of a state on a side of the function of this number, on this number of wires, and those of states
  abbrev pub WroteEncoding : K → K → Result (Unit {0}) WriteFault → ℕ → Setting → ℕ → Side → ListedState → Type 0
  WroteEncoding old new result wires setting number side state =
      (fun : FunTree) → slice_get setting.funs number ≡ Some fun → Wrote taken faults old new result (bit_line (encoding wires setting side fun state))

  abbrev pub WroteEncodings : K → K → Result (Unit {0}) WriteFault → ℕ → Setting → ℕ → Side → List ListedState → Type 0
  WroteEncodings old new result wires setting number side states =
      (fun : FunTree) → slice_get setting.funs number ≡ Some fun → Wrote taken faults old new result (bit_lines (encodings wires setting side fun states))
