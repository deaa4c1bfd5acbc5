-- The answer to `encode`: the bits of each state of the input on the wires of a circuit; and what it promises.
use Rattle.std.specs.Prelude.{◌≡◌, ℕ, Bool, true, List, map, Option, Some}
use Rattle.tw_io.specs.Devices.{Appends}
use Rattle.tw_text.specs.declared.diagnostic.Diagnostic.{Diagnostic}
use Rattle.tw_syntax.specs.Programs.{FunTree, ProgramTree}
use Rattle.tw_parse.specs.Sources.{IsSource}
use Rattle.tw_resolve.specs.Setting.{Setting}
use Rattle.tw_state.specs.declared.state.Side.{Side}
use Rattle.tw_state.specs.declared.state_fault.StateFault.{StateFault}
use Rattle.tw_state.specs.EntryEncoding.{encoded_on}
use Rattle.tw_state.specs.FromCode.{ListedState, state_at}
use Rattle.tw_state.specs.StateLines.{AreStatesOf}
use Rattle.tw_state.specs.StateRefusals.{IsRefusedText}
use Rattle.tw_sim.specs.BitLines.{bit_lines, HaveWires}
use Rattle.tw_frames.specs.declared.regions.WireLayout.{WireLayout}
use Rattle.tw_interp.specs.Runs.{first_side}
use Rattle.tower.specs.Requests.{FileRequest}
use Rattle.tower.specs.CircuitEntries.{IsBuiltTree, IsRefusedEntry, IsWithinLimits}
use Rattle.tower.specs.Entries.{EntryIn, setting_in, fun_in}
use Rattle.tower.specs.Marks.{parted}
use Rattle.tower.specs.Outcomes.{Outcome, Prints, Refuses}
use Rattle.tower.specs.Run.{state_refusal}

-- the encoding of a state on a side of a function, on this number of wires, and those of states, in order
abbrev pub encoding : ℕ → Setting → Side → FunTree → ListedState → List Bool
encoding wires setting side fun state = encoded_on wires setting side fun (state_at side fun state)

abbrev pub encodings : ℕ → Setting → Side → FunTree → List ListedState → List (List Bool)
encodings wires setting side fun states = map (encoding wires setting side fun) states

-- The answer to a text of states on a side of a function, on this number of wires: the refusal of a text that is not one of states, or a
-- line with the bits of each state.
pub data StatesAnswer (wires : ℕ) (setting : Setting) (side : Side) (fun : FunTree) (lines : List ℕ) (outcome : Outcome) : Type 0 where
  WrongStates : (fault : StateFault) (why : Diagnostic) → IsRefusedText setting side fun lines fault → state_refusal fault ≡ Some why → outcome ≡ Refuses why
      → StatesAnswer wires setting side fun lines outcome
  Encoded : (states : List ListedState) → AreStatesOf setting side fun lines states → outcome ≡ Prints (bit_lines (encodings wires setting side fun states))
      → StatesAnswer wires setting side fun lines outcome

-- The answer to a program and the text of states that follows it: the refusal of an entry without a circuit, or the answer to the states
-- on the wires of its circuit. They are those at the start of the function, or those at its end.
pub data EncodeAnswer (request : FileRequest) (lines : List ℕ) (tree : ProgramTree) (outcome : Outcome) : Type 0 where
  NoCircuit : (why : Diagnostic) → IsRefusedEntry request tree why → outcome ≡ Refuses why → EncodeAnswer request lines tree outcome
  OnCircuit : IsBuiltTree tree → (found : EntryIn request tree) (layout : WireLayout) → IsWithinLimits (setting_in found) found.entry found.measured layout
      → StatesAnswer layout.wires (setting_in found) (first_side request.inverse) (fun_in found) lines outcome → EncodeAnswer request lines tree outcome

-- The input is the source of an accepted program with the entry, then a text of states. The sink took a line for each state: its encoding
-- on the wires of the entry's layout.
pub record EncodedStates (request : FileRequest) (bytes : List ℕ) (before now : Option (List ℕ)) : Type 0 where
  pub tree : ProgramTree
  pub source : IsSource (parted true bytes).0 tree
  pub built : IsBuiltTree tree
  pub found : EntryIn request tree
  pub layout : WireLayout
  pub limits : IsWithinLimits (setting_in found) found.entry found.measured layout
  pub states : List ListedState
  pub are_states : AreStatesOf (setting_in found) (first_side request.inverse) (fun_in found) (parted true bytes).1 states
  pub printed : Appends before now (bit_lines (encodings layout.wires (setting_in found) (first_side request.inverse) (fun_in found) states))
  -- each line has a bit for each wire
  pub wide : HaveWires layout.wires (encodings layout.wires (setting_in found) (first_side request.inverse) (fun_in found) states)
