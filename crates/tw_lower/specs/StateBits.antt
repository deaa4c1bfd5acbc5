-- The bits of states on all wires: each value on the wires of its name, the memory from wire 0 on, and 0 on all other wires.
use Rattle.std.specs.Prelude.{ℕ, List, [], ◌∷◌}
use Rattle.tw_types.specs.Types.{Widths}
use Rattle.tw_code.specs.Functions.{Bits, zeros, changed, placed}
use Rattle.tw_resolve.specs.Setting.{Setting}
use Rattle.tw_state.specs.States.{Name, Store, State}
use Rattle.tw_state.specs.Encoding.{memory_bits}
use Rattle.tw_state.specs.EntryEncoding.{targets_in, name_bits}
use Rattle.tw_state.specs.Steps.{Activation}
use Rattle.tw_frames.specs.Frames.{Frame}

-- the values of these names, each from the first wire of its name on
abbrev pub names_bits : Widths → (Name → ℕ) → List Name → Store → Bits
names_bits widths wire [] store = zeros
names_bits widths wire (name ∷ names) store = changed (placed (wire name) (name_bits widths store name)) (names_bits widths wire names store)

-- the values of the names of a frame
abbrev pub store_bits : Setting → Frame → Store → Bits
store_bits setting frame store = names_bits setting.widths frame.wire frame.names store

-- a state in a frame
abbrev pub state_bits : Setting → Frame → State → Bits
state_bits setting frame state = changed (store_bits setting frame state.store) (placed 0 (memory_bits setting.widths (targets_in setting) state))

-- what is known of a function while it runs in a frame
abbrev pub running : Frame → ℕ → Activation
running frame own = record { types = frame.types; bound = own }
