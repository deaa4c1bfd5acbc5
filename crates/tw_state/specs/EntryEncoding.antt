-- The encoding of the states of an entry in bits.
use Rattle.std.specs.Prelude.{◌≡◌, ◌≤◌, ◌+◌, ◌*◌, slice_get, Some, ℕ, Bool, true, false, List, [], ◌∷◌, ◌++◌, length, map, unwrap_or, option_map, codes, refl}
use Rattle.std.specs.List.{flat_map}
use Rattle.tw_bits.specs.Writing.{padded}
use Rattle.tw_syntax.specs.Programs.{FunTree}
use Rattle.tw_syntax.specs.Types.{type_print}
use Rattle.tw_types.specs.Types.{Widths, Target, UnitTy, block_size}
use Rattle.tw_types.specs.Values.{value_bits}
use Rattle.tw_resolve.specs.Setting.{Setting, type_of}
use Rattle.tw_state.specs.declared.state.Side.{Side}
use Rattle.tw_state.specs.declared.state.Side.TheVariants as side
use Rattle.tw_state.specs.States.{Name, Store, State, IsWellFormed}
use Rattle.tw_state.specs.FromCode.{ListedState, names_at, live_at, state_at}
use Rattle.tw_state.specs.Encoding.{memory_bits, Agree, two_bits, list_and_bool, one_live}
use Rattle.tw_state.specs.Examples.{main, main_setting, operands, start, end}
use Rattle.tw_state.specs.Results.{IsTypedAt}

-- the targets of a program, each as it is written and with the type that it denotes
abbrev pub targets_in : Setting → List Target
targets_in setting =
    map (λ to. record { written = type_print to; ty = unwrap_or (type_of setting to) UnitTy }) setting.scope.targets

-- the bits of the value of a name; none if it has no value
abbrev pub name_bits : Widths → Store → Name → List Bool
name_bits widths store name = unwrap_or (option_map (value_bits widths) (store name)) []

-- a state on a side of a function, on this number of wires: its memory, the values of the names in order, and zeros on all other wires
abbrev pub encoded_on : ℕ → Setting → Side → FunTree → State → List Bool
encoded_on wires setting side fun state =
    padded wires (memory_bits setting.widths (targets_in setting) state ++ flat_map (name_bits setting.widths state.store) (names_at side fun))

-- the encoding of a listed state has no more bits than this
abbrev pub EncodedFits : ℕ → Setting → ListedState → Type 0
EncodedFits wires setting listed =
    setting.widths.addr + length listed.cells * block_size setting.widths (targets_in setting) + length (flat_map (value_bits setting.widths) listed.values) ≤ wires

-- these bits are the encoding of a listed state on a side of the function of this number
abbrev pub IsEncodedOn : ℕ → Setting → ℕ → Side → ListedState → List Bool → Type 0
IsEncodedOn wires setting number side listed bits = (fun : FunTree) × (slice_get setting.funs number ≡ Some fun) × (bits ≡ encoded_on wires setting side fun (state_at side fun listed))

-- bits are appended: they come after the first ones, and all others stay zero
pub record Appends (at : ℕ) (more old new : List Bool) : Type 0 where
  pub as_many : length new ≡ length old
  pub after : (first : List Bool) → length first ≡ at → old ≡ padded (length old) first → new ≡ padded (length old) (first ++ more)

-- the encoding is injective: well-formed states that are typed on a side and have equal bits are equal but for the targets of live cells
abbrev pub IsInjectiveOn : ℕ → Setting → Side → FunTree → Type 0
IsInjectiveOn wires setting side fun = (state other : State) → IsWellFormed state → IsWellFormed other → IsTypedAt setting fun (live_at side fun) state → IsTypedAt setting fun (live_at side fun) other → encoded_on wires setting side fun state ≡ encoded_on wires setting side fun other → Agree state other

-- the encoding is onto: if bits have the memory of a state that is typed on a side, any bits for its names, and then zeros, they are the encoding
-- of a state with that memory that is typed on the side
abbrev pub IsOntoOn : ℕ → Setting → Side → FunTree → Type 0
IsOntoOn wires setting side fun = (state : State) → IsTypedAt setting fun (live_at side fun) state → (bits : List Bool)
    → length bits ≡ length (flat_map (name_bits setting.widths state.store) (names_at side fun))
    → (other : State) × IsTypedAt setting fun (live_at side fun) other × (other.head ≡ state.head) × (other.cells ≡ state.cells)
    × (encoded_on wires setting side fun other ≡ padded wires (memory_bits setting.widths (targets_in setting) state ++ bits))

-- `free 3; 1 live list (2, @1); 2 free 0; 3 free 2; xs @1` is 11 0110 0000 0100 10 and a zero on 17 wires
pub one_live_on_17_wires :
    padded 17 (memory_bits two_bits list_and_bool one_live ++ name_bits two_bits one_live.store (codes "xs"))
    ≡ true ∷ true ∷ false ∷ true ∷ true ∷ false ∷ false ∷ false ∷ false ∷ false ∷ false ∷ true ∷ false ∷ false ∷ true ∷ false ∷ false ∷ []
one_live_on_17_wires = refl

-- `free 1; 1 free 0; a true; b true` is 1011000
pub start_on_7_wires : encoded_on 7 main_setting side.Start main start ≡ true ∷ false ∷ true ∷ true ∷ false ∷ false ∷ false ∷ []
start_on_7_wires = refl

-- with b false: 1010000
pub operands_in_order :
    encoded_on 7 main_setting side.Start main (record start { store = operands true false })
    ≡ true ∷ false ∷ true ∷ false ∷ false ∷ false ∷ false ∷ []
operands_in_order = refl

-- with the result `c true`: 1011100
pub end_on_7_wires : encoded_on 7 main_setting side.End main end ≡ true ∷ false ∷ true ∷ true ∷ true ∷ false ∷ false ∷ []
end_on_7_wires = refl
