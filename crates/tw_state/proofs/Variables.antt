-- Variables with their types in a list, as a means of proof: the stores that hold them, and the bits of states with them.
use Rattle.std.specs.Prelude.{◌≡◌, ◌≢◌, ◌≤◌, ℕ, Bool, Some, None, List, [], ◌++◌, length, unwrap_or, option_map}
use Rattle.std.specs.List.{AllByRecursion, flat_map}
use Rattle.tw_bits.specs.Writing.{padded}
use Rattle.tw_types.specs.Types.{Widths, Ty, Target, block_count}
use Rattle.tw_types.specs.Values.{Value, HasType, value_bits}
use Rattle.tw_state.specs.States.{Name, Store, State, IsWellFormed}
use Rattle.tw_state.specs.Encoding.{memory_bits, Agree}
use Rattle.tw_state.specs.TypedLists.{IsCell}

-- a name and its type
pub record Variable : Type 0 where
  pub name : Name
  pub ty : Ty

-- the store has this variable, with a value of its type
abbrev pub HasVariable : Widths → Store → Variable → Type 0
HasVariable widths store variable = (value : Value) × (store variable.name ≡ Some value) × HasType widths value variable.ty

-- the store has these variables, each with a value of its type, and no other name
pub record Holds (widths : Widths) (variables : List Variable) (store : Store) : Type 0 where
  pub each : AllByRecursion (HasVariable widths store) variables
  pub no_other : (name : Name) → AllByRecursion (λ variable. variable.name ≢ name) variables → store name ≡ None

-- the state is typed: a cell for each block, all of them cells of the program, and these variables
pub record IsTyped (widths : Widths) (targets : List Target) (variables : List Variable) (state : State) : Type 0 where
  pub head_within : state.head ≤ block_count widths
  pub all_blocks : length state.cells ≡ block_count widths
  pub each_cell : AllByRecursion (IsCell widths targets) state.cells
  pub holds : Holds widths variables state.store

-- the bits of a variable; none if it has no value
abbrev pub variable_bits : Widths → Store → Variable → List Bool
variable_bits widths store variable = unwrap_or (option_map (value_bits widths) (store variable.name)) []

-- a state on this number of wires: its memory, these variables, and zeros on all other wires
abbrev pub encoded : ℕ → Widths → List Target → List Variable → State → List Bool
encoded wires widths targets variables state =
    padded wires (memory_bits widths targets state ++ flat_map (variable_bits widths state.store) variables)

-- typed, well-formed states with equal bits are equal but for the targets of live cells
abbrev pub IsInjective : ℕ → Widths → List Target → List Variable → Type 0
IsInjective wires widths targets variables = (state other : State) → IsWellFormed state → IsWellFormed other → IsTyped widths targets variables state → IsTyped widths targets variables other → encoded wires widths targets variables state ≡ encoded wires widths targets variables other → Agree state other
