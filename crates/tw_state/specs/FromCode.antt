-- The states of the code, without pointers: the head, the cells, and the values of an entry's names in order.
use Rattle.std.specs.Prelude.{◌≡◌, ℕ, true, List, [], ◌∷◌, map, Some, codes, refl}
use Rattle.tw_syntax.specs.Programs.{FunTree}
use Rattle.tw_types.specs.declared.values.Val as val
use Rattle.tw_types.specs.FromCode.{value_of}
use Rattle.tw_types.specs.Values.{Value, Truth}
use Rattle.tw_check.specs.Liveness.{live_at_start, live_at_end}
use Rattle.tw_check.specs.Names.{Names}
use Rattle.tw_state.specs.declared.state.Cell.{Cell as CellOfCode}
use Rattle.tw_state.specs.declared.state.Cell.TheVariants as cell
use Rattle.tw_state.specs.declared.state.Side.{Side}
use Rattle.tw_state.specs.declared.state.Side.TheVariants as side
use Rattle.tw_state.specs.declared.state.State.{State as StateOfCode}
use Rattle.tw_state.specs.States.{Name, Cell, Free, Live, State}
use Rattle.tw_state.specs.Listed.{names_at_start, names_at_end, store_of}

-- a state as lists: its head, its cells, and the values of names in an order
pub record ListedState : Type 0 where
  pub head : ℕ
  pub cells : List Cell
  pub values : List Value

-- the state in which these names have the listed values, in order
abbrev pub state_of : List Name → ListedState → State
state_of names listed = record { head = listed.head; cells = listed.cells; store = store_of names listed.values }

-- the names of an entry that have values on this side, in order
abbrev pub names_at : Side → FunTree → List Name
names_at side.Start fun = names_at_start fun
names_at side.End fun = names_at_end fun

-- the set of these names
abbrev pub live_at : Side → FunTree → Names
live_at side.Start fun = live_at_start fun
live_at side.End fun = live_at_end fun

-- the listed state on this side of an entry
abbrev pub state_at : Side → FunTree → ListedState → State
state_at side fun listed = state_of (names_at side fun) listed

-- the cell that a cell of the code is
abbrev pub cell_of : CellOfCode → Cell
cell_of (cell.Free next) = Free next
cell_of (cell.Live target value) = Live target.0 (value_of value)

-- the listed state that a state of the code is
abbrev pub listed_of : StateOfCode → ListedState
listed_of state = record { head = state.free; cells = map cell_of state.cells.items; values = map value_of state.store.items }

pub cell_of-free : cell_of (cell.Free 3) ≡ Free 3
cell_of-free = refl

pub cell_of-live : cell_of (cell.Live (record { 0 = 2 }) (val.B true)) ≡ Live 2 (Truth true)
cell_of-live = refl

-- `free 1; 1 free 0; x true`
pub value_of_x : (state_of (codes "x" ∷ []) (record { head = 1; cells = Free 0 ∷ []; values = Truth true ∷ [] })).store (codes "x") ≡ Some (Truth true)
value_of_x = refl
