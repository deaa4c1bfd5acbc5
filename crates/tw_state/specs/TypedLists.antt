-- Typed states of an entry, as lists.
use Rattle.std.specs.Prelude.{◌≡◌, ◌≤◌, ℕ, List, Some, length, slice_get}
use Rattle.std.specs.List.{AllByRecursion}
use Rattle.tw_syntax.specs.Programs.{FunTree}
use Rattle.tw_types.specs.Table.{ty_at}
use Rattle.tw_types.specs.Types.{Widths, Ty, Target, block_count}
use Rattle.tw_types.specs.Values.{HasType}
use Rattle.tw_resolve.specs.Setting.{Setting}
use Rattle.tw_state.specs.declared.state.Side.{Side}
use Rattle.tw_state.specs.FromCode.{ListedState, names_at, live_at, state_at}
use Rattle.tw_state.specs.Results.{IsTypedAt}
use Rattle.tw_state.specs.States.{Cell, Free, Live}

-- a cell by a list of targets: a free one links to a block or to 0; a live one has the number of a target and a value of its type
abbrev pub IsCell : Widths → List Target → Cell → Type 0
IsCell widths targets (Free next) = next ≤ block_count widths
IsCell widths targets (Live target value) = (ty : Ty) × (ty_at targets target ≡ Some ty) × HasType widths value ty

-- the memory of a listed state is typed: there is a cell for each block, and all of them are cells of the program
pub record IsTypedMemory (widths : Widths) (targets : List Target) (listed : ListedState) : Type 0 where
  pub head_within : listed.head ≤ block_count widths
  pub all_blocks : length listed.cells ≡ block_count widths
  pub each_cell : AllByRecursion (IsCell widths targets) listed.cells

-- a listed state is typed on a side of a function: it has a value for each name, and is typed with these values
pub record IsTypedOn (setting : Setting) (side : Side) (fun : FunTree) (listed : ListedState) : Type 0 where
  pub counted : length listed.values ≡ length (names_at side fun)
  pub typed : IsTypedAt setting fun (live_at side fun) (state_at side fun listed)

-- the same, for the function of this number
abbrev pub IsTypedEntry : Setting → ℕ → Side → ListedState → Type 0
IsTypedEntry setting number side listed = (fun : FunTree) × (slice_get setting.funs number ≡ Some fun) × IsTypedOn setting side fun listed
