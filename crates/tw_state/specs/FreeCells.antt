-- Free cells, and the links from one to the next.
use Rattle.std.specs.Prelude.{◌≡◌, ℕ, Bool, true, false, List, [], ◌∷◌, length, Option, Some, None, refl}
use Rattle.tw_types.specs.Types.{Widths, block_count}
use Rattle.tw_types.specs.Values.{Truth}
use Rattle.tw_state.specs.States.{Cell, Free, Live, State, cell_at, Links, IsWellFormed}
use Rattle.tw_state.specs.FromCode.{ListedState, state_of}

-- whether a cell is free
abbrev pub is_free : Cell → Bool
is_free (Free next) = true
is_free (Live target value) = false

-- the link of a cell, if it is a free one
abbrev pub link_of : Option Cell → Option ℕ
link_of (Some (Free next)) = Some next
link_of other = None

-- the link of the cell of a block, if it is a free one
abbrev pub link_at : List Cell → ℕ → Option ℕ
link_at cells block = link_of (cell_at cells block)

-- the links from an address on pass this number of free cells, and then end at 0
abbrev pub EndsAfter : List Cell → ℕ → ℕ → Type 0
EndsAfter cells address count = (chain : List ℕ) × Links cells address chain × (length chain ≡ count)

-- the memory of a state, without names
abbrev pub memory_of : ListedState → State
memory_of listed = state_of [] listed

-- a state has a cell for each block, and is well-formed
pub record FormedAt (widths : Widths) (listed : ListedState) : Type 0 where
  pub all_blocks : length listed.cells ≡ block_count widths
  pub well_formed : IsWellFormed (memory_of listed)

-- `1 free 0; 2 live bool true`
abbrev one_free : List Cell
one_free = Free 0 ∷ Live 0 (Truth true) ∷ []

pub link_of_block_1 : link_at one_free 1 ≡ Some 0
link_of_block_1 = refl

pub no_link_of_block_2 : link_at one_free 2 ≡ None
no_link_of_block_2 = refl

pub ends_after_one : EndsAfter one_free 1 1
ends_after_one = (1 ∷ [], (refl, (0, refl, refl)), refl)
