-- Renaming of blocks.
use Rattle.std.specs.Prelude.{◌≡◌, ℕ, ◌≤◌, List, length, map, unwrap_or, option_map}
use Rattle.std.specs.List.{range_with_len}
use Rattle.tw_types.specs.Values.{Value, Address, PairValue}
use Rattle.tw_state.specs.States.{Cell, Free, Live, Store, State, cell_at}

-- a permutation of the blocks 1 to `blocks`, with its inverse; 0, which is null, stays
pub record Permutation (blocks : ℕ) : Type 0 where
  pub to : ℕ → ℕ
  pub from : ℕ → ℕ
  pub to_null : to 0 ≡ 0
  pub from_null : from 0 ≡ 0
  pub to_within : (block : ℕ) → block ≤ blocks → to block ≤ blocks
  pub from_within : (block : ℕ) → block ≤ blocks → from block ≤ blocks
  pub from_to : (block : ℕ) → block ≤ blocks → from (to block) ≡ block
  pub to_from : (block : ℕ) → block ≤ blocks → to (from block) ≡ block

-- the addresses in a value
abbrev pub renamed_value : (ℕ → ℕ) → Value → Value
renamed_value to (Address block) = Address (to block)
renamed_value to (PairValue x y) = PairValue (renamed_value to x) (renamed_value to y)
renamed_value to other = other

-- the link of a free cell, or the addresses in the value of a live one
abbrev pub renamed_cell : (ℕ → ℕ) → Cell → Cell
renamed_cell to (Free next) = Free (to next)
renamed_cell to (Live target value) = Live target (renamed_value to value)

-- the cell of a block after the renaming
abbrev pub cell_renamed_to : {blocks : ℕ} → Permutation blocks → List Cell → ℕ → Cell
cell_renamed_to pi cells block = renamed_cell pi.to (unwrap_or (cell_at cells (pi.from block)) (Free 0))

-- the cells of blocks 1, 2 and so on after the renaming
abbrev pub renamed_cells : {blocks : ℕ} → Permutation blocks → List Cell → List Cell
renamed_cells pi cells = map (cell_renamed_to pi cells) (range_with_len 1 (length cells))

-- the addresses in the values of names
abbrev pub renamed_store : {blocks : ℕ} → Permutation blocks → Store → Store
renamed_store pi store = λ name. option_map (renamed_value pi.to) (store name)

-- the head, the links, the addresses in values, and the places of the cells are renamed
abbrev pub renamed : {blocks : ℕ} → Permutation blocks → State → State
renamed pi state =
    record { head = pi.to state.head; cells = renamed_cells pi state.cells; store = renamed_store pi state.store }
