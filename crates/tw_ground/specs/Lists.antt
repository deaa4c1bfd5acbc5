-- The state of a list of words: its items from block 1 on, and the other blocks free.
use Rattle.std.specs.Prelude.{◌≡◌, ℕ, zero, suc, ◌<◌, ◌≤◌, ◌-◌, List, [], ◌∷◌, ◌++◌, length, codes, refl}
use Rattle.tw_types.specs.Types.{Widths, Word, Pointer, PairTy, Target, block_count}
use Rattle.tw_types.specs.Values.{Number, Address, PairValue}
use Rattle.tw_state.specs.States.{Cell, Free, Live}
use Rattle.tw_state.specs.FromCode.{ListedState}
use Rattle.tw_ground.specs.declared.ground_fault.GroundFault.{GroundFault}
use Rattle.tw_ground.specs.declared.ground_fault.GroundFault.TheVariants as fault

-- the targets of the program: `list`, which denotes `(uint, ptr<list>)`
abbrev pub list_targets : List Target
list_targets = record { written = codes "list"; ty = PairTy Word (Pointer 0) } ∷ []

-- the address of the first of some blocks from this one on; null if there are none
abbrev pub first_of : ℕ → ℕ → ℕ
first_of block zero = 0
first_of block (suc count) = block

-- the cell of an item: its word, and the address of the next item
abbrev pub item_cell : ℕ → ℕ → Cell
item_cell item next = Live 0 (PairValue (Number item) (Address next))

-- the cells of items from this block on, each linked to the next one
abbrev pub item_cells : ℕ → List ℕ → List Cell
item_cells block [] = []
item_cells block (item ∷ items) = item_cell item (first_of (suc block) (length items)) ∷ item_cells (suc block) items

-- some free cells from this block on, each linked to the next one
abbrev pub free_cells : ℕ → ℕ → List Cell
free_cells block zero = []
free_cells block (suc count) = Free (first_of (suc block) count) ∷ free_cells (suc block) count

-- the state of a list: its items, then the free cells; the address of the first item, and 0
abbrev pub list_state : Widths → List ℕ → ListedState
list_state widths items = record {
  head = first_of (suc (length items)) (block_count widths - length items);
  cells = item_cells 1 items ++ free_cells (suc (length items)) (block_count widths - length items);
  values = Address (first_of 1 (length items)) ∷ Number 0 ∷ [];
}

-- why there is no state of a list: it has more items than there are blocks, or it doesn't and memory ran out
abbrev pub IsListFault : Widths → List ℕ → GroundFault → Type 0
IsListFault widths items (fault.TooMany found limit) = (block_count widths < length items) × (found ≡ length items) × (limit ≡ block_count widths)
IsListFault widths items fault.Memory = length items ≤ block_count widths

-- `free 3; 1 live list (5, @2); 2 live list (7, @0); 3 free 0; xs @1; acc 0`
pub state_of_5_and_7 : list_state (record { word = 3; addr = 2 }) (5 ∷ 7 ∷ []) ≡ record {
  head = 3;
  cells = item_cell 5 2 ∷ item_cell 7 0 ∷ Free 0 ∷ [];
  values = Address 1 ∷ Number 0 ∷ [];
}
state_of_5_and_7 = refl

-- no items: `free 1; 1 free 2; 2 free 3; 3 free 0; xs @0; acc 0`
pub state_of_none : list_state (record { word = 3; addr = 2 }) [] ≡ record {
  head = 1;
  cells = Free 2 ∷ Free 3 ∷ Free 0 ∷ [];
  values = Address 0 ∷ Number 0 ∷ [];
}
state_of_none = refl

-- no free block: `free 0; 1 live list (1, @0); xs @1; acc 0`
pub state_of_1 : list_state (record { word = 1; addr = 1 }) (1 ∷ []) ≡ record { head = 0; cells = item_cell 1 0 ∷ []; values = Address 1 ∷ Number 0 ∷ [] }
state_of_1 = refl
