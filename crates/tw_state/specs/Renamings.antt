-- Renaming of blocks by a table: the new number of each block in turn.
use Rattle.std.specs.Prelude.{◌≡◌, ◌≤◌, ◌<◌, ◌==◌, ◌-◌, slice_get, ℕ, zero, suc, List, [], ◌∷◌, length, map, count_by, get_or, Some, refl}
use Rattle.std.specs.List.{AllByRecursion}
use Rattle.tw_types.specs.Values.{Address}
use Rattle.tw_state.specs.States.{Name, Cell}
use Rattle.tw_state.specs.FromCode.{ListedState, state_of}
use Rattle.tw_state.specs.Renaming.{Permutation, renamed_value, renamed_cell, renamed_cells, renamed}

-- the new address of a block; null stays, and so does what is no block
abbrev pub renumbered : List ℕ → ℕ → ℕ
renumbered perm zero = 0
renumbered perm (suc place) = get_or perm place (suc place)

-- the table has a block for each block, and each block once
pub record IsPermutation (blocks : ℕ) (perm : List ℕ) : Type 0 where
  pub counted : length perm ≡ blocks
  pub within : AllByRecursion (λ block. (0 < block) × (block ≤ blocks)) perm
  pub once : (block : ℕ) → 0 < block → block ≤ blocks → count_by (λ other. other == block) perm ≡ 1

-- the head, the cells and the values of a listed state after a renaming
abbrev pub renamed_list : {blocks : ℕ} → Permutation blocks → ListedState → ListedState
renamed_list pi listed =
    record { head = pi.to listed.head; cells = renamed_cells pi listed.cells; values = map (renamed_value pi.to) listed.values }

-- the second listed state is the first one, renamed by the permutation of this table; so it is for the states of any names
pub record IsRenamed (perm : List ℕ) (old new : ListedState) : Type 0 where
  pub pi : Permutation (length old.cells)
  pub table : (block : ℕ) → pi.to block ≡ renumbered perm block
  pub after : new ≡ renamed_list pi old
  pub states : (names : List Name) → state_of names new ≡ renamed pi (state_of names old)

-- the first cells, renamed, have their new places
pub record ArePlaced (perm : List ℕ) (old : List Cell) (count : ℕ) (new : List Cell) : Type 0 where
  pub as_many : length new ≡ length old
  pub placed : (place : ℕ) (cell : Cell) → place < count → slice_get old place ≡ Some cell → slice_get new (get_or perm place 0 - 1) ≡ Some (renamed_cell (renumbered perm) cell)

-- 1 becomes 3, 2 becomes 1, and 3 becomes 2
abbrev moved : List ℕ
moved = 3 ∷ 1 ∷ 2 ∷ []

pub block_1_moved : renumbered moved 1 ≡ 3
block_1_moved = refl

pub null_not_moved : renumbered moved 0 ≡ 0
null_not_moved = refl

pub value_moved : renamed_value (renumbered moved) (Address 2) ≡ Address 1
value_moved = refl
