-- States: a free head, the cells of the blocks, and the values of names.
use Rattle.std.specs.Prelude.{◌≡◌, ℕ, zero, suc, ◌==◌, if◌then◌else◌, List, [], ◌∷◌, Option, Some, None, count_by, slice_get, slice_set}
use Rattle.std.specs.Str.{bytes_eq}
use Rattle.tw_types.specs.Values.{Value}

-- a name of a program
abbrev pub Name : Type 0
Name = List ℕ

-- a cell: free, with the address of the next free cell, or live, with its target's number and its value
pub data Cell : Type 0 where
  Free : (next : ℕ) → Cell
  Live : (target : ℕ) (value : Value) → Cell

-- which value each name has
abbrev pub Store : Type 0
Store = Name → Option Value

-- the store in which no name has a value
abbrev pub empty : Store
empty = λ name. None

-- the store with this name added
abbrev pub with_value : Store → Name → Value → Store
with_value store name value = λ other. if bytes_eq name other then Some value else store other

-- the store with this name removed
abbrev pub without : Store → Name → Store
without store name other = if bytes_eq name other then None else store other

-- a state: the address of the first free cell, or 0; the cells of blocks 1, 2 and so on; the values of the names
pub record State : Type 0 where
  pub head : ℕ
  pub cells : List Cell
  pub store : Store

-- the cell of a block; blocks count from 1
abbrev pub cell_at : List Cell → ℕ → Option Cell
cell_at cells zero = None
cell_at cells (suc i) = slice_get cells i

-- the cells with another one of this block
abbrev pub with_cell : List Cell → ℕ → Cell → List Cell
with_cell cells zero cell = cells
with_cell cells (suc i) cell = slice_set cells i cell

-- from this address on, the links pass these cells, all of them free, and end at 0
abbrev pub Links : List Cell → ℕ → List ℕ → Type 0
Links cells address [] = address ≡ 0
Links cells address (block ∷ chain) =
    (address ≡ block) × ((next : ℕ) × (cell_at cells block ≡ Some (Free next)) × Links cells next chain)

-- the chain from the head passes each free cell once, passes no live cell, and ends at 0
pub record IsWellFormed (state : State) : Type 0 where
  pub chain : List ℕ
  pub links : Links state.cells state.head chain
  pub once : (block next : ℕ) → cell_at state.cells block ≡ Some (Free next) → count_by (λ passed. passed == block) chain ≡ 1
