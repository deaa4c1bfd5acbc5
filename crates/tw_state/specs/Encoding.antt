-- The encoding of memory in bits, and what the bits of a state determine.
use Rattle.std.specs.Prelude.{◌≡◌, Bool, true, false, List, [], ◌∷◌, ◌++◌, codes, refl}
use Rattle.std.specs.List.{flat_map}
use Rattle.tw_bits.specs.Numbers.{number_bits}
use Rattle.tw_bits.specs.Writing.{padded}
use Rattle.tw_types.specs.Types.{Widths, Word, Boolean, Pointer, PairTy, Target, block_size}
use Rattle.tw_types.specs.Values.{Number, Truth, Address, PairValue, value_bits}
use Rattle.tw_state.specs.States.{Cell, Free, Live, State, empty, with_value}

-- a cell in the bits of a block: its link or its value, then zeros
abbrev pub cell_bits : Widths → List Target → Cell → List Bool
cell_bits widths targets (Free next) = padded (block_size widths targets) (number_bits widths.addr next)
cell_bits widths targets (Live target value) = padded (block_size widths targets) (value_bits widths value)

-- the head, and each cell in turn
abbrev pub memory_bits : Widths → List Target → State → List Bool
memory_bits widths targets state = number_bits widths.addr state.head ++ flat_map (cell_bits widths targets) state.cells

-- two cells are both free with one link, or both live, with one value if they have one target
abbrev pub CellsAgree : List Cell → List Cell → Type 0
CellsAgree [] [] = Unit {0}
CellsAgree (Free next ∷ cells) (Free other ∷ others) = (next ≡ other) × CellsAgree cells others
CellsAgree (Live target value ∷ cells) (Live other_target other ∷ others) = (target ≡ other_target → value ≡ other) × CellsAgree cells others
CellsAgree cells others = ⊥

-- two states are equal but for the targets of live cells, which have no bits
pub record Agree (state other : State) : Type 0 where
  pub head : state.head ≡ other.head
  pub cells : CellsAgree state.cells other.cells
  pub store : state.store ≡ other.store

-- words and addresses of two bits
abbrev pub two_bits : Widths
two_bits = record { word = 2; addr = 2 }

-- the targets `(uint, ptr<list>)`, written `list`, and `bool`, so blocks of four bits
abbrev pub list_and_bool : List Target
list_and_bool = record { written = codes "list"; ty = PairTy Word (Pointer 0) } ∷ record { written = codes "bool"; ty = Boolean } ∷ []

-- `1 live list (2, @1)` is 0110
pub live_list : cell_bits two_bits list_and_bool (Live 0 (PairValue (Number 2) (Address 1))) ≡ false ∷ true ∷ true ∷ false ∷ []
live_list = refl

-- `1 live bool true` is 1000
pub live_bool : cell_bits two_bits list_and_bool (Live 1 (Truth true)) ≡ true ∷ false ∷ false ∷ false ∷ []
live_bool = refl

-- `free 3; 1 live list (2, @1); 2 free 0; 3 free 2; xs @1`
abbrev pub one_live : State
one_live = record {
  head = 3;
  cells = Live 0 (PairValue (Number 2) (Address 1)) ∷ Free 0 ∷ Free 2 ∷ [];
  store = with_value empty (codes "xs") (Address 1);
}
