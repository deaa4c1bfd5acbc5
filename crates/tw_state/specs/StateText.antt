-- The text of a state: its head, a line for each cell, and a line for each name.
use Rattle.std.specs.Prelude.{◌≡◌, ◌<◌, ◌≤◌, ℕ, suc, true, false, List, [], ◌∷◌, ◌++◌, length, Option, Some, Result, codes, decimal, slice_get, unwrap_or, refl}
use Rattle.std.specs.Fmt.{digits}
use Rattle.std.specs.List.{AllByRecursion}
use Rattle.tw_io.specs.declared.device.WriteFault.{WriteFault}
use Rattle.tw_io.specs.Devices.{Wrote}
use Rattle.tw_syntax.specs.Programs.{FunTree}
use Rattle.tw_types.specs.Types.{Target, Word, Boolean, Pointer, PairTy}
use Rattle.tw_types.specs.Values.{Value, UnitValue, Number, Truth, Address, PairValue}
use Rattle.tw_types.specs.Table.{written_at}
use Rattle.tw_resolve.specs.Setting.{Setting}
use Rattle.tw_state.specs.declared.state.Side.{Side}
use Rattle.tw_state.specs.States.{Name, Cell, Free, Live}
use Rattle.tw_state.specs.FromCode.{ListedState, names_at}
use Rattle.tw_state.specs.EntryEncoding.{targets_in}

-- the text of a value; an address has `@` before its number
abbrev pub value_text : Value → List ℕ
value_text UnitValue = codes "()"
value_text (Number n) = decimal n
value_text (Truth true) = codes "true"
value_text (Truth false) = codes "false"
value_text (Address block) = codes "@" ++ decimal block
value_text (PairValue x y) = codes "(" ++ (value_text x ++ (codes ", " ++ (value_text y ++ codes ")")))

-- the line of a free head
abbrev pub head_line : ℕ → List ℕ
head_line head = codes "free " ++ (decimal head ++ codes "\n")

-- the line of a name and its value
abbrev pub name_line : Name → Value → List ℕ
name_line name value = name ++ (codes " " ++ (value_text value ++ codes "\n"))

-- the line of the cell of a block: its number, and its link, or its target as it is written and its value
abbrev pub cell_line : List Target → ℕ → Cell → List ℕ
cell_line targets block (Free next) = decimal block ++ (codes " free " ++ (decimal next ++ codes "\n"))
cell_line targets block (Live target value) =
    decimal block ++ (codes " live " ++ (unwrap_or (written_at targets target) [] ++ (codes " " ++ (value_text value ++ codes "\n"))))

-- the lines of cells, from the block of a number on
abbrev pub cell_lines : List Target → ℕ → List Cell → List ℕ
cell_lines targets block [] = []
cell_lines targets block (cell ∷ cells) = cell_line targets block cell ++ cell_lines targets (suc block) cells

-- the lines of names and their values, in order
abbrev pub name_lines : List Name → List Value → List ℕ
name_lines (name ∷ names) (value ∷ values) = name_line name value ++ name_lines names values
name_lines names values = []

-- the text of a listed state, with these targets and names
abbrev pub listed_text : List Target → List Name → ListedState → List ℕ
listed_text targets names listed =
    head_line listed.head ++ (cell_lines targets 1 listed.cells ++ name_lines names listed.values)

-- the text of a listed state on a side of a function
abbrev pub state_text : Setting → Side → FunTree → ListedState → List ℕ
state_text setting side fun listed = listed_text (targets_in setting) (names_at side fun) listed

-- a call that writes the text of a listed state on a side of the function of this number
abbrev pub WroteState : {K : Type 0} (taken : K → Option (List ℕ)) (faults : K → ℕ) (old new : K) (result : Result (Unit {0}) WriteFault) → Setting → ℕ → Side → ListedState → Type 0
WroteState taken faults old new result setting number side listed =
    (fun : FunTree) × (slice_get setting.funs number ≡ Some fun) × Wrote taken faults old new result (state_text setting side fun listed)

-- a live cell has a target of the program
abbrev pub HasTarget : List Target → Cell → Type 0
HasTarget targets (Free next) = Unit {0}
HasTarget targets (Live target value) = target < length targets

-- a listed state can be printed: its live cells have targets of the program, and it has as many values as there are names
pub record IsPrintable (targets : List Target) (names : List Name) (listed : ListedState) : Type 0 where
  pub each_cell : AllByRecursion (HasTarget targets) listed.cells
  pub counted : length listed.values ≡ length names

-- the same, on a side of the function of this number
abbrev pub IsPrintableOn : Setting → ℕ → Side → ListedState → Type 0
IsPrintableOn setting number side listed = (fun : FunTree) → slice_get setting.funs number ≡ Some fun → IsPrintable (targets_in setting) (names_at side fun) listed

-- the items 5 and 7 of a list, in blocks 1 and 2
pub two_items_text :
    listed_text (record { written = codes "list"; ty = PairTy Word (Pointer 0) } ∷ []) (codes "xs" ∷ codes "acc" ∷ []) (record {
      head = 3;
      cells = Live 0 (PairValue (Number 5) (Address 2)) ∷ Live 0 (PairValue (Number 7) (Address 0)) ∷ Free 0 ∷ [];
      values = Address 1 ∷ Number 0 ∷ [];
    })
    ≡ codes "free 3\n1 live list (5, @2)\n2 live list (7, @0)\n3 free 0\nxs @1\nacc 0\n"
unfolding digits
two_items_text = refl

-- a full memory, and a truth value beside `()`
pub full_text :
    listed_text (record { written = codes "bool"; ty = Boolean } ∷ []) (codes "p" ∷ []) (record { head = 0; cells = Live 0 (Truth true) ∷ []; values = PairValue UnitValue (Truth false) ∷ [] })
    ≡ codes "free 0\n1 live bool true\np ((), false)\n"
unfolding digits
full_text = refl
