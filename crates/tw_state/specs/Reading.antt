-- What is read at the start of bytes: a value before a text, a value after its name, and the lines of states. If nothing is read, the
-- bytes begin with no such text.
use denote.Bor.{Bor}
use Rattle.std.specs.Prelude.{◌≡◌, ◌≤◌, ◌+◌, ℕ, false, List, [], ◌∷◌, ◌++◌, length, codes, decimal, Option, Some, None, unwrap_or}
use Rattle.std.specs.Char.{is_ascii_digit}
use Rattle.tw_types.specs.declared.values.Val.{Val}
use Rattle.tw_types.specs.Types.{Widths, Ty, Target, block_count}
use Rattle.tw_types.specs.Table.{written_at}
use Rattle.tw_types.specs.Values.{Value, HasType}
use Rattle.tw_types.specs.FromCode.{value_of}
use Rattle.tw_state.specs.declared.state.Cell.{Cell as CellOfCode}
use Rattle.tw_state.specs.States.{Name, Cell, Free, Live}
use Rattle.tw_state.specs.FromCode.{ListedState, cell_of}
use Rattle.tw_state.specs.Results.{Fits}
use Rattle.tw_state.specs.TypedLists.{IsCell}
use Rattle.tw_syntax.specs.Programs.{FunTree}
use Rattle.tw_resolve.specs.Setting.{Setting}
use Rattle.tw_state.specs.declared.state.Side.{Side}
use Rattle.tw_state.specs.declared.state_fault.StateFault.{StateFault}
use Rattle.tw_state.specs.StateLines.{Progress, Reaches}
use Rattle.tw_state.specs.StateRefusals.{IsRefusedText}
use Rattle.tw_state.specs.StateText.{value_text, cell_line, name_line}

-- a text begins with a byte that is no digit, so it delimits a number before it
abbrev pub Delimits : List ℕ → Type 0
Delimits [] = ⊥
Delimits (first ∷ text) = is_ascii_digit first ≡ false

-- a value of this type before this text, and the suffix after the text
abbrev pub IsValueBefore : Widths → Ty → List ℕ → List ℕ → Option (Val × Bor (List ℕ)) → Type 0
IsValueBefore widths ty tail bytes (Some found) = HasType widths (value_of found.0) ty × (bytes ≡ value_text (value_of found.0) ++ (tail ++ found.1.now))
IsValueBefore widths ty tail bytes None = (value : Value) (rest : List ℕ) → HasType widths value ty → ¬ (bytes ≡ value_text value ++ (tail ++ rest))

-- the value of this type in the line of a name, and the suffix after the line
abbrev pub IsNamedValue : Widths → Ty → Name → List ℕ → Option (Val × Bor (List ℕ)) → Type 0
IsNamedValue widths ty name bytes (Some found) = HasType widths (value_of found.0) ty × (bytes ≡ name_line name (value_of found.0) ++ found.1.now)
IsNamedValue widths ty name bytes None = (value : Value) (rest : List ℕ) → HasType widths value ty → ¬ (bytes ≡ name_line name value ++ rest)

-- the cell of a block by its line, and the suffix after the line
abbrev pub IsCellLine : Widths → List Target → ℕ → List ℕ → Option (CellOfCode × Bor (List ℕ)) → Type 0
IsCellLine widths targets block bytes (Some found) = IsCell widths targets (cell_of found.0) × (bytes ≡ cell_line targets block (cell_of found.0) ++ found.1.now)
IsCellLine widths targets block bytes None = (cell : Cell) (rest : List ℕ) → IsCell widths targets cell → ¬ (bytes ≡ cell_line targets block cell ++ rest)

-- a free cell by the rest of its line, and the suffix after the line
abbrev pub IsFreeText : Widths → List ℕ → Option (CellOfCode × Bor (List ℕ)) → Type 0
IsFreeText widths bytes (Some found) = (next : ℕ) × (cell_of found.0 ≡ Free next) × (next ≤ block_count widths) × (bytes ≡ decimal next ++ (codes "\n" ++ found.1.now))
IsFreeText widths bytes None = (next : ℕ) (rest : List ℕ) → next ≤ block_count widths → ¬ (bytes ≡ decimal next ++ (codes "\n" ++ rest))

-- the text of a live cell after the word `live`: its target as it is written, and its value
abbrev pub live_line : List Target → ℕ → Value → List ℕ
live_line targets target value = name_line (unwrap_or (written_at targets target) []) value

-- a live cell by the rest of its line, and the suffix after the line
abbrev pub IsLiveText : Widths → List Target → List ℕ → Option (CellOfCode × Bor (List ℕ)) → Type 0
IsLiveText widths targets bytes (Some found) = (target : ℕ) × (value : Value) × (cell_of found.0 ≡ Live target value) × IsCell widths targets (Live target value) × (bytes ≡ live_line targets target value ++ found.1.now)
IsLiveText widths targets bytes None = (target : ℕ) (value : Value) (rest : List ℕ) → IsCell widths targets (Live target value) → ¬ (bytes ≡ live_line targets target value ++ rest)

-- a state so far: its head, and its first cells and values
abbrev pub partial : ℕ → List Cell → List Value → ListedState
partial head cells values = record { head = head; cells = cells; values = values }

-- right lines lead from one point of a text, before which so many lines came, to another
pub record Leads (setting : Setting) (side : Side) (fun : FunTree) (from : Progress) (before : ℕ) (bytes : List ℕ) (to : Progress) (after : ℕ) (rest : List ℕ) : Type 0 where
  pub chain : (all : List ℕ) → Reaches setting side fun all before from bytes → Reaches setting side fun all after to rest
  pub within : after + length rest ≤ before + length bytes

-- a text in which right lines lead to this point is refused
abbrev pub IsRefusedFrom : Setting → Side → FunTree → Progress → ℕ → List ℕ → StateFault → Type 0
IsRefusedFrom setting side fun progress before bytes why = (all : List ℕ) → Reaches setting side fun all before progress bytes → IsRefusedText setting side fun all why

-- the value in the line of a name, if the type of the name is known, and the suffix after the line
abbrev pub IsFittingValue : Widths → Option Ty → Name → List ℕ → Option (Val × Bor (List ℕ)) → Type 0
IsFittingValue widths ty name bytes (Some found) = Fits widths ty (Some (value_of found.0)) × (bytes ≡ name_line name (value_of found.0) ++ found.1.now)
IsFittingValue widths ty name bytes None = (value : Value) (rest : List ℕ) → Fits widths ty (Some value) → ¬ (bytes ≡ name_line name value ++ rest)
