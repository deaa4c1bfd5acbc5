-- Typed states, the result of an entry on a state, and entries that are stuck.
use Rattle.std.specs.Prelude.{◌≡◌, ◌≢◌, ◌≤◌, ℕ, Bool, true, false, Option, Some, None, length}
use Rattle.std.specs.List.{AllByRecursion}
use Rattle.tw_text.specs.declared.place.Pos.{Pos}
use Rattle.tw_text.specs.Places.{first_place}
use Rattle.tw_syntax.specs.Programs.{FunTree}
use Rattle.tw_syntax.specs.Statements.{StmtTree}
use Rattle.tw_types.specs.Types.{Widths, Ty, Pointer, block_count}
use Rattle.tw_types.specs.Values.{Value, HasType}
use Rattle.tw_resolve.specs.Expressions.{Types}
use Rattle.tw_resolve.specs.Setting.{Setting, pointee}
use Rattle.tw_check.specs.Liveness.{live_at_start, live_at_end}
use Rattle.tw_check.specs.Names.{Names}
use Rattle.tw_check.specs.Reverse.{reverse_of}
use Rattle.tw_state.specs.States.{Name, Cell, Free, Live, State, IsWellFormed}
use Rattle.tw_state.specs.Evaluation.{zero_of}
use Rattle.tw_state.specs.Steps.{fun_types, activation_of, live_names, Adds, running_bound}
use Rattle.tw_state.specs.Semantics.{Runs}
use Rattle.tw_state.specs.Stuck.{Reason, Unmet, Sticks}

-- the value of a name, if it has one, has the type of the name
abbrev pub Fits : Widths → Option Ty → Option Value → Type 0
Fits widths ty None = Unit {0}
Fits widths (Some ty) (Some value) = HasType widths value ty
Fits widths None (Some value) = ⊥

-- a free cell links to a block or to null; a live cell has the number of a target and a value of the type that this target denotes
abbrev pub IsCell : Setting → Cell → Type 0
IsCell setting (Free next) = next ≤ block_count setting.widths
IsCell setting (Live target value) = (ty : Ty) × (pointee setting (Some (Pointer target)) ≡ Some ty) × HasType setting.widths value ty

-- the state is typed in a program, for variables of these types: there is a cell for each block, and each value has its type
pub record IsTypedIn (setting : Setting) (types : Types) (state : State) : Type 0 where
  pub head_within : state.head ≤ block_count setting.widths
  pub all_blocks : length state.cells ≡ block_count setting.widths
  pub each_cell : AllByRecursion (IsCell setting) state.cells
  pub names : (name : Name) → Fits setting.widths (types name) (state.store name)

-- the state is typed in a function, and exactly these names have values
pub record IsTypedAt (setting : Setting) (fun : FunTree) (live : Names) (state : State) : Type 0 where
  pub typed : IsTypedIn setting (fun_types setting fun) state
  pub names : live_names state.store ≡ live

-- the entry takes the old state to the new one. With the bound 0 its result is the zero of its type
pub data RunsEntry (setting : Setting) (fun : FunTree) (bound : Option ℕ) : State → State → Type 0 where
  RunsBody : {old new : State} (n : ℕ)
      → running_bound bound ≡ Some n → Runs setting (activation_of setting fun n) fun.body old new
      → RunsEntry setting fun bound old new
  RunsNoBody : {old new : State} (result : Value)
      → running_bound bound ≡ None → zero_of setting fun.result ≡ Some result → Adds fun.returned.text result old new
      → RunsEntry setting fun bound old new

-- the second state is the result of an entry on the first, a well-formed state that has values for the parameters; the result has them
-- for the parameters and the returned name
pub record HasResult (setting : Setting) (fun : FunTree) (bound : Option ℕ) (start end : State) : Type 0 where
  pub well_formed : IsWellFormed start
  pub typed_at_start : IsTypedAt setting fun (live_at_start fun) start
  pub runs : RunsEntry setting fun bound start end
  pub typed_at_end : IsTypedAt setting fun (live_at_end fun) end

-- a statement, or its reverse if it is run backward
abbrev pub directed : Bool → StmtTree → StmtTree
directed true s = s
directed false s = reverse_of s

-- from this state the entry, run forward or backward, is stuck for this reason at this place. With the bound 0 it is stuck backward at
-- the first place of the source if the result is not zero
pub data SticksEntry (setting : Setting) (fun : FunTree) (bound : Option ℕ) : Bool → State → Reason → Pos → Type 0 where
  SticksBody : {forward : Bool} {old : State} {reason : Reason} {place : Pos} (n : ℕ)
      → running_bound bound ≡ Some n → Sticks setting (activation_of setting fun n) (directed forward fun.body) old reason place
      → SticksEntry setting fun bound forward old reason place
  SticksNoBody : {old bare : State} (held result : Value)
      → running_bound bound ≡ None → zero_of setting fun.result ≡ Some result → Adds fun.returned.text held bare old → held ≢ result
      → SticksEntry setting fun bound false old Unmet first_place
