-- Texts of states, and the lines that may follow the lines so far in one.
use Rattle.std.specs.Prelude.{◌≡◌, ℕ, suc, ◌+◌, ◌<◌, ◌≤◌, List, [], ◌∷◌, ◌++◌, length, codes, decimal, slice_get, Some}
use Rattle.std.specs.List.{AllByRecursion}
use Rattle.tw_text.specs.declared.limits.TheConstants.{STATES_LIMIT}
use Rattle.tw_syntax.specs.Programs.{FunTree}
use Rattle.tw_types.specs.Types.{block_count}
use Rattle.tw_types.specs.Values.{Value}
use Rattle.tw_resolve.specs.Setting.{Setting}
use Rattle.tw_state.specs.declared.state.Side.{Side}
use Rattle.tw_state.specs.States.{Name, Cell, IsWellFormed}
use Rattle.tw_state.specs.Results.{IsCell, Fits}
use Rattle.tw_state.specs.Steps.{fun_types}
use Rattle.tw_state.specs.FromCode.{ListedState, names_at, state_at}
use Rattle.tw_state.specs.EntryEncoding.{targets_in}
use Rattle.tw_state.specs.TypedLists.{IsTypedOn}
use Rattle.tw_state.specs.StateText.{head_line, cell_line, name_line, state_text}

-- the line between two states
abbrev pub separator : List ℕ
separator = codes "--\n"

-- the texts of states that follow another one, each after a separator
abbrev pub following_text : Setting → Side → FunTree → List ListedState → List ℕ
following_text setting side fun [] = []
following_text setting side fun (state ∷ states) = separator ++ (state_text setting side fun state ++ following_text setting side fun states)

-- the text of states, with a separator between each and the next one
abbrev pub states_text : Setting → Side → FunTree → List ListedState → List ℕ
states_text setting side fun [] = []
states_text setting side fun (state ∷ states) = state_text setting side fun state ++ following_text setting side fun states

-- a listed state is typed on a side of a function, and its free list is the chain of its free cells
pub record IsState (setting : Setting) (side : Side) (fun : FunTree) (listed : ListedState) : Type 0 where
  pub typed : IsTypedOn setting side fun listed
  pub well_formed : IsWellFormed (state_at side fun listed)

-- the bytes are the text of these states, whose number is within its limit
pub record AreStatesOf (setting : Setting) (side : Side) (fun : FunTree) (bytes : List ℕ) (states : List ListedState) : Type 0 where
  pub spelled : bytes ≡ states_text setting side fun states
  pub each : AllByRecursion (IsState setting side fun) states
  pub few : length states ≤ STATES_LIMIT

-- How far a text has come: a state begins, after whole states and a separator or at the very start; or a state has these cells and
-- values so far, after whole states.
pub data Progress : Type 0 where
  AtHead : (states : List ListedState) → Progress
  InState : (states : List ListedState) (state : ListedState) → Progress

-- a state with its head alone
abbrev pub begun : ℕ → ListedState
begun head = record { head = head; cells = []; values = [] }

-- a state has a cell for each block, and a value for each name
pub record IsWhole (setting : Setting) (side : Side) (fun : FunTree) (state : ListedState) : Type 0 where
  pub all_blocks : length state.cells ≡ block_count setting.widths
  pub all_names : length state.values ≡ length (names_at side fun)

-- the text is a right line at this point, and `next` is the point after it
pub data IsLine (setting : Setting) (side : Side) (fun : FunTree) : Progress → List ℕ → Progress → Type 0 where
  -- the head is a block, or 0
  HeadLine : (states : List ListedState) (head : ℕ) → head ≤ block_count setting.widths
      → IsLine setting side fun (AtHead states) (head_line head) (InState states (begun head))
  -- the cell of the next block
  CellLine : (states : List ListedState) (state : ListedState) (cell : Cell) → length state.cells < block_count setting.widths → IsCell setting cell
      → IsLine setting side fun (InState states state) (cell_line (targets_in setting) (suc (length state.cells)) cell)
      (InState states (record state { cells = state.cells ++ cell ∷ [] }))
  -- after the last cell, the next name with a value of its type
  NameLine : (states : List ListedState) (state : ListedState) (name : Name) (value : Value) → length state.cells ≡ block_count setting.widths
      → slice_get (names_at side fun) (length state.values) ≡ Some name → Fits setting.widths (fun_types setting fun name) (Some value)
      → IsLine setting side fun (InState states state) (name_line name value) (InState states (record state { values = state.values ++ value ∷ [] }))
  -- after the last line of a well-formed state, a separator; a further state follows, so there may be no more states than the limit
  Separator : (states : List ListedState) (state : ListedState) → IsWhole setting side fun state → IsWellFormed (state_at side fun state)
      → suc (length states) < STATES_LIMIT → IsLine setting side fun (InState states state) separator (AtHead (states ++ state ∷ []))

-- the bytes at this point begin with a right line; `next` is the point after it, and this is the rest
pub record StepsTo (setting : Setting) (side : Side) (fun : FunTree) (progress : Progress) (bytes : List ℕ) (next : Progress) (rest : List ℕ) : Type 0 where
  pub text : List ℕ
  pub parts : bytes ≡ text ++ rest
  pub right : IsLine setting side fun progress text next

-- the bytes are this number of right lines, which lead to this point, then this rest
pub data Reaches (setting : Setting) (side : Side) (fun : FunTree) (bytes : List ℕ) : ℕ → Progress → List ℕ → Type 0 where
  Start : Reaches setting side fun bytes 0 (AtHead []) bytes
  Line : (lines : ℕ) (at : Progress) (behind : List ℕ) (progress : Progress) (rest : List ℕ) → Reaches setting side fun bytes lines at behind
      → StepsTo setting side fun at behind progress rest → Reaches setting side fun bytes (lines + 1) progress rest
