-- Which bytes are no text of states, and how they are refused.
use Rattle.std.specs.Prelude.{◌≡◌, ℕ, suc, ◌+◌, List, [], ◌++◌, length, slice_get, Some}
use Rattle.tw_text.specs.declared.limits.TheConstants.{STATES_LIMIT}
use Rattle.tw_text.specs.declared.refusal.StateWhy.TheVariants as state_why
use Rattle.tw_syntax.specs.Programs.{FunTree}
use Rattle.tw_resolve.specs.Setting.{Setting}
use Rattle.tw_state.specs.declared.state.Side.{Side}
use Rattle.tw_state.specs.declared.state_fault.StateFault.{StateFault}
use Rattle.tw_state.specs.declared.state_fault.StateFault.TheVariants as fault
use Rattle.tw_state.specs.States.{IsWellFormed}
use Rattle.tw_state.specs.FromCode.{ListedState, state_at}
use Rattle.tw_state.specs.StateLines.{separator, Progress, AtHead, InState, IsWhole, StepsTo, Reaches, AreStatesOf}

-- a text may end here: no line came before, or a whole, well-formed state did
pub data MayEnd (setting : Setting) (side : Side) (fun : FunTree) : Progress → Type 0 where
  NoStates : MayEnd setting side fun (AtHead [])
  LastState : (states : List ListedState) (state : ListedState) → IsWhole setting side fun state → IsWellFormed (state_at side fun state)
      → MayEnd setting side fun (InState states state)

-- the lines of a whole state came, and it is not well-formed
pub data BreaksChain (setting : Setting) (side : Side) (fun : FunTree) : Progress → Type 0 where
  Broken : (states : List ListedState) (state : ListedState) → IsWhole setting side fun state → ¬ IsWellFormed (state_at side fun state)
      → BreaksChain setting side fun (InState states state)

-- as many states as the limit came, and a separator follows
pub data PassesLimit (setting : Setting) (side : Side) (fun : FunTree) (bytes : List ℕ) : Progress → Type 0 where
  OneMore : (states : List ListedState) (state : ListedState) (rest : List ℕ) → IsWhole setting side fun state → IsWellFormed (state_at side fun state)
      → suc (length states) ≡ STATES_LIMIT → bytes ≡ separator ++ rest → PassesLimit setting side fun bytes (InState states state)

-- the next line is wrong or missing: the text does not end here, the bytes do not begin with a right line, and no other rule is broken here
pub record IsWrong (setting : Setting) (side : Side) (fun : FunTree) (progress : Progress) (bytes : List ℕ) : Type 0 where
  pub no_end : bytes ≡ [] → ¬ MayEnd setting side fun progress
  pub no_line : (next : Progress) (rest : List ℕ) → ¬ StepsTo setting side fun progress bytes next rest
  pub no_chain : ¬ BreaksChain setting side fun progress
  pub no_limit : ¬ PassesLimit setting side fun bytes progress

-- Why bytes are no text of states on a side of a function. After right lines, the next line is wrong or missing; or the lines of a state
-- came that is not well-formed, which is reported at the first of them; or a separator follows as many states as the limit. Lines
-- count from 1.
pub data IsRefusedText (setting : Setting) (side : Side) (fun : FunTree) (bytes : List ℕ) (reason : StateFault) : Type 0 where
  WrongLine : (before : ℕ) (progress : Progress) (rest : List ℕ) → Reaches setting side fun bytes before progress rest
      → IsWrong setting side fun progress rest → reason ≡ fault.BadState (suc before) state_why.Syntax → IsRefusedText setting side fun bytes reason
  WrongChain : (at before : ℕ) (states : List ListedState) (state : ListedState) (rest : List ℕ)
      → Reaches setting side fun bytes before (InState states state) rest → BreaksChain setting side fun (InState states state)
      → at + length state.cells + length state.values ≡ before → reason ≡ fault.BadState at state_why.Chain → IsRefusedText setting side fun bytes reason
  TooMany : (before : ℕ) (progress : Progress) (rest : List ℕ) → Reaches setting side fun bytes before progress rest
      → PassesLimit setting side fun rest progress → reason ≡ fault.TooMany → IsRefusedText setting side fun bytes reason

-- the same, for the function of this number
abbrev pub AreStatesIn : Setting → ℕ → Side → List ℕ → List ListedState → Type 0
AreStatesIn setting number side bytes states = (fun : FunTree) × (slice_get setting.funs number ≡ Some fun) × AreStatesOf setting side fun bytes states

abbrev pub IsRefusedIn : Setting → ℕ → Side → List ℕ → StateFault → Type 0
IsRefusedIn setting number side bytes reason = (fun : FunTree) × (slice_get setting.funs number ≡ Some fun) × IsRefusedText setting side fun bytes reason
