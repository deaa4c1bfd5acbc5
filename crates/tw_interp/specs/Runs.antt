-- What the answer to the run of an entry says.
use Rattle.std.specs.Prelude.{◌≡◌, ℕ, Bool, true, false, not, Option, Some, Result, length, slice_get}
use Rattle.tw_text.specs.declared.place.Pos.{Pos}
use Rattle.tw_syntax.specs.Programs.{FunTree}
use Rattle.tw_resolve.specs.Setting.{Setting}
use Rattle.tw_state.specs.declared.state.Side.{Side}
use Rattle.tw_state.specs.declared.state.Side.TheVariants as side
use Rattle.tw_state.specs.FromCode.{ListedState, names_at, state_at}
use Rattle.tw_state.specs.Results.{RunsEntry, SticksEntry, HasResult}
use Rattle.tw_state.specs.States.{State}
use Rattle.tw_state.specs.Stuck.{Reason}
use Rattle.tw_interp.specs.declared.fault.RunFault.{RunFault}
use Rattle.tw_interp.specs.declared.fault.RunFault.TheVariants as fault
use Rattle.tw_state.specs.StateLines.{IsState}
use Rattle.tw_interp.specs.Following.{Goes, Stops, reason_of}

-- the side at which a run begins, and the one at which it ends: a run back begins at the end of the body
abbrev pub first_side : Bool → Side
first_side false = side.Start
first_side true = side.End

abbrev pub last_side : Bool → Side
last_side false = side.End
last_side true = side.Start

-- an entry takes the first state to the second, or a run back takes the second from the first
abbrev pub RunsTo : Setting → FunTree → Option ℕ → Bool → State → State → Type 0
RunsTo setting fun bound false first last = RunsEntry setting fun bound first last
RunsTo setting fun bound true first last = RunsEntry setting fun bound last first

-- the second state is the result of an entry on the first, or a run back finds the state whose result the first is
abbrev pub HasAnswer : Setting → FunTree → Option ℕ → Bool → State → State → Type 0
HasAnswer setting fun bound false first last = HasResult setting fun bound first last
HasAnswer setting fun bound true first last = HasResult setting fun bound last first

-- the answer to the run of a function is what the semantics says
pub record FollowsEntry {A : Type 0} (setting : Setting) (fun : FunTree) (bound : Option ℕ) (back : Bool) (old new : State) (result : Result A RunFault) : Type 0 where
  pub ran : (end : State) → RunsTo setting fun bound back old end → Goes (new ≡ end) result
  pub stuck : (why : Reason) (at : Pos) → SticksEntry setting fun bound (not back) old why at → Stops why at result

-- the second listed state is the answer to a run on the first
pub record IsAnswer (setting : Setting) (fun : FunTree) (bound : Option ℕ) (back : Bool) (given answer : ListedState) : Type 0 where
  pub counted : length answer.values ≡ length (names_at (last_side back) fun)
  pub has : HasAnswer setting fun bound back (state_at (first_side back) fun given) (state_at (last_side back) fun answer)

-- a run on the listed state is stuck for this reason at this place, and has no answer
pub record IsStuck (setting : Setting) (fun : FunTree) (bound : Option ℕ) (back : Bool) (given : ListedState) (why : Reason) (at : Pos) : Type 0 where
  pub sticks : SticksEntry setting fun bound (not back) (state_at (first_side back) fun given) why at
  pub none : (other : State) → HasAnswer setting fun bound back (state_at (first_side back) fun given) other → ⊥

-- what the fault of a run says
abbrev pub IsFault : Setting → FunTree → Option ℕ → Bool → ListedState → RunFault → Type 0
IsFault setting fun bound back given (fault.Stuck why at) = IsStuck setting fun bound back given (reason_of why) at
IsFault setting fun bound back given fault.Memory = Unit {0}

-- these hold of the function of this number
abbrev pub IsAnswerOf : Setting → ℕ → Option ℕ → Bool → ListedState → ListedState → Type 0
IsAnswerOf setting number bound back given answer = (fun : FunTree) × (slice_get setting.funs number ≡ Some fun) × IsAnswer setting fun bound back given answer

abbrev pub IsFaultOf : Setting → ℕ → Option ℕ → Bool → ListedState → RunFault → Type 0
IsFaultOf setting number bound back given fault = (fun : FunTree) × (slice_get setting.funs number ≡ Some fun) × IsFault setting fun bound back given fault

-- the listed state is one at which a run of the function of this number may begin
abbrev pub IsGivenTo : Setting → ℕ → Bool → ListedState → Type 0
IsGivenTo setting number back given = (fun : FunTree) × (slice_get setting.funs number ≡ Some fun) × IsState setting (first_side back) fun given
