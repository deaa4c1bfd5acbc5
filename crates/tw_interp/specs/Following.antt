-- The answer of a run, in terms of the semantics.
use Rattle.std.specs.Prelude.{◌≡◌, ◌≢◌, ℕ, suc, Bool, true, false, slice_get, Option, Some, None, is_some, Result, Ok, Err, OnOk, IfErr}
use Rattle.std.specs.Str.{bytes_eq}
use Rattle.tw_text.specs.declared.place.Pos.{Pos}
use Rattle.tw_syntax.specs.Names.{NameTree}
use Rattle.tw_syntax.specs.Programs.{FunTree}
use Rattle.tw_syntax.specs.Statements.{StmtTree}
use Rattle.tw_syntax.specs.Types.{WrittenTree}
use Rattle.tw_types.specs.Types.{Ty}
use Rattle.tw_types.specs.Values.{Value, zero_value}
use Rattle.tw_resolve.specs.Declarations.{target_number}
use Rattle.tw_resolve.specs.Expressions.{Types}
use Rattle.tw_resolve.specs.Setting.{Setting}
use Rattle.tw_state.specs.Evaluation.{zero_of, zero_of_target}
use Rattle.tw_state.specs.Results.{directed}
use Rattle.tw_state.specs.Semantics.{Runs}
use Rattle.tw_state.specs.States.{Name, State, Live, cell_at}
use Rattle.tw_state.specs.Steps.{Activation, Adds, Takes, IsPadded, Pads}
use Rattle.tw_state.specs.Stuck.{Reason, Unmet, Wild, Dirty, Pad, Sticks, IsNotLive, LacksPad}
use Rattle.tw_interp.specs.declared.fault.Reason.{Reason as ReasonOfCode}
use Rattle.tw_interp.specs.declared.fault.Reason.TheVariants as reason
use Rattle.tw_interp.specs.declared.fault.RunFault.{RunFault}
use Rattle.tw_interp.specs.declared.fault.RunFault.TheVariants as fault
use Rattle.tw_state.specs.Depth.{IsWithin}
use Rattle.tw_interp.specs.Frames.{with_found}

-- the reason that a reason of the code is
abbrev pub reason_of : ReasonOfCode → Reason
reason_of reason.Unmet = Unmet
reason_of reason.Wild = Wild
reason_of reason.Dirty = Dirty
reason_of reason.Pad = Pad

-- the answer is not that a statement is stuck, and if it is Ok, this holds
abbrev pub Goes : {A : Type 0} → Type 0 → Result A RunFault → Type 0
Goes P (Ok x) = P
Goes P (Err (fault.Stuck why at)) = ⊥
Goes P (Err fault.Memory) = Unit {0}

-- the answer is that a statement is stuck for this reason at this place, or that memory ran out
abbrev pub Stops : {A : Type 0} → Reason → Pos → Result A RunFault → Type 0
Stops why at (Ok x) = ⊥
Stops why at (Err (fault.Stuck found place)) = (reason_of found ≡ why) × (place ≡ at)
Stops why at (Err fault.Memory) = Unit {0}

-- the answer to a statement in a state is what the semantics says: the new state if the statement runs, and the reason and the place if
-- it is stuck
pub record Follows {A : Type 0} (setting : Setting) (act : Activation) (s : StmtTree) (old new : State) (result : Result A RunFault) : Type 0 where
  pub ran : (end : State) → Runs setting act s old end → Goes (new ≡ end) result
  pub stuck : (why : Reason) (at : Pos) → Sticks setting act s old why at → Stops why at result

-- the answer where a block that is not null is freed, after the name of its address was removed: it is the first free one if it was live
-- with the zero of its target
pub record Frees {A : Type 0} (setting : Setting) (to : WrittenTree) (at : Pos) (block : ℕ) (old new : State) (result : Result A RunFault) : Type 0 where
  pub ran : (freed : State) → Takes setting to block freed old → Goes (new ≡ freed) result
  pub wild : (target : ℕ) → target_number setting.scope.targets to ≡ Some target → IsNotLive old block target → Stops Wild at result
  pub dirty : (target : ℕ) (value cleared : Value) → target_number setting.scope.targets to ≡ Some target → cell_at old.cells block ≡ Some (Live target value)
      → zero_of_target setting target ≡ Some cleared → value ≢ cleared → Stops Dirty at result

-- this holds of statements that are run forward, or backward, if their depth is at most this number
abbrev pub FollowsWithin : {A : Type 0} → Setting → Activation → ℕ → Bool → StmtTree → State → State → Result A RunFault → Type 0
FollowsWithin setting act depth forward s old new result = IsWithin setting depth act.bound s → Follows setting act (directed forward s) old new result

-- this holds of the statements of a block, which are one less deep than the block
abbrev pub FollowsInside : {A : Type 0} → Setting → Activation → ℕ → Bool → StmtTree → State → State → Result A RunFault → Type 0
FollowsInside setting act depth forward s old new result = (inner : ℕ) → depth ≡ suc inner → FollowsWithin setting act inner forward s old new result

-- the answer to the padding of one name, which has this value or none in the end. Each other name keeps its value, and a fault is that
-- padding is stuck, or that memory ran out
pub record PadsName {A : Type 0} (ty : Option Ty) (at : Pos) (name : Name) (is_live : Bool) (old new : State) (result : Result A RunFault) : Type 0 where
  pub ran : (end : Option Value) → is_some end ≡ is_live → IsPadded ty (old.store name) end → Goes (new ≡ record old { store = with_found old.store name end }) result
  pub lacks : (t : Ty) (value : Value) → is_live ≡ false → ty ≡ Some t → old.store name ≡ Some value → value ≢ zero_value t → Stops Pad at result
  pub others : OnOk result ((other : Name) → bytes_eq name other ≡ false → new.store other ≡ old.store other)
  pub faults : IfErr result (λ e. Stops {A = A} Pad at (Err e))

-- the answer to the padding of the variable of a number, which has this name; nothing changes if there is none
abbrev pub PadsSlot : {A : Type 0} → Types → Pos → Option Name → Bool → State → State → Result A RunFault → Type 0
PadsSlot types at None is_live old new result = Goes (new ≡ old) result
PadsSlot types at (Some name) is_live old new result = PadsName (types name) at name is_live old new result

-- the answer to the padding of the names of statements
pub record PadsAll {A : Type 0} (types : Types) (s : StmtTree) (at : Pos) (old new : State) (result : Result A RunFault) : Type 0 where
  pub ran : (end : State) → Pads types s old end → Goes (new ≡ end) result
  pub lacks : LacksPad types s old → Stops Pad at result

-- the answer to a call with the bound 0 of the function of this number: the target gets, or has and loses, the zero of its result
pub record RunsWithoutBody {A : Type 0} (setting : Setting) (at : Pos) (assigns : Bool) (target : NameTree) (number : ℕ) (old new : State) (result : Result A RunFault) : Type 0 where
  pub assigned : (fun : FunTree) (value : Value) (end : State) → assigns ≡ true → slice_get setting.funs number ≡ Some fun → zero_of setting fun.result ≡ Some value → Adds target.text value old end → Goes (new ≡ end) result
  pub removed : (fun : FunTree) (value : Value) (end : State) → assigns ≡ false → slice_get setting.funs number ≡ Some fun → zero_of setting fun.result ≡ Some value → Adds target.text value end old → Goes (new ≡ end) result
  pub unmet : (fun : FunTree) (held value : Value) (bare : State) → assigns ≡ false → slice_get setting.funs number ≡ Some fun → zero_of setting fun.result ≡ Some value → Adds target.text held bare old → held ≢ value
      → Stops Unmet at result
