-- Runs of statements in parts.
use Rattle.std.proofs.Common.{◌≡◌, ap, sym, subst, refl, ℕ, zero, suc, Bool, List, [], ◌∷◌, take, Result, Ok, Err, Some, slice_get}
use Rattle.std.proofs.lemmas.Option.{none-some}
use Rattle.std.proofs.Math.Logic.{◌⊎◌, inl, inr}
use Rattle.tw_text.specs.declared.place.Pos.{Pos}
use Rattle.tw_syntax.specs.Statements.{StmtTree, Nothing, Then}
use Rattle.tw_resolve.specs.Setting.{Setting}
use Rattle.tw_check.specs.Reverse.{reverse_of}
use Rattle.tw_state.specs.Results.{directed}
use Rattle.tw_state.specs.Semantics.{Runs, RunsNothing, RunsThen}
use Rattle.tw_state.specs.States.{State}
use Rattle.tw_state.specs.Steps.{Activation}
use Rattle.tw_state.specs.Stuck.{Reason, Sticks, StuckFirst, StuckRest}
use Rattle.tw_state.proofs.Basics.{some_value}
use Rattle.tw_interp.specs.declared.fault.RunFault.{RunFault}
use Rattle.tw_interp.specs.declared.numbered.Step.{Step}
use Rattle.tw_interp.specs.declared.fault.RunFault.TheVariants as fault
use Rattle.tw_state.specs.Depth.{IsWithin}
use Rattle.tw_interp.specs.NumberedTrees.{step_tree, steps_tree}
use Rattle.tw_interp.specs.Following.{Follows, Goes, Stops}

pub goes_never : (P Q : Type 0) (e : RunFault) → Goes {A = Unit {0}} P (Err e) → Goes {A = Unit {0}} Q (Err e)
goes_never P Q (fault.Stuck why at) never = absurd never
goes_never P Q fault.Memory never = tt

pub stops_memory : (P : Type 0) (why : Reason) (at : Pos) (e : RunFault) → Goes {A = Unit {0}} P (Err e) → Stops {A = Unit {0}} why at (Err e)
stops_memory P why at (fault.Stuck found place) never = absurd never
stops_memory P why at fault.Memory never = tt

module _ (setting : Setting) (act : Activation) where
  -- a statement runs as a first part and then the rest
  pub record Splits (whole first rest : StmtTree) : Type 0 where
    pub runs : {old end : State} → Runs setting act whole old end → (mid : State) × Runs setting act first old mid × Runs setting act rest mid end
    pub sticks : {old : State} {why : Reason} {at : Pos} → Sticks setting act whole old why at
        → Sticks setting act first old why at ⊎ ((mid : State) × Runs setting act first old mid × Sticks setting act rest mid why at)

  pub split_then : (first rest : StmtTree) → Splits (Then first rest) first rest
  split_then first rest = record { runs = runs; sticks = sticks }
    where
      runs : {old end : State} → Runs setting act (Then first rest) old end → (mid : State) × Runs setting act first old mid × Runs setting act rest mid end
      runs (RunsThen {between = between} a b) = (between, a, b)

      sticks : {old : State} {why : Reason} {at : Pos} → Sticks setting act (Then first rest) old why at
          → Sticks setting act first old why at ⊎ ((mid : State) × Runs setting act first old mid × Sticks setting act rest mid why at)
      sticks (StuckFirst a) = inl a
      sticks (StuckRest {between = between} a b) = inr (between, a, b)

  -- what is left of statements that were begun in one state leads on from another as they would
  pub record IsLeft (whole : StmtTree) (first : State) (rest : StmtTree) (now : State) : Type 0 where
    pub runs : (end : State) → Runs setting act whole first end → Runs setting act rest now end
    pub sticks : (why : Reason) (at : Pos) → Sticks setting act whole first why at → Sticks setting act rest now why at

  pub all_left : (whole : StmtTree) (first : State) → IsLeft whole first whole first
  all_left whole first = record { runs = λ end runs. runs; sticks = λ why at sticks. sticks }

  pub left_step : {whole s more left : StmtTree} {first now next : State} → Splits left s more → IsLeft whole first left now → Follows {A = Unit {0}} setting act s now next (Ok tt) → IsLeft whole first more next
  left_step {whole} {s} {more} {left} {first} {now} {next} splits is follows = record { runs = runs; sticks = sticks }
    where
      runs : (end : State) → Runs setting act whole first end → Runs setting act more next end
      runs end whole_runs =
          let parts = splits.runs (is.runs end whole_runs) in
          subst (λ (z : State). Runs setting act more z end) (sym (follows.ran parts.0 parts.1)) parts.2

      by : (why : Reason) (at : Pos) → Sticks setting act s now why at ⊎ ((mid : State) × Runs setting act s now mid × Sticks setting act more mid why at) → Sticks setting act more next why at
      by why at (inl first_stuck) = absurd (follows.stuck why at first_stuck)
      by why at (inr later) = subst (λ (z : State). Sticks setting act more z why at) (sym (follows.ran later.0 later.1)) later.2

      sticks : (why : Reason) (at : Pos) → Sticks setting act whole first why at → Sticks setting act more next why at
      sticks why at whole_sticks = by why at (splits.sticks (is.sticks why at whole_sticks))

  pub left_stopped : {whole s more left : StmtTree} {first now next : State} (e : RunFault) → Splits left s more → IsLeft whole first left now → Follows {A = Unit {0}} setting act s now next (Err e) → Follows {A = Unit {0}} setting act whole first next (Err e)
  left_stopped {whole} {s} {more} {left} {first} {now} {next} e splits is follows = record { ran = ran; stuck = stuck }
    where
      ran : (end : State) → Runs setting act whole first end → Goes {A = Unit {0}} (next ≡ end) (Err e)
      ran end whole_runs =
          let parts = splits.runs (is.runs end whole_runs) in
          goes_never (next ≡ parts.0) (next ≡ end) e (follows.ran parts.0 parts.1)

      by : (why : Reason) (at : Pos) → Sticks setting act s now why at ⊎ ((mid : State) × Runs setting act s now mid × Sticks setting act more mid why at) → Stops {A = Unit {0}} why at (Err e)
      by why at (inl first_stuck) = follows.stuck why at first_stuck
      by why at (inr later) = stops_memory (next ≡ later.0) why at e (follows.ran later.0 later.1)

      stuck : (why : Reason) (at : Pos) → Sticks setting act whole first why at → Stops {A = Unit {0}} why at (Err e)
      stuck why at whole_sticks = by why at (splits.sticks (is.sticks why at whole_sticks))

  -- the last part of statements decides
  pub left_last : {whole s : StmtTree} {first now next : State} (r : Result (Unit {0}) RunFault) → IsLeft whole first s now → Follows setting act s now next r → Follows setting act whole first next r
  left_last r is follows = record { ran = λ end runs. follows.ran end (is.runs end runs); stuck = λ why at sticks. follows.stuck why at (is.sticks why at sticks) }

  pub nothing_left : {whole : StmtTree} {first now : State} → IsLeft whole first Nothing now → Follows {A = Unit {0}} setting act whole first now (Ok tt)
  nothing_left {whole} {first} {now} is = record { ran = λ end runs. ends end (is.runs end runs); stuck = λ why at sticks. never why at (is.sticks why at sticks) }
    where
      ends : (end : State) → Runs setting act Nothing now end → now ≡ end
      ends end RunsNothing = refl

      never : (why : Reason) (at : Pos) → Sticks setting act Nothing now why at → ⊥
      never why at sticks = elim sticks [ ]

  -- statements before another one
  split_longer : {whole first rest : StmtTree} (last : StmtTree) → Splits whole first rest → Splits (Then whole last) first (Then rest last)
  split_longer {whole} {first} {rest} last splits = record { runs = runs; sticks = sticks }
    where
      runs : {old end : State} → Runs setting act (Then whole last) old end → (mid : State) × Runs setting act first old mid × Runs setting act (Then rest last) mid end
      runs (RunsThen a b) = let parts = splits.runs a in (parts.0, parts.1, RunsThen parts.2 b)

      by : {old : State} {why : Reason} {at : Pos} → Sticks setting act first old why at ⊎ ((mid : State) × Runs setting act first old mid × Sticks setting act rest mid why at)
          → Sticks setting act first old why at ⊎ ((mid : State) × Runs setting act first old mid × Sticks setting act (Then rest last) mid why at)
      by (inl now) = inl now
      by (inr later) = inr (later.0, later.1, StuckFirst later.2)

      sticks : {old : State} {why : Reason} {at : Pos} → Sticks setting act (Then whole last) old why at
          → Sticks setting act first old why at ⊎ ((mid : State) × Runs setting act first old mid × Sticks setting act (Then rest last) mid why at)
      sticks (StuckFirst a) = by (splits.sticks a)
      sticks (StuckRest a b) = let parts = splits.runs a in inr (parts.0, parts.1, StuckRest parts.2 b)

  -- the reverse of some statements runs the reverse of the last one first
  pub split_last : (steps : List Step) (i : ℕ) (x : Step) → slice_get steps i ≡ Some x → Splits (reverse_of (steps_tree (take (suc i) steps))) (reverse_of (step_tree x)) (reverse_of (steps_tree (take i steps)))
  split_last [] i x is = absurd (none-some x is)
  split_last (y ∷ ys) zero x is = record { runs = runs; sticks = sticks }
    where
      same : step_tree y ≡ step_tree x
      same = ap step_tree (some_value is)

      runs : {old end : State} → Runs setting act (Then Nothing (reverse_of (step_tree y))) old end → (mid : State) × Runs setting act (reverse_of (step_tree x)) old mid × Runs setting act Nothing mid end
      runs {old} {end} (RunsThen RunsNothing b) = (end, subst (λ s. Runs setting act (reverse_of s) old end) same b, RunsNothing)

      sticks : {old : State} {why : Reason} {at : Pos} → Sticks setting act (Then Nothing (reverse_of (step_tree y))) old why at
          → Sticks setting act (reverse_of (step_tree x)) old why at ⊎ ((mid : State) × Runs setting act (reverse_of (step_tree x)) old mid × Sticks setting act Nothing mid why at)
      sticks (StuckFirst a) = elim a [ ]
      sticks {old} {why} {at} (StuckRest RunsNothing b) = inl (subst (λ s. Sticks setting act (reverse_of s) old why at) same b)
  split_last (y ∷ ys) (suc j) x is = split_longer (reverse_of (step_tree y)) (split_last ys j x is)

-- the invariant of a loop over statements: what is left is within the depth, and leads on
pub record Loops (setting : Setting) (act : Activation) (depth : ℕ) (forward : Bool) (whole rest : StmtTree) (first now : State) : Type 0 where
  pub within : IsWithin setting depth act.bound rest
  pub left : IsLeft setting act (directed forward whole) first (directed forward rest) now
