-- Answers to single statements that follow the semantics.
use Rattle.std.proofs.Common.{◌≡◌, ◌≢◌, ◌∙◌, ap, sym, subst, refl, true, false, Option, Some, None, option_map, Ok, Err}
use Rattle.tw_text.specs.declared.place.Pos.{Pos}
use Rattle.tw_syntax.specs.Names.{NameTree, PathTree}
use Rattle.tw_syntax.specs.Statements.{LetStmt, SwapStmt}
use Rattle.tw_syntax.specs.Terms.{ExprTree, ExprRhs}
use Rattle.tw_types.specs.declared.values.Val.{Val}
use Rattle.tw_types.specs.FromCode.{value_of}
use Rattle.tw_types.specs.Values.{Value}
use Rattle.tw_resolve.specs.Setting.{Setting}
use Rattle.tw_check.specs.Right.{overlap}
use Rattle.tw_state.specs.Evaluation.{expr_value}
use Rattle.tw_state.specs.Parts.{value_at, with_value_at}
use Rattle.tw_state.specs.Semantics.{Runs, RunsLet, RunsUnlet, RunsSwap}
use Rattle.tw_state.specs.States.{State, Store, with_value, without}
use Rattle.tw_state.specs.Steps.{Activation, Adds, Swaps}
use Rattle.tw_state.specs.Stuck.{Reason, Unmet, Sticks, StuckUnlet}
use Rattle.tw_state.proofs.Basics.{not_both, some_value}
use Rattle.tw_state.proofs.Deciding.{adds_without}
use Rattle.tw_state.proofs.Parts.{value_other, value_put, value_twice, values_swap}
use Rattle.tw_state.proofs.SingleSteps.{added, adds_bare, adds_value}
use Rattle.tw_interp.specs.declared.fault.Reason.TheVariants as reasons
use Rattle.tw_interp.specs.declared.fault.RunFault.{RunFault}
use Rattle.tw_interp.specs.declared.fault.RunFault.TheVariants as fault
use Rattle.tw_interp.specs.Answers.{Finds}
use Rattle.tw_interp.specs.Following.{Follows, Goes, Stops, reason_of}

-- a fault that tells this reason and place
pub stops_with : (A : Type 0) (why : Reason) (at : Pos) (e : RunFault) (code : _) → e ≡ fault.Stuck code at → reason_of code ≡ why → Stops {A = A} why at (Err e)
stops_with A why at e code is same = subst (λ f. Stops {A = A} why at (Err f)) (sym is) (same, refl)

module _ (setting : Setting) (act : Activation) where
  -- an un-assigned name had this value
  pub taken_adds : (target : NameTree) (held : Value) (old bare : State) → Some held ≡ old.store target.text → bare ≡ record old { store = without old.store target.text } → Adds target.text held bare old
  taken_adds target held old bare is taken = subst (λ b. Adds target.text held b old) (sym taken) (adds_without old target.text held (sym is))

  no_stuck_let : {at : Pos} {target : NameTree} {expr : ExprTree} {old : State} {why : Reason} {place : Pos} {P : Type 0} → Sticks setting act (LetStmt at true target (ExprRhs expr)) old why place → P
  no_stuck_let stuck = elim stuck [ ]

  pub let_undefined : (at : Pos) (target : NameTree) (expr : ExprTree) (old new : State) (e : RunFault) (found : Option Val) → found ≡ None → Finds (expr_value setting old.store expr) (option_map value_of found)
      → Follows {A = Unit {0}} setting act (LetStmt at true target (ExprRhs expr)) old new (Err e)
  let_undefined at target expr old new e found none finds = record { ran = ran; stuck = λ why place stuck. no_stuck_let stuck }
    where
      ran : (end : State) → Runs setting act (LetStmt at true target (ExprRhs expr)) old end → Goes {A = Unit {0}} (new ≡ end) (Err e)
      ran end (RunsLet value is adds) = not_both (ap (option_map value_of) none) (finds value is)

  pub let_assigned : (at : Pos) (target : NameTree) (expr : ExprTree) (old new : State) (value : Value) → Finds (expr_value setting old.store expr) (Some value)
      → new ≡ record old { store = with_value old.store target.text value } → Follows {A = Unit {0}} setting act (LetStmt at true target (ExprRhs expr)) old new (Ok tt)
  let_assigned at target expr old new value finds after = record { ran = ran; stuck = λ why place stuck. no_stuck_let stuck }
    where
      ran : (end : State) → Runs setting act (LetStmt at true target (ExprRhs expr)) old end → Goes {A = Unit {0}} (new ≡ end) (Ok tt)
      ran end (RunsLet v is adds) = after ∙ ap (λ (w : Value). record old { store = with_value old.store target.text w }) (some_value (finds v is)) ∙ sym adds.after

  pub unlet_unheld : (at : Pos) (target : NameTree) (expr : ExprTree) (old new : State) (e : RunFault) → None ≡ old.store target.text → Follows {A = Unit {0}} setting act (LetStmt at false target (ExprRhs expr)) old new (Err e)
  unlet_unheld at target expr old new e none = record { ran = ran; stuck = stuck }
    where
      ran : (end : State) → Runs setting act (LetStmt at false target (ExprRhs expr)) old end → Goes {A = Unit {0}} (new ≡ end) (Err e)
      ran end (RunsUnlet value is adds) = not_both (sym none) (added adds)

      stuck : (why : Reason) (place : Pos) → Sticks setting act (LetStmt at false target (ExprRhs expr)) old why place → Stops {A = Unit {0}} why place (Err e)
      stuck why place (StuckUnlet held value adds is differ) = not_both (sym none) (added adds)

  pub unlet_undefined : (at : Pos) (target : NameTree) (expr : ExprTree) (held : Value) (old bare new : State) (e : RunFault) (found : Option Val) → Adds target.text held bare old → found ≡ None
      → Finds (expr_value setting bare.store expr) (option_map value_of found) → Follows {A = Unit {0}} setting act (LetStmt at false target (ExprRhs expr)) old new (Err e)
  unlet_undefined at target expr held old bare new e found mine none finds = record { ran = ran; stuck = stuck }
    where
      never : {P : Type 0} {end : State} (value : Value) → expr_value setting end.store expr ≡ Some value → end ≡ bare → P
      never value is same = not_both (ap (option_map value_of) none) (finds value (ap (λ (s : State). expr_value setting s.store expr) (sym same) ∙ is))

      ran : (end : State) → Runs setting act (LetStmt at false target (ExprRhs expr)) old end → Goes {A = Unit {0}} (new ≡ end) (Err e)
      ran end (RunsUnlet value is adds) = never value is (adds_bare adds mine)

      stuck : (why : Reason) (place : Pos) → Sticks setting act (LetStmt at false target (ExprRhs expr)) old why place → Stops {A = Unit {0}} why place (Err e)
      stuck why place (StuckUnlet other value adds is differ) = never value is (adds_bare adds mine)

  module _ (at : Pos) (target : NameTree) (expr : ExprTree) (held value : Value) (old bare : State) (mine : Adds target.text held bare old)
      (finds : Finds (expr_value setting bare.store expr) (Some value)) where
    is_found : {end : State} (v : Value) → expr_value setting end.store expr ≡ Some v → end ≡ bare → value ≡ v
    is_found v is same = some_value (finds v (ap (λ (s : State). expr_value setting s.store expr) (sym same) ∙ is))

    pub unlet_differs : (new : State) (e : RunFault) → held ≢ value → e ≡ fault.Stuck reasons.Unmet at → Follows {A = Unit {0}} setting act (LetStmt at false target (ExprRhs expr)) old new (Err e)
    unlet_differs new e differ told = record { ran = ran; stuck = stuck }
      where
        ran : (end : State) → Runs setting act (LetStmt at false target (ExprRhs expr)) old end → Goes {A = Unit {0}} (new ≡ end) (Err e)
        ran end (RunsUnlet v is adds) = absurd (differ (adds_value mine adds ∙ sym (is_found v is (adds_bare adds mine))))

        stuck : (why : Reason) (place : Pos) → Sticks setting act (LetStmt at false target (ExprRhs expr)) old why place → Stops {A = Unit {0}} why place (Err e)
        stuck why place (StuckUnlet other v adds is differ2) = stops_with (Unit {0}) Unmet at e reasons.Unmet told refl

    pub unlet_equal : held ≡ value → Follows {A = Unit {0}} setting act (LetStmt at false target (ExprRhs expr)) old bare (Ok tt)
    unlet_equal same = record { ran = ran; stuck = stuck }
      where
        ran : (end : State) → Runs setting act (LetStmt at false target (ExprRhs expr)) old end → Goes {A = Unit {0}} (bare ≡ end) (Ok tt)
        ran end (RunsUnlet v is adds) = adds_bare mine adds

        stuck : (why : Reason) (place : Pos) → Sticks setting act (LetStmt at false target (ExprRhs expr)) old why place → Stops {A = Unit {0}} why place (Ok tt)
        stuck why place (StuckUnlet other v adds is differ) = differ (adds_value adds mine ∙ same ∙ is_found v is (adds_bare adds mine))

  no_stuck_swap : {at : Pos} {left right : PathTree} {old : State} {why : Reason} {place : Pos} {P : Type 0} → Sticks setting act (SwapStmt at left right) old why place → P
  no_stuck_swap stuck = elim stuck [ ]

  module _ (at : Pos) (left right : PathTree) (x u : Value) (old : State) (once : Store) (at_left : Some x ≡ value_at old.store left) (first : once ≡ with_value_at old.store left u) where
    right_there : {end : State} (swaps : Swaps left right old end) → value_at once right ≡ Some swaps.y
    right_there swaps = ap (λ s. value_at s right) first ∙ value_other old.store left right swaps.x swaps.y u swaps.at_left swaps.at_right swaps.apart

    pub swap_undefined : (new : State) (e : RunFault) → None ≡ value_at once right → Follows {A = Unit {0}} setting act (SwapStmt at left right) old new (Err e)
    swap_undefined new e none = record { ran = ran; stuck = λ why place stuck. no_stuck_swap stuck }
      where
        ran : (end : State) → Runs setting act (SwapStmt at left right) old end → Goes {A = Unit {0}} (new ≡ end) (Err e)
        ran end (RunsSwap swaps) = not_both (sym none) (right_there swaps)

    pub swapped : (y : Value) (twice thrice : Store) → Some y ≡ value_at once right → twice ≡ with_value_at once right x → thrice ≡ with_value_at twice left y
        → Follows {A = Unit {0}} setting act (SwapStmt at left right) old (record old { store = thrice }) (Ok tt)
    swapped y twice thrice at_right second third = record { ran = ran; stuck = λ why place stuck. no_stuck_swap stuck }
      where
        stores : overlap left right ≡ false → thrice ≡ with_value_at (with_value_at old.store left y) right x
        stores swaps_apart =
            third
            ∙ ap (λ s. with_value_at s left y) second
            ∙ sym (values_swap once left right u y y x (ap (λ s. value_at s left) first ∙ value_put old.store left x u (sym at_left)) (sym at_right) swaps_apart)
            ∙ ap (λ s. with_value_at (with_value_at s left y) right x) first
            ∙ ap (λ s. with_value_at s right x) (value_twice old.store left x u y (sym at_left))

        ran : (end : State) → Runs setting act (SwapStmt at left right) old end → Goes {A = Unit {0}} (record old { store = thrice } ≡ end) (Ok tt)
        ran end (RunsSwap swaps) =
            ap (λ (s : Store). record old { store = s }) (stores swaps.apart)
            ∙ ap (λ v. record old { store = with_value_at (with_value_at old.store left v) right x }) (some_value (at_right ∙ right_there swaps))
            ∙ ap (λ v. record old { store = with_value_at (with_value_at old.store left swaps.y) right v }) (some_value (at_left ∙ swaps.at_left))
            ∙ sym swaps.after
