-- The answers of runs can be printed.
use Rattle.std.proofs.Common.{◌≡◌, subst, ℕ, Bool, true, false, List, Option, Some, slice_get}
use Rattle.std.specs.List.{AllByRecursion-prop}
use Rattle.std.proofs.Math.Logic.{∥∥₁_elim}
use Rattle.std.proofs.Props.{props}
use Rattle.tw_syntax.specs.Programs.{FunTree}
use Rattle.tw_types.specs.Types.{Target}
use Rattle.tw_resolve.specs.Setting.{Setting}
use Rattle.tw_state.specs.States.{Cell, Free, Live, State}
use Rattle.tw_state.specs.EntryEncoding.{targets_in}
use Rattle.tw_state.specs.FromCode.{ListedState, names_at, live_at, state_at}
use Rattle.tw_state.specs.Results.{IsTypedAt}
use Rattle.tw_state.specs.StateText.{HasTarget, IsPrintable, IsPrintableOn}
use Rattle.tw_state.proofs.Basics.{same_some}
use Rattle.tw_state.proofs.Printable.{typed_printable}
use Rattle.tw_interp.specs.Runs.{HasAnswer, IsAnswer, IsAnswerOf, first_side, last_side}

HasTarget-prop : (targets : List Target) (cell : Cell) → IsProp (HasTarget targets cell)
HasTarget-prop targets (Free next) = hlevel props
HasTarget-prop targets (Live target value) = hlevel props

module _ (setting : Setting) (fun : FunTree) (bound : Option ℕ) where
  -- the state with which a run ends is typed at its last side
  ends_typed : (back : Bool) (x y : State) → HasAnswer setting fun bound back x y → IsTypedAt setting fun (live_at (last_side back) fun) y
  ends_typed false x y has = has.typed_at_end
  ends_typed true x y has = has.typed_at_start

  answer_printable : (back : Bool) (given answer : ListedState) → IsAnswer setting fun bound back given answer → IsPrintable (targets_in setting) (names_at (last_side back) fun) answer
  answer_printable back given answer a =
      typed_printable setting (last_side back) fun answer (record { counted = a.counted; typed = ends_typed back (state_at (first_side back) fun given) (state_at (last_side back) fun answer) a.has })

pub answer_of-printable : (setting : Setting) (number : ℕ) (bound : Option ℕ) (back : Bool) (given answer : ListedState) → ∥ IsAnswerOf setting number bound back given answer ∥₁ → IsPrintableOn setting number (last_side back) answer
answer_of-printable setting number bound back given answer is fun there = record {
  each_cell = ∥∥₁_elim is (AllByRecursion-prop _ (HasTarget-prop (targets_in setting)) answer.cells) (λ a. (printable a).each_cell);
  counted = ∥∥₁_elim is (hlevel props) (λ a. (printable a).counted);
}
  where
    printable : IsAnswerOf setting number bound back given answer → IsPrintable (targets_in setting) (names_at (last_side back) fun) answer
    printable a = answer_printable setting fun bound back given answer (subst (λ (f : FunTree). IsAnswer setting f bound back given answer) (same_some a.1 there) a.2)
