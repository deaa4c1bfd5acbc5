-- A run has one answer, or is stuck for one reason at one place.
use Rattle.std.proofs.Common.{◌≡◌, ap, ℕ, Bool, true, false, Option}
use Rattle.tw_text.specs.declared.place.Pos.{Pos}
use Rattle.tw_syntax.specs.Programs.{FunTree}
use Rattle.tw_resolve.specs.Setting.{Setting}
use Rattle.tw_state.specs.FromCode.{ListedState, names_at, live_at, state_at}
use Rattle.tw_state.specs.Results.{IsTypedAt}
use Rattle.tw_state.specs.Listed.{HaveTypes}
use Rattle.tw_state.specs.States.{State}
use Rattle.tw_state.specs.Steps.{fun_types}
use Rattle.tw_state.specs.Stuck.{Reason}
use Rattle.tw_state.specs.TypedLists.{IsTypedOn}
use Rattle.tw_state.proofs.Calls.{AreDifferent}
use Rattle.tw_state.proofs.EntryFunctions.{names_different}
use Rattle.tw_state.proofs.EntryResults.{IsSound, IsFunction, one_result, one_start, entry_one_reason}
use Rattle.tw_state.proofs.Listed.{listed_values}
use Rattle.tw_state.proofs.Sticking.{AreSame}
use Rattle.tw_state.proofs.TypedStates.{fits_listed}
use Rattle.tw_interp.specs.Runs.{HasAnswer, IsAnswer, IsStuck, first_side, last_side}

same_listed : {head other : ℕ} {cells more : _} {values others : _} → head ≡ other → cells ≡ more → values ≡ others
    → ◌≡◌ {A = ListedState} (record { head = head; cells = cells; values = values }) (record { head = other; cells = more; values = others })
same_listed p q r = λ i. record { head = p i; cells = q i; values = r i }

module _ (setting : Setting) (is_sound : IsSound setting) (fun : FunTree) (is : IsFunction setting fun) (bound : Option ℕ) (back : Bool) (given : ListedState) where
  -- the state with which a run ends is typed at its last side
  ends_typed : (way : Bool) (x y : State) → HasAnswer setting fun bound way x y → IsTypedAt setting fun (live_at (last_side way) fun) y
  ends_typed false x y has = has.typed_at_end
  ends_typed true x y has = has.typed_at_start

  pub answer_typed : (answer : ListedState) → IsAnswer setting fun bound back given answer → IsTypedOn setting (last_side back) fun answer
  answer_typed answer a = record { counted = a.counted; typed = ends_typed back (state_at (first_side back) fun given) (state_at (last_side back) fun answer) a.has }

  values_typed : (answer : ListedState) → AreDifferent (names_at (last_side back) fun) → IsTypedOn setting (last_side back) fun answer
      → HaveTypes setting.widths (fun_types setting fun) (names_at (last_side back) fun) answer.values
  values_typed answer different typed = fits_listed setting.widths (fun_types setting fun) (names_at (last_side back) fun) answer.values typed.counted different typed.typed.typed.names

  one_end : (way : Bool) (x y z : State) → HasAnswer setting fun bound way x y → HasAnswer setting fun bound way x z → y ≡ z
  one_end false x y z a b = one_result setting is_sound fun is bound a b
  one_end true x y z a b = one_start setting is_sound fun is bound a b

  pub one_answer : (answer other : ListedState) → IsAnswer setting fun bound back given answer → IsAnswer setting fun bound back given other → answer ≡ other
  one_answer answer other a b =
      let side = last_side back in
      let different = names_different side fun (is_sound.fit is.name fun is.named).different in
      let same = one_end back (state_at (first_side back) fun given) (state_at side fun answer) (state_at side fun other) a.has b.has in
      same_listed (ap (λ (s : State). s.head) same) (ap (λ (s : State). s.cells) same)
      (listed_values setting.widths (fun_types setting fun) (names_at side fun) answer.values other.values different
      (values_typed answer different (answer_typed answer a)) (values_typed other different (answer_typed other b)) (ap (λ (s : State). s.store) same))

  pub one_stuck : (reason other : Reason) (at elsewhere : Pos) → IsStuck setting fun bound back given reason at → IsStuck setting fun bound back given other elsewhere → AreSame reason other at elsewhere
  one_stuck reason other at elsewhere a b = entry_one_reason setting is_sound fun is bound a.sticks b.sticks

  pub answer_or_stuck : (answer : ListedState) (reason : Reason) (at : Pos) → IsAnswer setting fun bound back given answer → IsStuck setting fun bound back given reason at → ⊥
  answer_or_stuck answer reason at a b = b.none (state_at (last_side back) fun answer) a.has
