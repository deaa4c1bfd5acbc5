-- Bytes have one answer: they are the text of one list of states, or they are refused for one reason.
use Rattle.std.proofs.Common.{◌≡◌, ◌∙◌, refl, sym, ap, subst, subst₂, ℕ, suc, ◌+◌, List, [], length, Some, slice_get, arith}
use Rattle.tw_text.specs.declared.refusal.StateWhy.TheVariants as state_why
use Rattle.tw_syntax.specs.Programs.{FunTree, program_tree}
use Rattle.tw_types.specs.Types.{AreInRange}
use Rattle.tw_resolve.specs.Resolved.{resolved_setting}
use Rattle.tw_resolve.specs.Setting.{Setting}
use Rattle.tw_check.specs.declared.checked.Checked.{Checked}
use Rattle.tw_state.specs.declared.state.Side.{Side}
use Rattle.tw_state.specs.declared.state_fault.StateFault.{StateFault}
use Rattle.tw_state.specs.declared.state_fault.StateFault.TheVariants as fault
use Rattle.tw_state.specs.FromCode.{ListedState}
use Rattle.tw_state.specs.StateLines.{AreStatesOf, Progress, AtHead, InState, begun, IsLine, CellLine, NameLine, Separator}
use Rattle.tw_state.specs.StateRefusals.{MayEnd, NoStates, LastState, BreaksChain, Broken, PassesLimit, OneMore, IsWrong, IsRefusedText, WrongLine, WrongChain, TooMany, AreStatesIn, IsRefusedIn}
use Rattle.tw_state.proofs.Basics.{same_some}
use Rattle.tw_state.proofs.StateTexts.{HasStateTexts, checked_texts}
use Rattle.tw_state.proofs.StateChains.{EndsAt, one_end, no_cell, no_name}
use Rattle.tw_state.proofs.StateLists.{one_list, states_end, no_step}
use Rattle.tw_state.proofs.TargetTexts.{HasPlainAliases}

module _ (setting : Setting) (side : Side) (fun : FunTree) (texts : HasStateTexts setting side fun) where
  abbrev Breaks : Progress → Type 0
  Breaks at = BreaksChain setting side fun at

  abbrev Passes : List ℕ → Progress → Type 0
  Passes rest at = PassesLimit setting side fun rest at

  -- no right line follows the lines of a state that is not well-formed
  broken_ends : (at next : Progress) (text : List ℕ) → Breaks at → ¬ IsLine setting side fun at text next
  broken_ends at next text (Broken states state whole broken) (CellLine states2 state2 cell more is) = no_cell setting side fun texts _ _ more whole.all_blocks
  broken_ends at next text (Broken states state whole broken) (NameLine states2 state2 name value all found typed) = no_name setting side fun texts state name whole.all_names found
  broken_ends at next text (Broken states state whole broken) (Separator states2 state2 whole2 formed few) = broken formed

  -- nor the limit of states
  limit_ends : (at next : Progress) (rest text : List ℕ) → Passes rest at → ¬ IsLine setting side fun at text next
  limit_ends at next rest text (OneMore states state behind whole formed all is) (CellLine states2 state2 cell more one) = no_cell setting side fun texts _ _ more whole.all_blocks
  limit_ends at next rest text (OneMore states state behind whole formed all is) (NameLine states2 state2 name value blocks found typed) = no_name setting side fun texts state name whole.all_names found
  limit_ends at next rest text (OneMore states state behind whole formed all is) (Separator states2 state2 whole2 formed2 few) = omega (arith, all, few)

  -- why right lines end here, after this number of them
  data Reason (lines : ℕ) (at : Progress) (rest : List ℕ) (why : StateFault) : Type 0 where
    Wrong : IsWrong setting side fun at rest → why ≡ fault.BadState (suc lines) state_why.Syntax → Reason lines at rest why
    Chain : (head : ℕ) (states : List ListedState) (state : ListedState) → at ≡ InState states state → Breaks at → head + length state.cells + length state.values ≡ lines
        → why ≡ fault.BadState head state_why.Chain → Reason lines at rest why
    Passed : Passes rest at → why ≡ fault.TooMany → Reason lines at rest why

  record EndsFor (bytes : List ℕ) (why : StateFault) : Type 0 where
    lines : ℕ
    at : Progress
    rest : List ℕ
    ends : EndsAt setting side fun texts bytes lines at rest
    reason : Reason lines at rest why

  ended : (bytes : List ℕ) (why : StateFault) → IsRefusedText setting side fun bytes why → EndsFor bytes why
  ended bytes why (WrongLine before at rest chain wrong is) =
      record { lines = before; at = at; rest = rest; ends = record { chain = chain; end = wrong.no_line }; reason = Wrong wrong is }
  ended bytes why (WrongChain head before states state rest chain breaks count is) =
      record {
        lines = before;
        at = InState states state;
        rest = rest;
        ends = record { chain = chain; end = λ next behind step. broken_ends (InState states state) next step.text breaks step.right };
        reason = Chain head states state refl breaks count is;
      }
  ended bytes why (TooMany before at rest chain passes is) =
      record { lines = before; at = at; rest = rest; ends = record { chain = chain; end = λ next behind step. limit_ends at next rest step.text passes step.right }; reason = Passed passes is }

  -- the state of a point
  abbrev state_in : Progress → ListedState
  state_in (AtHead states) = begun 0
  state_in (InState states state) = state

  not_both : (at : Progress) (rest : List ℕ) → Breaks at → Passes rest at → ⊥
  not_both at rest (Broken states state whole broken) (OneMore states2 state2 behind whole2 formed all is) = broken formed

  one_reason : (lines : ℕ) (at : Progress) (rest : List ℕ) (why other : StateFault) → Reason lines at rest why → Reason lines at rest other → other ≡ why
  one_reason lines at rest why other (Wrong wrong is) (Wrong wrong2 is2) = is2 ∙ sym is
  one_reason lines at rest why other (Chain head states state here breaks count is) (Chain head2 states2 state2 here2 breaks2 count2 is2) =
      let same : state ≡ state2 = ap state_in (sym here ∙ here2) in
      let cells = ap (λ (s : ListedState). length s.cells) same in
      let values = ap (λ (s : ListedState). length s.values) same in
      let heads : head2 ≡ head = omega (arith, count, count2, cells, values) in
      is2 ∙ ap (λ h. fault.BadState h state_why.Chain) heads ∙ sym is
  one_reason lines at rest why other (Passed passes is) (Passed passes2 is2) = is2 ∙ sym is
  one_reason lines at rest why other (Wrong wrong is) (Chain head states state here breaks count is2) = absurd (wrong.no_chain breaks)
  one_reason lines at rest why other (Wrong wrong is) (Passed passes is2) = absurd (wrong.no_limit passes)
  one_reason lines at rest why other (Chain head states state here breaks count is) (Wrong wrong is2) = absurd (wrong.no_chain breaks)
  one_reason lines at rest why other (Chain head states state here breaks count is) (Passed passes is2) = absurd (not_both at rest breaks passes)
  one_reason lines at rest why other (Passed passes is) (Wrong wrong is2) = absurd (wrong.no_limit passes)
  one_reason lines at rest why other (Passed passes is) (Chain head states state here breaks count is2) = absurd (not_both at rest breaks passes)

  same_reason : (bytes : List ℕ) (m n : ℕ) (at at2 : Progress) (rest rest2 : List ℕ) (why : StateFault) → EndsAt setting side fun texts bytes m at rest → EndsAt setting side fun texts bytes n at2 rest2
      → Reason m at rest why → Reason n at2 rest2 why
  same_reason bytes m n at at2 rest rest2 why ends ends2 reason =
      let same = one_end setting side fun texts bytes m n at at2 rest rest2 ends ends2 in
      subst (λ k. Reason k at2 rest2 why) same.0 (subst₂ (λ s r. Reason m s r why) same.1 same.2 reason)

  -- bytes are refused for one reason
  pub one_refusal : (bytes : List ℕ) (why other : StateFault) → IsRefusedText setting side fun bytes why → IsRefusedText setting side fun bytes other → other ≡ why
  one_refusal bytes why other refused refused2 =
      let a = ended bytes why refused in
      let b = ended bytes other refused2 in
      one_reason b.lines b.at b.rest why other (same_reason bytes a.lines b.lines a.at b.at a.rest b.rest why a.ends b.ends a.reason) b.reason

  none_broken : (at : Progress) → MayEnd setting side fun at → ¬ Breaks at
  none_broken at (LastState states state whole formed) (Broken states2 state2 whole2 broken) = broken formed
  none_broken at NoStates breaks = elim breaks [ ]

  none_passes : (at : Progress) → ¬ Passes [] at
  none_passes at (OneMore states state behind whole formed all is) = cc

  no_reason : (lines : ℕ) (at : Progress) (why : StateFault) → MayEnd setting side fun at → ¬ Reason lines at [] why
  no_reason lines at why may (Wrong wrong is) = wrong.no_end refl may
  no_reason lines at why may (Chain head states state here breaks count is) = none_broken at may breaks
  no_reason lines at why may (Passed passes is) = none_passes at passes

  -- bytes that are refused are the text of no states
  pub no_states : (bytes : List ℕ) (why : StateFault) (states : List ListedState) → IsRefusedText setting side fun bytes why → ¬ AreStatesOf setting side fun bytes states
  no_states bytes why states refused are =
      let a = ended bytes why refused in
      let end = states_end setting side fun texts bytes states are in
      no_reason end.lines end.at why end.may_end
      (same_reason bytes a.lines end.lines a.at end.at a.rest [] why a.ends (record { chain = end.chain; end = no_step setting side fun end.at }) a.reason)

-- the same for an entry of a checked program, if the names of its aliases have no delimiter of types
module _ (checked : Checked) (number : ℕ) (side : Side) (range : AreInRange (resolved_setting checked.resolved).widths) (plain : HasPlainAliases (program_tree checked.resolved.program.now)) where
  abbrev own : Setting
  own = resolved_setting checked.resolved

  texts_of : (fun : FunTree) → slice_get own.funs number ≡ Some fun → HasStateTexts own side fun
  texts_of fun found = checked_texts checked number side fun found range plain

  pub one_list_in : (bytes : List ℕ) (states others : List ListedState) → AreStatesIn own number side bytes states → AreStatesIn own number side bytes others → states ≡ others
  one_list_in bytes states others (fun, found, are) (fun2, found2, also) =
      one_list own side fun (texts_of fun found) bytes states others are (subst (λ f. AreStatesOf own side f bytes others) (same_some found2 found) also)

  pub one_refusal_in : (bytes : List ℕ) (why other : StateFault) → IsRefusedIn own number side bytes why → IsRefusedIn own number side bytes other → other ≡ why
  one_refusal_in bytes why other (fun, found, refused) (fun2, found2, refused2) =
      one_refusal own side fun (texts_of fun found) bytes why other refused (subst (λ f. IsRefusedText own side f bytes other) (same_some found2 found) refused2)

  pub no_states_in : (bytes : List ℕ) (why : StateFault) (states : List ListedState) → IsRefusedIn own number side bytes why → ¬ AreStatesIn own number side bytes states
  no_states_in bytes why states (fun, found, refused) (fun2, found2, are) =
      no_states own side fun (texts_of fun found) bytes why states refused (subst (λ f. AreStatesOf own side f bytes states) (same_some found2 found) are)
