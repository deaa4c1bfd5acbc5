-- Answers to the freeing of blocks that follow the semantics.
use Rattle.std.proofs.Common.{◌≡◌, ◌≢◌, ◌∙◌, ap, sym, subst₂, refl, ℕ, false, Some, None, Result, Ok, Err}
use Rattle.std.proofs.lemmas.Option.{none-some}
use Rattle.tw_text.specs.declared.place.Pos.{Pos}
use Rattle.tw_syntax.specs.Names.{NameTree}
use Rattle.tw_syntax.specs.Statements.{StmtTree, LetStmt}
use Rattle.tw_syntax.specs.Terms.{AllocRhs}
use Rattle.tw_syntax.specs.Types.{WrittenTree}
use Rattle.tw_types.specs.Values.{Value, Address}
use Rattle.tw_resolve.specs.Declarations.{target_number}
use Rattle.tw_resolve.specs.Setting.{Setting}
use Rattle.tw_state.specs.Evaluation.{zero_of_target}
use Rattle.tw_state.specs.Semantics.{Runs, RunsFree, RunsFreeNone}
use Rattle.tw_state.specs.States.{State, Free, Live, cell_at, with_cell}
use Rattle.tw_state.specs.Steps.{Activation, Adds, Takes}
use Rattle.tw_state.specs.Stuck.{Reason, Unmet, Wild, Dirty, Sticks, IsNotLive, StuckFreeNull, StuckFreeWild, StuckFreeDirty}
use Rattle.tw_state.proofs.Basics.{not_both, some_value}
use Rattle.tw_state.proofs.Blocks.{cell_put}
use Rattle.tw_state.proofs.SingleSteps.{added, adds_bare, adds_value, same_address, same_live, taken_from, taken_is_block}
use Rattle.tw_interp.specs.declared.fault.Reason.TheVariants as reasons
use Rattle.tw_interp.specs.declared.fault.RunFault.{RunFault}
use Rattle.tw_interp.specs.declared.fault.RunFault.TheVariants as fault
use Rattle.tw_interp.specs.Answers.{Finds}
use Rattle.tw_interp.specs.Following.{Follows, Frees, Goes, Stops}
use Rattle.tw_interp.proofs.Following.{stops_with}

module _ (setting : Setting) (to : WrittenTree) (at : Pos) (block : ℕ) (old : State) where
  -- the cell of a block that was taken
  taken_cell : {freed : State} (takes : Takes setting to block freed old) → cell_at old.cells block ≡ Some (Live takes.target takes.cleared)
  taken_cell {freed} takes = ap (λ (s : State). cell_at s.cells block) takes.after ∙ cell_put freed.cells block (Live takes.target takes.cleared) (Free takes.next) takes.is_free

  pub frees_unnumbered : (new : State) (e : RunFault) → None ≡ target_number setting.scope.targets to → Frees {A = Unit {0}} setting to at block old new (Err e)
  frees_unnumbered new e none = record {
    ran = λ freed takes. not_both (sym none) takes.numbered;
    wild = λ target numbered apart. not_both (sym none) numbered;
    dirty = λ target value cleared numbered is zero differ. not_both (sym none) numbered;
  }

  module _ (number : ℕ) (mine : Some number ≡ target_number setting.scope.targets to) where
    same_number : {target : ℕ} → target_number setting.scope.targets to ≡ Some target → number ≡ target
    same_number is = some_value (mine ∙ is)

    pub frees_wild : (new : State) (e : RunFault) → IsNotLive old block number → e ≡ fault.Stuck reasons.Wild at → Frees {A = Unit {0}} setting to at block old new (Err e)
    frees_wild new e apart told = record {
      ran = λ freed takes. absurd (apart takes.cleared (taken_cell takes ∙ ap (λ n. Some (Live n takes.cleared)) (sym (same_number takes.numbered))));
      wild = λ target numbered other. stops_with (Unit {0}) Wild at e reasons.Wild told refl;
      dirty = λ target value cleared numbered is zero differ. absurd (apart value (is ∙ ap (λ n. Some (Live n value)) (sym (same_number numbered))));
    }

    module _ (content : Value) (live : cell_at old.cells block ≡ Some (Live number content)) where
      not_wild : {P : Type 0} {target : ℕ} → target_number setting.scope.targets to ≡ Some target → IsNotLive old block target → P
      not_wild numbered apart = absurd (apart content (live ∙ ap (λ n. Some (Live n content)) (same_number numbered)))

      zero_at : {target : ℕ} {cleared : Value} → target_number setting.scope.targets to ≡ Some target → zero_of_target setting target ≡ Some cleared → zero_of_target setting number ≡ Some cleared
      zero_at numbered zero = ap (zero_of_target setting) (same_number numbered) ∙ zero

      content_is : {target : ℕ} {value : Value} → cell_at old.cells block ≡ Some (Live target value) → content ≡ value
      content_is is = same_live (some_value (sym live ∙ is))

      pub frees_without_zero : (new : State) (e : RunFault) → Finds (zero_of_target setting number) None → Frees {A = Unit {0}} setting to at block old new (Err e)
      frees_without_zero new e finds = record {
        ran = λ freed takes. absurd (none-some takes.cleared (finds takes.cleared (zero_at takes.numbered takes.is_zero)));
        wild = λ target numbered apart. not_wild numbered apart;
        dirty = λ target value cleared numbered is zero differ. absurd (none-some cleared (finds cleared (zero_at numbered zero)));
      }

      module _ (zero : Value) (finds : Finds (zero_of_target setting number) (Some zero)) where
        zero_is : {target : ℕ} {cleared : Value} → target_number setting.scope.targets to ≡ Some target → zero_of_target setting target ≡ Some cleared → zero ≡ cleared
        zero_is {target} {cleared} numbered is = some_value (finds cleared (zero_at numbered is))

        pub frees_dirty : (new : State) (e : RunFault) → content ≢ zero → e ≡ fault.Stuck reasons.Dirty at → Frees {A = Unit {0}} setting to at block old new (Err e)
        frees_dirty new e differ told = record {
          ran = λ freed takes. absurd (differ (content_is (taken_cell takes) ∙ sym (zero_is takes.numbered takes.is_zero)));
          wild = λ target numbered apart. not_wild numbered apart;
          dirty = λ target value cleared numbered is cleared_is other. stops_with (Unit {0}) Dirty at e reasons.Dirty told refl;
        }

        pub freed : (new : State) → content ≡ zero → new ≡ record old { head = block; cells = with_cell old.cells block (Free old.head) } → Frees {A = Unit {0}} setting to at block old new (Ok tt)
        freed new same after = record {
          ran = λ before takes. after ∙ sym (taken_from takes);
          wild = λ target numbered apart. not_wild numbered apart;
          dirty = λ target value cleared numbered is cleared_is other. other (sym (content_is is) ∙ same ∙ zero_is numbered cleared_is);
        }

module _ (setting : Setting) (act : Activation) (at : Pos) (target : NameTree) (to : WrittenTree) (old : State) where
  abbrev freeing : StmtTree
  freeing = LetStmt at false target (AllocRhs to)

  -- a name that is freed holds an address
  held_at_run : {end : State} {P : Type 0} → Runs setting act freeing old end → ((block : ℕ) → old.store target.text ≡ Some (Address block) → P) → P
  held_at_run (RunsFree block adds takes) f = f block (added adds)
  held_at_run (RunsFreeNone none adds) f = f 0 (added adds)

  held_at_stop : {why : Reason} {place : Pos} {P : Type 0} → Sticks setting act freeing old why place → ((block : ℕ) → old.store target.text ≡ Some (Address block) → P) → P
  held_at_stop (StuckFreeNull adds some) f = f 0 (added adds)
  held_at_stop (StuckFreeWild block number adds some numbered apart) f = f block (added adds)
  held_at_stop (StuckFreeDirty block number value cleared adds numbered is zero differ) f = f block (added adds)

  pub free_unheld : (new : State) (e : RunFault) → None ≡ old.store target.text → Follows {A = Unit {0}} setting act freeing old new (Err e)
  free_unheld new e none = record {
    ran = λ end runs. held_at_run runs (λ block is. not_both (sym none) is);
    stuck = λ why place stuck. held_at_stop stuck (λ block is. not_both (sym none) is);
  }

  pub free_no_address : (new : State) (e : RunFault) (held : Value) → Some held ≡ old.store target.text → ((block : ℕ) → held ≢ Address block) → Follows {A = Unit {0}} setting act freeing old new (Err e)
  free_no_address new e held is none = record {
    ran = λ end runs. held_at_run runs (λ block at. absurd (none block (some_value (is ∙ at))));
    stuck = λ why place stuck. held_at_stop stuck (λ block at. absurd (none block (some_value (is ∙ at))));
  }

  module _ (block : ℕ) (bare : State) (mine : Adds target.text (Address block) bare old) where
    same_block : {other : ℕ} {s : State} → Adds target.text (Address other) s old → block ≡ other
    same_block adds = same_address (adds_value mine adds)

    pub free_null : block ≡ 0 → bare.head ≡ 0 → Follows {A = Unit {0}} setting act freeing old bare (Ok tt)
    free_null null none = record { ran = ran; stuck = stuck }
      where
        ran : (end : State) → Runs setting act freeing old end → Goes {A = Unit {0}} (bare ≡ end) (Ok tt)
        ran end (RunsFree other adds takes) = absurd (taken_is_block takes (sym (same_block adds) ∙ null))
        ran end (RunsFreeNone empty adds) = adds_bare mine adds

        stuck : (why : Reason) (place : Pos) → Sticks setting act freeing old why place → Stops {A = Unit {0}} why place (Ok tt)
        stuck why place (StuckFreeNull adds some) = some (ap (λ (s : State). s.head) (adds_bare adds mine) ∙ none)
        stuck why place (StuckFreeWild other number adds some numbered apart) = some (sym (same_block adds) ∙ null)
        stuck why place (StuckFreeDirty {bare = other_bare} other number value cleared adds numbered is zero differ) =
            absurd (none-some (Live number value) (sym (ap (cell_at other_bare.cells) (sym (same_block adds) ∙ null)) ∙ is))

    pub free_null_unmet : (new : State) (e : RunFault) → block ≡ 0 → bare.head ≢ 0 → e ≡ fault.Stuck reasons.Unmet at → Follows {A = Unit {0}} setting act freeing old new (Err e)
    free_null_unmet new e null some told = record { ran = ran; stuck = stuck }
      where
        ran : (end : State) → Runs setting act freeing old end → Goes {A = Unit {0}} (new ≡ end) (Err e)
        ran end (RunsFree other adds takes) = absurd (taken_is_block takes (sym (same_block adds) ∙ null))
        ran end (RunsFreeNone empty adds) = absurd (some (ap (λ (s : State). s.head) (adds_bare mine adds) ∙ empty))

        stuck : (why : Reason) (place : Pos) → Sticks setting act freeing old why place → Stops {A = Unit {0}} why place (Err e)
        stuck why place (StuckFreeNull adds other) = stops_with (Unit {0}) Unmet at e reasons.Unmet told refl
        stuck why place (StuckFreeWild other number adds nonzero numbered apart) = absurd (nonzero (sym (same_block adds) ∙ null))
        stuck why place (StuckFreeDirty {bare = other_bare} other number value cleared adds numbered is zero differ) =
            absurd (none-some (Live number value) (sym (ap (cell_at other_bare.cells) (sym (same_block adds) ∙ null)) ∙ is))

    pub free_rest : (new : State) (r : Result (Unit {0}) RunFault) → block ≢ 0 → Frees setting to at block bare new r → Follows setting act freeing old new r
    free_rest new r some frees = record { ran = ran; stuck = stuck }
      where
        ran : (end : State) → Runs setting act freeing old end → Goes (new ≡ end) r
        ran end (RunsFree other adds takes) =
            frees.ran end (subst₂ (λ (n : ℕ) (s : State). Takes setting to n end s) (sym (same_block adds)) (adds_bare adds mine) takes)
        ran end (RunsFreeNone empty adds) = absurd (some (same_block adds))

        stuck : (why : Reason) (place : Pos) → Sticks setting act freeing old why place → Stops why place r
        stuck why place (StuckFreeNull adds other) = absurd (some (same_block adds))
        stuck why place (StuckFreeWild other number adds nonzero numbered apart) =
            frees.wild number numbered (subst₂ (λ (s : State) (n : ℕ). IsNotLive s n number) (adds_bare adds mine) (sym (same_block adds)) apart)
        stuck why place (StuckFreeDirty other number value cleared adds numbered is zero differ) =
            frees.dirty number value cleared numbered (subst₂ (λ (s : State) (n : ℕ). cell_at s.cells n ≡ Some (Live number value)) (adds_bare adds mine) (sym (same_block adds)) is) zero differ
