-- Answers to exchanges with memory that follow the semantics.
use Rattle.std.proofs.Common.{◌≡◌, ◌≢◌, ◌∙◌, ap, ap₂, sym, refl, ℕ, true, false, List, Bool, Option, Some, None, Ok, Err}
use Rattle.std.proofs.lemmas.Bool.{false≢true}
use Rattle.std.proofs.lemmas.Option.{none-some}
use Rattle.tw_text.specs.declared.place.Pos.{Pos}
use Rattle.tw_syntax.specs.Names.{PathTree}
use Rattle.tw_syntax.specs.Statements.{MemSwapStmt}
use Rattle.tw_types.specs.declared.values.Val as val
use Rattle.tw_types.specs.FromCode.{value_of}
use Rattle.tw_types.specs.Types.{Ty, UnitTy, Word, Boolean, Pointer, PairTy}
use Rattle.tw_types.specs.Values.{Value, Address}
use Rattle.tw_resolve.specs.Expressions.{type_at_path}
use Rattle.tw_resolve.specs.Setting.{Setting}
use Rattle.tw_state.specs.Parts.{value_at, with_value_at}
use Rattle.tw_state.specs.Semantics.{Runs, RunsMemSwapNull, RunsMemSwap}
use Rattle.tw_state.specs.States.{State, Cell, Free, Live, cell_at, with_cell}
use Rattle.tw_state.specs.Steps.{Activation}
use Rattle.tw_state.specs.Stuck.{Reason, Wild, Sticks, IsNotLive, StuckMemSwap}
use Rattle.tw_state.proofs.Basics.{not_both, same_some, some_value}
use Rattle.tw_state.proofs.Blocks.{cell_twice}
use Rattle.tw_state.proofs.SingleSteps.{same_address, same_target, same_live}
use Rattle.tw_interp.specs.declared.fault.Reason.TheVariants as reasons
use Rattle.tw_interp.specs.declared.fault.RunFault.{RunFault}
use Rattle.tw_interp.specs.declared.fault.RunFault.TheVariants as fault
use Rattle.tw_interp.specs.Numbered.{target_of}
use Rattle.tw_interp.specs.Following.{Follows, Goes, Stops}
use Rattle.tw_interp.proofs.Following.{stops_with}

-- a type with a target is a type of pointers
pub pointer_is : (ty : Option Ty) (target : ℕ) → Some target ≡ target_of ty → ty ≡ Some (Pointer target)
pointer_is None target is = absurd (none-some target (sym is))
pointer_is (Some UnitTy) target is = absurd (none-some target (sym is))
pointer_is (Some Word) target is = absurd (none-some target (sym is))
pointer_is (Some Boolean) target is = absurd (none-some target (sym is))
pointer_is (Some (Pointer other)) target is = ap (λ n. Some (Pointer n)) (sym (some_value is))
pointer_is (Some (PairTy first second)) target is = absurd (none-some target (sym is))

is_address : Value → Bool
is_address (Address block) = true
is_address value = false

-- a value of the code that is no address
pub no_address : (v : val.Val) → ((block : ℕ) → v ≢ val.Ptr block) → (block : ℕ) → value_of v ≢ Address block
unfolding is_address
no_address val.Unit none block same = false≢true (ap is_address same)
no_address (val.U n) none block same = false≢true (ap is_address same)
no_address (val.B is) none block same = false≢true (ap is_address same)
no_address (val.Ptr other) none block same = none other refl
no_address (val.Pair' p x q y) none block same = false≢true (ap is_address same)

module _ (setting : Setting) (act : Activation) (at : Pos) (pointer place : PathTree) (old : State) where
  pub not_pointed : (new : State) (e : RunFault) → ((block : ℕ) → value_at old.store pointer ≢ Some (Address block)) → Follows {A = Unit {0}} setting act (MemSwapStmt at pointer place) old new (Err e)
  not_pointed new e none = record { ran = ran; stuck = stuck }
    where
      ran : (end : State) → Runs setting act (MemSwapStmt at pointer place) old end → Goes {A = Unit {0}} (new ≡ end) (Err e)
      ran end (RunsMemSwapNull null) = absurd (none 0 null)
      ran end (RunsMemSwap swaps) = absurd (none swaps.block swaps.points)

      stuck : (why : Reason) (p : Pos) → Sticks setting act (MemSwapStmt at pointer place) old why p → Stops {A = Unit {0}} why p (Err e)
      stuck why p (StuckMemSwap other number at_pointer nonzero typed apart) = absurd (none other at_pointer)

  pub null_swapped : (block : ℕ) → value_at old.store pointer ≡ Some (Address block) → block ≡ 0 → Follows {A = Unit {0}} setting act (MemSwapStmt at pointer place) old old (Ok tt)
  null_swapped block points null = record { ran = ran; stuck = stuck }
    where
      ran : (end : State) → Runs setting act (MemSwapStmt at pointer place) old end → Goes {A = Unit {0}} (old ≡ end) (Ok tt)
      ran end (RunsMemSwapNull other) = refl
      ran end (RunsMemSwap swaps) = absurd (none-some (Live swaps.target swaps.x) (ap (cell_at old.cells) (sym null ∙ same_address (same_some points swaps.points)) ∙ swaps.in_cell))

      stuck : (why : Reason) (p : Pos) → Sticks setting act (MemSwapStmt at pointer place) old why p → Stops {A = Unit {0}} why p (Ok tt)
      stuck why p (StuckMemSwap other number at_pointer nonzero typed apart) = nonzero (sym (same_address (same_some points at_pointer)) ∙ null)

  module _ (block : ℕ) (some : block ≢ 0) (points : value_at old.store pointer ≡ Some (Address block)) where
    pub without_target : (new : State) (e : RunFault) → None ≡ target_of (type_at_path act.types pointer) → Follows {A = Unit {0}} setting act (MemSwapStmt at pointer place) old new (Err e)
    without_target new e none = record { ran = ran; stuck = stuck }
      where
        ran : (end : State) → Runs setting act (MemSwapStmt at pointer place) old end → Goes {A = Unit {0}} (new ≡ end) (Err e)
        ran end (RunsMemSwapNull null) = absurd (some (same_address (same_some points null)))
        ran end (RunsMemSwap swaps) = absurd (none-some swaps.target (none ∙ ap target_of swaps.of_target))

        stuck : (why : Reason) (p : Pos) → Sticks setting act (MemSwapStmt at pointer place) old why p → Stops {A = Unit {0}} why p (Err e)
        stuck why p (StuckMemSwap other number at_pointer nonzero typed apart) = absurd (none-some number (none ∙ ap target_of typed))

    module _ (target : ℕ) (of_target : type_at_path act.types pointer ≡ Some (Pointer target)) where
      -- the cell that is exchanged is the one of this block and this target
      same_cell : {other number : ℕ} {content : Value} → value_at old.store pointer ≡ Some (Address other) → type_at_path act.types pointer ≡ Some (Pointer number)
          → cell_at old.cells other ≡ Some (Live number content) → cell_at old.cells block ≡ Some (Live target content)
      same_cell {other} {number} {content} at_pointer typed is =
          ap (cell_at old.cells) (same_address (same_some points at_pointer)) ∙ is ∙ ap (λ n. Some (Live n content)) (sym (same_target (same_some of_target typed)))

      pub not_live_swapped : (new : State) (e : RunFault) → IsNotLive old block target → e ≡ fault.Stuck reasons.Wild at → Follows {A = Unit {0}} setting act (MemSwapStmt at pointer place) old new (Err e)
      not_live_swapped new e apart told = record { ran = ran; stuck = stuck }
        where
          ran : (end : State) → Runs setting act (MemSwapStmt at pointer place) old end → Goes {A = Unit {0}} (new ≡ end) (Err e)
          ran end (RunsMemSwapNull null) = absurd (some (same_address (same_some points null)))
          ran end (RunsMemSwap swaps) = absurd (apart swaps.x (same_cell swaps.points swaps.of_target swaps.in_cell))

          stuck : (why : Reason) (p : Pos) → Sticks setting act (MemSwapStmt at pointer place) old why p → Stops {A = Unit {0}} why p (Err e)
          stuck why p (StuckMemSwap other number at_pointer nonzero typed apart2) = stops_with (Unit {0}) Wild at e reasons.Wild told refl

      module _ (content : Value) (live : cell_at old.cells block ≡ Some (Live target content)) where
        not_wild : {P : Type 0} {other number : ℕ} → value_at old.store pointer ≡ Some (Address other) → type_at_path act.types pointer ≡ Some (Pointer number) → IsNotLive old other number → P
        not_wild at_pointer typed apart =
            absurd (apart content (ap (cell_at old.cells) (sym (same_address (same_some points at_pointer))) ∙ live ∙ ap (λ n. Some (Live n content)) (same_target (same_some of_target typed))))

        pub not_placed : (new : State) (e : RunFault) → None ≡ value_at old.store place → Follows {A = Unit {0}} setting act (MemSwapStmt at pointer place) old new (Err e)
        not_placed new e none = record { ran = ran; stuck = stuck }
          where
            ran : (end : State) → Runs setting act (MemSwapStmt at pointer place) old end → Goes {A = Unit {0}} (new ≡ end) (Err e)
            ran end (RunsMemSwapNull null) = absurd (some (same_address (same_some points null)))
            ran end (RunsMemSwap swaps) = not_both (sym none) swaps.at_place

            stuck : (why : Reason) (p : Pos) → Sticks setting act (MemSwapStmt at pointer place) old why p → Stops {A = Unit {0}} why p (Err e)
            stuck why p (StuckMemSwap other number at_pointer nonzero typed apart) = not_wild at_pointer typed apart

        pub memory_swapped : (value : Value) → value_at old.store place ≡ Some value
            → (new : State) → new ≡ record old { cells = with_cell (with_cell old.cells block (Free 0)) block (Live target value); store = with_value_at old.store place content }
            → Follows {A = Unit {0}} setting act (MemSwapStmt at pointer place) old new (Ok tt)
        memory_swapped value there new after = record { ran = ran; stuck = stuck }
          where
            ran : (end : State) → Runs setting act (MemSwapStmt at pointer place) old end → Goes {A = Unit {0}} (new ≡ end) (Ok tt)
            ran end (RunsMemSwapNull null) = absurd (some (same_address (same_some points null)))
            ran end (RunsMemSwap swaps) =
                let same = same_address (same_some points swaps.points) in
                let number = same_target (same_some of_target swaps.of_target) in
                let x : content ≡ swaps.x = same_live (some_value (sym live ∙ (ap (cell_at old.cells) same ∙ swaps.in_cell))) in
                let y : value ≡ swaps.y = same_some there swaps.at_place in
                after
                ∙ ap (λ (cells : List Cell). record old { cells = cells; store = with_value_at old.store place content }) (cell_twice old.cells block (Free 0) (Live target value))
                ∙ ap₂ (λ n t. record old { cells = with_cell old.cells n (Live t value); store = with_value_at old.store place content }) same number
                ∙ ap₂ (λ u v. record old { cells = with_cell old.cells swaps.block (Live swaps.target u); store = with_value_at old.store place v }) y x
                ∙ sym swaps.after

            stuck : (why : Reason) (p : Pos) → Sticks setting act (MemSwapStmt at pointer place) old why p → Stops {A = Unit {0}} why p (Ok tt)
            stuck why p (StuckMemSwap other number at_pointer nonzero typed apart) = not_wild at_pointer typed apart
