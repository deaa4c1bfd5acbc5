-- A stuck statement has no result, and is stuck for one reason at one place.
use Rattle.std.proofs.Common.{◌≡◌, ◌≢◌, ◌∙◌, refl, sym, ap, ap₂, subst, subst₂, ℕ, true, false, List, Option, Some, None, is_some}
use Rattle.std.proofs.lemmas.Option.{none-some}
use Rattle.tw_text.specs.declared.place.Pos.{Pos}
use Rattle.tw_syntax.specs.Names.{NameTree}
use Rattle.tw_syntax.specs.Programs.{FunTree}
use Rattle.tw_syntax.specs.Statements.{StmtTree}
use Rattle.tw_syntax.specs.Types.{WrittenTree}
use Rattle.tw_types.specs.Types.{Ty}
use Rattle.tw_types.specs.Values.{Value, Address, zero_value}
use Rattle.tw_resolve.specs.Declarations.{target_number}
use Rattle.tw_resolve.specs.Expressions.{Types}
use Rattle.tw_resolve.specs.Setting.{Setting}
use Rattle.tw_check.specs.Names.{Names}
use Rattle.tw_check.specs.Reverse.{reverse_of}
use Rattle.tw_state.specs.States.{Name, Free, Live, State, cell_at}
use Rattle.tw_state.specs.Evaluation.{zero_of, zero_of_target, expr_value}
use Rattle.tw_state.specs.Steps.{Activation, activation_of, Adds, Takes, IsPadded, Pads, links, seen_by}
use Rattle.tw_state.specs.Semantics.{Runs, RunsThen, RunsBlock, RunsUnlet, RunsMemSwapNull, RunsMemSwap, RunsIf, RunsIfElse, RunsIfNot, RunsWith, RunsCall, RunsUncall, RunsCallZero, RunsUncallZero, RunsFree, RunsFreeNone}
use Rattle.tw_state.specs.Stuck.{Reason, IsNotLive, LacksPad, Sticks, StuckFirst, StuckRest, StuckBlock, StuckUnlet, StuckMemSwap, StuckIf, StuckIfElse, StuckPad, StuckSetup, StuckWork, StuckUndo, StuckCall, StuckUncall, StuckUncallZero, StuckFreeNull, StuckFreeWild, StuckFreeDirty}
use Rattle.tw_state.proofs.Basics.{some_value, same_some, not_both, contradiction}
use Rattle.tw_state.proofs.SingleSteps.{same_address, same_target, same_live, adds_value, adds_bare, taken_is_block}
use Rattle.tw_state.proofs.Blocks.{cell_put}
use Rattle.tw_state.proofs.Calls.{HaveDifferentNames, same_call, same_uncall}
use Rattle.tw_state.proofs.Determined.{true_and_false, from_same, determined}

-- padded names are zero where they are removed
not_padded : {types : Types} {stmts : StmtTree} {old new : State} → LacksPad types stmts old → Pads types stmts old new → ⊥
not_padded {types} {stmts} {old} {new} lacks pads =
    by (types lacks.name) (old.store lacks.name) (new.store lacks.name) lacks.typed lacks.is (ap (λ (live : Names). live lacks.name) pads.after ∙ lacks.removed) (pads.padded lacks.name)
  where
    by : (ty : Option Ty) (x y : Option Value) → ty ≡ Some lacks.ty → x ≡ Some lacks.value → is_some y ≡ false → IsPadded ty x y → ⊥
    by (Some ty) (Some x) None typed is gone padded = lacks.not_zero (sym (some_value is) ∙ padded ∙ ap zero_value (some_value typed))
    by (Some ty) (Some x) (Some y) typed is gone padded = contradiction {test = true} refl gone
    by (Some ty) None y typed is gone padded = none-some lacks.value is
    by None x y typed is gone padded = none-some lacks.ty typed

-- an un-assigned name has the value that it needs
not_met : {name : Name} {held value other : Value} {old bare new : State} → held ≢ value → value ≡ other → Adds name held bare old → Adds name other new old → ⊥
not_met unmet same a b = unmet (adds_value a b ∙ sym same)

-- a freed block is live, and zero
freed_live : {setting : Setting} {to : WrittenTree} {block : ℕ} {new taken : State} → (t : Takes setting to block new taken) → cell_at taken.cells block ≡ Some (Live t.target t.cleared)
freed_live {setting} {to} {block} {new} {taken} t = ap (λ (s : State). cell_at s.cells block) t.after ∙ cell_put new.cells block (Live t.target t.cleared) (Free t.next) t.is_free

module _ (setting : Setting) where
  free_meets : {name : Name} {to : WrittenTree} {old bare taken new : State} {block : ℕ} → bare.head ≢ 0 → Adds name (Address 0) bare old → Adds name (Address block) taken old → Takes setting to block new taken → ⊥
  free_meets used a b t = taken_is_block t (sym (same_address (adds_value a b)))

  -- a block that is no live block of the target is not freed
  wild_meets : {name : Name} {to : WrittenTree} {old bare taken new : State} {block other number : ℕ} → Adds name (Address block) bare old → target_number setting.scope.targets to ≡ Some number → IsNotLive bare block number
      → Adds name (Address other) taken old → Takes setting to other new taken → ⊥
  wild_meets {name} {to} {old} {bare} {taken} {new} {block} {other} {number} a numbered wild b t =
      let blocks = same_address (adds_value a b) in
      wild t.cleared
      (ap₂ (λ (s : State) (n : ℕ). cell_at s.cells n) (adds_bare a b) blocks
      ∙ freed_live t ∙ ap (λ n. Some (Live n t.cleared)) (same_some t.numbered numbered))

  dirty_meets : {name : Name} {to : WrittenTree} {old bare taken new : State} {block other number : ℕ} {value cleared : Value} → Adds name (Address block) bare old
      → target_number setting.scope.targets to ≡ Some number → cell_at bare.cells block ≡ Some (Live number value) → zero_of_target setting number ≡ Some cleared → value ≢ cleared
      → Adds name (Address other) taken old → Takes setting to other new taken → ⊥
  dirty_meets {name} {to} {old} {bare} {taken} {new} {block} {other} {number} {value} {cleared} a numbered live zero dirty b t =
      let blocks = same_address (adds_value a b) in
      dirty (same_live (same_some live (ap₂ (λ (s : State) (n : ℕ). cell_at s.cells n) (adds_bare a b) blocks ∙ freed_live t)) ∙ same_some (ap (zero_of_target setting) (same_some numbered t.numbered) ∙ t.is_zero) zero)

  stuck_from : {act : Activation} {s : StmtTree} {x y : State} {reason : Reason} {place : Pos} → x ≡ y → Sticks setting act s x reason place → Sticks setting act s y reason place
  stuck_from {act} {s} {x} {y} {reason} {place} same stuck = subst (λ state. Sticks setting act s state reason place) same stuck

  stuck_call : {fun other : FunTree} {n m : ℕ} {reason : Reason} {place : Pos} (target : NameTree) (args : List NameTree) (old : State) → fun ≡ other → n ≡ m
      → Sticks setting (activation_of setting other m) other.body (seen_by (links other target args) old) reason place
      → Sticks setting (activation_of setting fun n) fun.body (seen_by (links fun target args) old) reason place
  stuck_call {fun} {other} {n} {m} {reason} {place} target args old same bounds stuck =
      subst₂ (λ f k. Sticks setting (activation_of setting f k) f.body (seen_by (links f target args) old) reason place) (sym same) (sym bounds) stuck

  stuck_uncall : {fun other : FunTree} {n m : ℕ} {reason : Reason} {place : Pos} (target : NameTree) (args : List NameTree) (old : State) → fun ≡ other → n ≡ m
      → Sticks setting (activation_of setting other m) (reverse_of other.body) (seen_by (links other target args) old) reason place
      → Sticks setting (activation_of setting fun n) (reverse_of fun.body) (seen_by (links fun target args) old) reason place
  stuck_uncall {fun} {other} {n} {m} {reason} {place} target args old same bounds stuck =
      subst₂ (λ f k. Sticks setting (activation_of setting f k) (reverse_of f.body) (seen_by (links f target args) old) reason place) (sym same) (sym bounds) stuck

  zero_same : {fun other : FunTree} {x y : Value} {o : Option FunTree} → o ≡ Some fun → o ≡ Some other → zero_of setting fun.result ≡ Some x → zero_of setting other.result ≡ Some y → x ≡ y
  zero_same {fun} {other} {x} {y} {o} named named2 zero zero2 = same_some zero (ap (λ (f : FunTree). zero_of setting f.result) (same_some named named2) ∙ zero2)

module _ (setting : Setting) (different : HaveDifferentNames setting) where
  -- a stuck statement has no result
  pub never_both : {act : Activation} {s : StmtTree} {old new : State} {reason : Reason} {place : Pos} → Sticks setting act s old reason place → Runs setting act s old new → ⊥
  never_both (StuckFirst a) (RunsThen b c) = never_both a b
  never_both (StuckRest a b) (RunsThen c d) = never_both b (from_same setting (determined setting different a c) d)
  never_both (StuckBlock a) (RunsBlock b) = never_both a b
  never_both (StuckUnlet {bare = bare} held value a e unmet) (RunsUnlet {expr = expr} w f b) =
      not_met unmet (same_some e (ap (λ (s : State). expr_value setting s.store expr) (adds_bare a b) ∙ f)) a b
  never_both (StuckMemSwap block target points some typed wild) (RunsMemSwapNull null) = some (same_address (same_some points null))
  never_both (StuckMemSwap {old = old} block target points some typed wild) (RunsMemSwap b) =
      let blocks = same_address (same_some points b.points) in
      wild b.x (ap (cell_at old.cells) blocks ∙ b.in_cell ∙ ap (λ n. Some (Live n b.x)) (same_target (same_some b.of_target typed)))
  never_both (StuckIf p a) (RunsIf q b r) = never_both a b
  never_both (StuckIf p a) (RunsIfElse q b r) = true_and_false p q
  never_both (StuckIf p a) (RunsIfNot q b r) = true_and_false p q
  never_both (StuckIfElse p a) (RunsIf q b r) = true_and_false q p
  never_both (StuckIfElse p a) (RunsIfElse q b r) = never_both a b
  never_both (StuckPad p lacks) (RunsIf q b r) = true_and_false q p
  never_both (StuckPad p lacks) (RunsIfNot q pads r) = not_padded lacks pads
  never_both (StuckSetup a) (RunsWith b c d) = never_both a b
  never_both (StuckWork a b) (RunsWith c d e) = never_both b (from_same setting (determined setting different a c) d)
  never_both (StuckUndo a b c) (RunsWith d e f) =
      never_both c (from_same setting (determined setting different b (from_same setting (determined setting different a d) e)) f)
  never_both (StuckCall {target = target} {args = args} {old = old} fun n named bound a) (RunsCall {new = y} other m named2 bound2 absent body keeps) =
      never_both a (same_call setting target args old y (same_some named named2) (same_some bound bound2) body)
  never_both (StuckCall fun n named bound a) (RunsCallZero other v named2 bound2 zero adds) = not_both bound2 bound
  never_both (StuckUncall {target = target} {args = args} {old = old} fun n named bound a) (RunsUncall {new = y} other m named2 bound2 absent body keeps) =
      never_both a (same_uncall setting target args old y (same_some named named2) (same_some bound bound2) body)
  never_both (StuckUncall fun n named bound a) (RunsUncallZero other v named2 bound2 zero adds) = not_both bound2 bound
  never_both (StuckUncallZero fun held v named bound a zero unmet) (RunsUncall other n named2 bound2 absent body keeps) = not_both bound bound2
  never_both (StuckUncallZero fun held v named bound a zero unmet) (RunsUncallZero other w named2 bound2 zero2 adds) =
      not_met unmet (zero_same setting named named2 zero zero2) a adds
  never_both (StuckFreeNull a used) (RunsFree block b t) = free_meets setting used a b t
  never_both (StuckFreeNull a used) (RunsFreeNone none b) = used (ap (λ (s : State). s.head) (adds_bare a b) ∙ none)
  never_both (StuckFreeWild block number a some numbered wild) (RunsFree other b t) = wild_meets setting a numbered wild b t
  never_both (StuckFreeWild block number a some numbered wild) (RunsFreeNone none b) = some (same_address (adds_value a b))
  never_both (StuckFreeDirty block number value cleared a numbered live zero dirty) (RunsFree other b t) = dirty_meets setting a numbered live zero dirty b t
  never_both (StuckFreeDirty {bare = bare} block number value cleared a numbered live zero dirty) (RunsFreeNone none b) =
      none-some (Live number value) (ap (cell_at bare.cells) (sym (same_address (adds_value a b))) ∙ live)

-- one reason and one place
abbrev pub AreSame : Reason → Reason → Pos → Pos → Type 0
AreSame reason other place elsewhere = (reason ≡ other) × (place ≡ elsewhere)

-- the block of a null is not dirty
null_dirty : {P : Type 0} {name : Name} {old bare other : State} {block number : ℕ} {value : Value} → Adds name (Address 0) bare old → Adds name (Address block) other old → cell_at other.cells block ≡ Some (Live number value) → P
null_dirty {P} {name} {old} {bare} {other} {block} {number} {value} a b live =
    absurd (none-some (Live number value) (ap (cell_at other.cells) (same_address (adds_value a b)) ∙ live))

-- a block that is no live block of the target is not dirty
wild_dirty : {P : Type 0} {name : Name} {old bare other : State} {block next number target : ℕ} {value : Value} → Adds name (Address block) bare old → IsNotLive bare block number
    → Adds name (Address next) other old → number ≡ target → cell_at other.cells next ≡ Some (Live target value) → P
wild_dirty {P} {name} {old} {bare} {other} {block} {next} {number} {target} {value} a wild b same live =
    absurd (wild value (ap₂ (λ (s : State) (n : ℕ). cell_at s.cells n) (adds_bare a b) (same_address (adds_value a b)) ∙ live ∙ ap (λ n. Some (Live n value)) (sym same)))

module _ (setting : Setting) (different : HaveDifferentNames setting) where
  -- a statement is stuck for one reason at one place
  pub one_reason : {act : Activation} {s : StmtTree} {old : State} {reason other : Reason} {place elsewhere : Pos}
      → Sticks setting act s old reason place → Sticks setting act s old other elsewhere → AreSame reason other place elsewhere
  one_reason (StuckFirst a) (StuckFirst b) = one_reason a b
  one_reason (StuckFirst a) (StuckRest b c) = absurd (never_both setting different a b)
  one_reason (StuckRest a b) (StuckFirst c) = absurd (never_both setting different c a)
  one_reason (StuckRest a b) (StuckRest c d) = one_reason b (stuck_from setting (determined setting different c a) d)
  one_reason (StuckBlock a) (StuckBlock b) = one_reason a b
  one_reason (StuckUnlet held v a e unmet) (StuckUnlet other w b f unmet2) = (refl, refl)
  one_reason (StuckMemSwap block target points some typed wild) (StuckMemSwap other number points2 some2 typed2 wild2) = (refl, refl)
  one_reason (StuckIf p a) (StuckIf q b) = one_reason a b
  one_reason (StuckIf p a) (StuckIfElse q b) = true_and_false p q
  one_reason (StuckIf p a) (StuckPad q lacks) = true_and_false p q
  one_reason (StuckIfElse p a) (StuckIf q b) = true_and_false q p
  one_reason (StuckIfElse p a) (StuckIfElse q b) = one_reason a b
  one_reason (StuckPad p lacks) (StuckIf q b) = true_and_false q p
  one_reason (StuckPad p lacks) (StuckPad q lacks2) = (refl, refl)
  one_reason (StuckSetup a) (StuckSetup b) = one_reason a b
  one_reason (StuckSetup a) (StuckWork b c) = absurd (never_both setting different a b)
  one_reason (StuckSetup a) (StuckUndo b c d) = absurd (never_both setting different a b)
  one_reason (StuckWork a b) (StuckSetup c) = absurd (never_both setting different c a)
  one_reason (StuckWork a b) (StuckWork c d) = one_reason b (stuck_from setting (determined setting different c a) d)
  one_reason (StuckWork a b) (StuckUndo c d e) = absurd (never_both setting different b (from_same setting (determined setting different a c) d))
  one_reason (StuckUndo a b c) (StuckSetup d) = absurd (never_both setting different d a)
  one_reason (StuckUndo a b c) (StuckWork d e) = absurd (never_both setting different e (from_same setting (determined setting different d a) b))
  one_reason (StuckUndo a b c) (StuckUndo d e f) =
      one_reason c (stuck_from setting (sym (determined setting different b (from_same setting (determined setting different a d) e))) f)
  one_reason (StuckCall {target = target} {args = args} {old = old} fun n named bound a) (StuckCall other m named2 bound2 b) =
      one_reason a (stuck_call setting target args old (same_some named named2) (same_some bound bound2) b)
  one_reason (StuckUncall {target = target} {args = args} {old = old} fun n named bound a) (StuckUncall other m named2 bound2 b) =
      one_reason a (stuck_uncall setting target args old (same_some named named2) (same_some bound bound2) b)
  one_reason (StuckUncall fun n named bound a) (StuckUncallZero other held v named2 bound2 b zero unmet) = not_both bound2 bound
  one_reason (StuckUncallZero fun held v named bound a zero unmet) (StuckUncall other n named2 bound2 b) = not_both bound bound2
  one_reason (StuckUncallZero fun held v named bound a zero unmet) (StuckUncallZero other held2 w named2 bound2 b zero2 unmet2) = (refl, refl)
  one_reason (StuckFreeNull a used) (StuckFreeNull b used2) = (refl, refl)
  one_reason (StuckFreeNull a used) (StuckFreeWild block number b some numbered wild) = absurd (some (same_address (adds_value b a)))
  one_reason (StuckFreeNull {bare = bare} a used) (StuckFreeDirty block number value cleared b numbered live zero dirty) = null_dirty a b live
  one_reason (StuckFreeWild block number a some numbered wild) (StuckFreeNull b used) = absurd (some (same_address (adds_value a b)))
  one_reason (StuckFreeWild block number a some numbered wild) (StuckFreeWild other m b some2 numbered2 wild2) = (refl, refl)
  one_reason (StuckFreeWild block number a some numbered wild) (StuckFreeDirty other m value cleared b numbered2 live zero dirty) = wild_dirty a wild b (same_some numbered numbered2) live
  one_reason (StuckFreeDirty block number value cleared a numbered live zero dirty) (StuckFreeNull b used) = null_dirty b a live
  one_reason (StuckFreeDirty block number value cleared a numbered live zero dirty) (StuckFreeWild other m b some numbered2 wild) = wild_dirty b wild a (same_some numbered2 numbered) live
  one_reason (StuckFreeDirty block number value cleared a numbered live zero dirty) (StuckFreeDirty other m v c b numbered2 live2 zero2 dirty2) = (refl, refl)
