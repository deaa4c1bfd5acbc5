-- The semantics is deterministic.
use Rattle.std.proofs.Common.{◌≡◌, ◌∙◌, refl, sym, ap, subst, ℕ, true, false, Bool, List, Option, Some}
use Rattle.tw_syntax.specs.Programs.{FunTree}
use Rattle.tw_syntax.specs.Statements.{StmtTree}
use Rattle.tw_syntax.specs.Types.{WrittenTree}
use Rattle.tw_types.specs.Values.{Value, Truth, Address}
use Rattle.tw_resolve.specs.Setting.{Setting}
use Rattle.tw_state.specs.States.{Name, Cell, Live, State, cell_at}
use Rattle.tw_state.specs.Evaluation.{zero_of}
use Rattle.tw_state.specs.Steps.{Activation, Adds, Takes, links}
use Rattle.tw_state.specs.Semantics.{Runs, RunsNothing, RunsSkip, RunsThen, RunsBlock, RunsLet, RunsUnlet, RunsSwap, RunsMemSwapNull, RunsMemSwap, RunsIf, RunsIfElse, RunsIfNot, RunsWith, RunsCall, RunsUncall, RunsCallZero, RunsUncallZero, RunsAlloc, RunsAllocNone, RunsFree, RunsFreeNone}
use Rattle.tw_state.proofs.Basics.{same_some, not_both, contradiction}
use Rattle.tw_state.proofs.SingleSteps.{same_address, adds_value, adds_bare, adds_full, swaps_determined, memory_determined, takes_determined, takes_back, taken_is_block, pads_determined}
use Rattle.tw_state.proofs.Calls.{HaveDifferentNames, links_different, call_end, same_call, same_uncall, same_others}
use Rattle.std.proofs.lemmas.Option.{none-some}

-- a truth value is not both
pub true_and_false : {P : Type 0} {o : Option Value} → o ≡ Some (Truth true) → o ≡ Some (Truth false) → P
true_and_false {P} {o} p q = contradiction {test = true} refl (ap is (same_some p q))
  where
    is : Value → Bool
    is (Truth k) = k
    is other = true

-- the block of a memory swap is not null
null_block : {P : Type 0} {o : Option Value} {block target : ℕ} {value : Value} (cells : List Cell)
    → o ≡ Some (Address 0) → o ≡ Some (Address block) → cell_at cells block ≡ Some (Live target value) → P
null_block {P} {o} {block} {target} {value} cells null points live =
    absurd (none-some (Live target value) (ap (cell_at cells) (same_address (same_some null points)) ∙ live))

alloc_same : {name : Name} {x y : Value} {bare other full last : State} → bare ≡ other → x ≡ y → Adds name x bare full → Adds name y other last → full ≡ last
alloc_same {name} {x} {y} {bare} {other} {full} {last} same value a b = adds_full value a (subst (λ state. Adds name y state last) (sym same) b)

free_same : {setting : Setting} {to : WrittenTree} {block other : ℕ} {old last new end : State} → new ≡ end → block ≡ other → Takes setting to block old new → Takes setting to other last end → old ≡ last
free_same {setting} {to} {block} {other} {old} {last} {new} {end} same blocks a b = takes_back blocks a (subst (λ state. Takes setting to other last state) (sym same) b)

module _ (setting : Setting) where
  pub from_same : {act : Activation} {s : StmtTree} {x y z : State} → x ≡ y → Runs setting act s y z → Runs setting act s x z
  from_same {act} {s} {x} {y} {z} same runs = subst (λ state. Runs setting act s state z) (sym same) runs

module _ (setting : Setting) (different : HaveDifferentNames setting) where
  -- from one state a statement leads to one state
  pub determined : {act : Activation} {s : StmtTree} {x y z : State} → Runs setting act s x y → Runs setting act s x z → y ≡ z
  determined RunsNothing RunsNothing = refl
  determined RunsSkip RunsSkip = refl
  determined (RunsThen a b) (RunsThen c d) = determined b (from_same setting (determined a c) d)
  determined (RunsBlock a) (RunsBlock b) = determined a b
  determined (RunsLet v e a) (RunsLet w f b) = adds_full (same_some e f) a b
  determined (RunsUnlet v e a) (RunsUnlet w f b) = adds_bare a b
  determined (RunsSwap a) (RunsSwap b) = swaps_determined a b
  determined (RunsMemSwapNull a) (RunsMemSwapNull b) = refl
  determined (RunsMemSwapNull {state = old} a) (RunsMemSwap b) = null_block old.cells a b.points b.in_cell
  determined (RunsMemSwap {old = old} a) (RunsMemSwapNull b) = null_block old.cells b a.points a.in_cell
  determined (RunsMemSwap a) (RunsMemSwap b) = memory_determined a b
  determined (RunsIf p a q) (RunsIf r b s) = determined a b
  determined (RunsIf p a q) (RunsIfElse r b s) = true_and_false p r
  determined (RunsIf p a q) (RunsIfNot r b s) = true_and_false p r
  determined (RunsIfElse p a q) (RunsIf r b s) = true_and_false r p
  determined (RunsIfElse p a q) (RunsIfElse r b s) = determined a b
  determined (RunsIfNot p a q) (RunsIf r b s) = true_and_false r p
  determined (RunsIfNot p a q) (RunsIfNot r b s) = pads_determined a b
  determined (RunsWith a b c) (RunsWith d e f) =
      let ready = determined a d in
      determined c (from_same setting (determined b (from_same setting ready e)) f)
  determined (RunsCall {target = target} {callee = callee} {args = args} {old = old} {new = x} fun n named bound absent body keeps) (RunsCall {new = y} other m named2 bound2 absent2 body2 keeps2) =
      let same = same_some named named2 in
      call_end (links fun target args) old.store x y (links_different fun target args (different callee.text fun named))
      (determined body (same_call setting target args old y same (same_some bound bound2) body2)) keeps (same_others target args old.store y.store same keeps2)
  determined (RunsCall fun n named bound absent body keeps) (RunsCallZero other v named2 bound2 zero adds) = not_both bound2 bound
  determined (RunsCallZero fun v named bound zero adds) (RunsCall other n named2 bound2 absent body keeps) = not_both bound bound2
  determined (RunsCallZero fun v named bound zero adds) (RunsCallZero other w named2 bound2 zero2 adds2) =
      adds_full (same_some zero (ap (λ (f : FunTree). zero_of setting f.result) (same_some named named2) ∙ zero2)) adds adds2
  determined (RunsUncall {target = target} {callee = callee} {args = args} {old = old} {new = x} fun n named bound absent body keeps) (RunsUncall {new = y} other m named2 bound2 absent2 body2 keeps2) =
      let same = same_some named named2 in
      call_end (links fun target args) old.store x y (links_different fun target args (different callee.text fun named))
      (determined body (same_uncall setting target args old y same (same_some bound bound2) body2)) keeps (same_others target args old.store y.store same keeps2)
  determined (RunsUncall fun n named bound absent body keeps) (RunsUncallZero other v named2 bound2 zero adds) = not_both bound2 bound
  determined (RunsUncallZero fun v named bound zero adds) (RunsUncall other n named2 bound2 absent body keeps) = not_both bound bound2
  determined (RunsUncallZero fun v named bound zero adds) (RunsUncallZero other w named2 bound2 zero2 adds2) = adds_bare adds adds2
  determined (RunsAlloc block t a) (RunsAlloc other u b) =
      let same = takes_determined t u in
      alloc_same same.1 (ap Address same.0) a b
  determined (RunsAlloc block t a) (RunsAllocNone none b) = absurd (taken_is_block t (sym t.first ∙ none))
  determined (RunsAllocNone none a) (RunsAlloc block t b) = absurd (taken_is_block t (sym t.first ∙ none))
  determined (RunsAllocNone none a) (RunsAllocNone empty b) = adds_full refl a b
  determined (RunsFree block a t) (RunsFree other b u) = free_same (adds_bare a b) (same_address (adds_value a b)) t u
  determined (RunsFree block a t) (RunsFreeNone none b) = absurd (taken_is_block t (same_address (adds_value a b)))
  determined (RunsFreeNone none a) (RunsFree block b t) = absurd (taken_is_block t (same_address (adds_value b a)))
  determined (RunsFreeNone none a) (RunsFreeNone empty b) = adds_bare a b
