-- The reverse of a statement undoes it, so different states lead to different states.
use Rattle.std.proofs.Common.{◌≡◌, ◌↔◌, sym, subst}
use Rattle.tw_syntax.specs.Statements.{StmtTree}
use Rattle.tw_resolve.specs.Setting.{Setting}
use Rattle.tw_check.specs.Reverse.{reverse_of}
use Rattle.tw_check.proofs.Reversal.{reverse_of-reverse_of}
use Rattle.tw_state.specs.States.{State}
use Rattle.tw_state.specs.Steps.{Activation}
use Rattle.tw_state.specs.Semantics.{Runs, RunsNothing, RunsSkip, RunsThen, RunsBlock, RunsLet, RunsUnlet, RunsSwap, RunsMemSwapNull, RunsMemSwap, RunsIf, RunsIfElse, RunsIfNot, RunsWith, RunsCall, RunsUncall, RunsCallZero, RunsUncallZero, RunsAlloc, RunsAllocNone, RunsFree, RunsFreeNone}
use Rattle.tw_state.proofs.SingleSteps.{swaps_back, memory_back, pads_back}
use Rattle.tw_state.proofs.Calls.{HaveDifferentNames}
use Rattle.tw_state.proofs.Determined.{determined}

module _ (setting : Setting) where
  pub of_same : {act : Activation} {s t : StmtTree} {x y : State} → s ≡ t → Runs setting act s x y → Runs setting act t x y
  of_same {act} {s} {t} {x} {y} same runs = subst (λ stmt. Runs setting act stmt x y) same runs

  -- the reverse leads back
  pub undone : {act : Activation} {s : StmtTree} {x y : State} → Runs setting act s x y → Runs setting act (reverse_of s) y x
  undone RunsNothing = RunsNothing
  undone RunsSkip = RunsSkip
  undone (RunsThen a b) = RunsThen (undone b) (undone a)
  undone (RunsBlock a) = RunsBlock (undone a)
  undone (RunsLet v e a) = RunsUnlet v e a
  undone (RunsUnlet v e a) = RunsLet v e a
  undone (RunsSwap a) = RunsSwap (swaps_back a)
  undone (RunsMemSwapNull a) = RunsMemSwapNull a
  undone (RunsMemSwap a) = RunsMemSwap (memory_back a)
  undone (RunsIf p a q) = RunsIf q (undone a) p
  undone (RunsIfElse p a q) = RunsIfElse q (undone a) p
  undone (RunsIfNot p a q) = RunsIfNot q (pads_back a) p
  undone (RunsWith {setup = setup} a b c) = RunsWith (of_same (reverse_of-reverse_of setup) (undone c)) (undone b) (undone a)
  undone (RunsCall fun n named bound absent body keeps) = RunsUncall fun n named bound absent (undone body) (λ name other. sym (keeps name other))
  undone (RunsUncall fun n named bound absent body keeps) =
      RunsCall fun n named bound absent (of_same (reverse_of-reverse_of fun.body) (undone body)) (λ name other. sym (keeps name other))
  undone (RunsCallZero fun v named bound zero adds) = RunsUncallZero fun v named bound zero adds
  undone (RunsUncallZero fun v named bound zero adds) = RunsCallZero fun v named bound zero adds
  undone (RunsAlloc block t a) = RunsFree block a t
  undone (RunsAllocNone none a) = RunsFreeNone none a
  undone (RunsFree block a t) = RunsAlloc block t a
  undone (RunsFreeNone none a) = RunsAllocNone none a

  -- a statement leads from one state to another exactly if its reverse leads back
  pub runs-reverse_of : {act : Activation} {s : StmtTree} {x y : State} → Runs setting act s x y ↔ Runs setting act (reverse_of s) y x
  runs-reverse_of {act} {s} {x} {y} = (undone, λ back. of_same (reverse_of-reverse_of s) (undone back))

module _ (setting : Setting) (different : HaveDifferentNames setting) where
  -- states that lead to one state are equal
  pub injective : {act : Activation} {s : StmtTree} {x y z : State} → Runs setting act s x z → Runs setting act s y z → x ≡ y
  injective a b = determined setting different (undone setting a) (undone setting b)
