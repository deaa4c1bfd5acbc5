-- What statements change, in order and in reverse.
use Rattle.std.proofs.Common.{◌≡◌, ap, ℕ, zero, suc, false, List, [], ◌∷◌, take, Some, slice_get, Result, Ok, Err, OnOk}
use Rattle.std.proofs.lemmas.Option.{none-some}
use Rattle.tw_check.specs.Liveness.{live_after}
use Rattle.tw_check.specs.Names.{Names}
use Rattle.tw_state.proofs.Basics.{some_value}
use Rattle.tw_interp.specs.declared.numbered.Step.{Step}
use Rattle.tw_interp.specs.NumberedTrees.{step_tree, steps_tree}

-- a fact of an Ok leads to another
pub on_ok : {A E : Type 0} {P Q : Type 0} (r : Result A E) → (P → Q) → OnOk r P → OnOk r Q
on_ok (Ok x) f p = f p
on_ok (Err e) f p = tt

-- backward, the last of some statements comes first
pub last_first : (steps : List Step) (i : ℕ) (x : Step) (live : Names) → slice_get steps i ≡ Some x
    → live_after false (steps_tree (take (suc i) steps)) live ≡ live_after false (steps_tree (take i steps)) (live_after false (step_tree x) live)
last_first [] i x live is = absurd (none-some x is)
last_first (y ∷ ys) zero x live is = ap (λ z. live_after false (step_tree z) live) (some_value is)
last_first (y ∷ ys) (suc j) x live is = ap (live_after false (step_tree y)) (last_first ys j x live is)
