use Rattle.std.proofs.Common.{◌≡◌, ◌++◌, subst, List, ℕ, Bool, true, false, codes}
use Rattle.tw_types.specs.Values.{Truth}
use Rattle.tw_state.specs.StateText.{value_text}
use Rattle.tw_state.proofs.ReadValues.{truth_only}
use Rattle.tw_state.proofs.value_text.truth_before.Goals as goal

neither : (bytes tail rest : List ℕ) (is : Bool) → ¬ (bytes ≡ codes "true" ++ (tail ++ rest)) → ¬ (bytes ≡ codes "false" ++ (tail ++ rest)) → ¬ (bytes ≡ value_text (Truth is) ++ (tail ++ rest))
neither bytes tail rest true no_true no_false e = no_true e
neither bytes tail rest false no_true no_false e = no_false e

pub returns-in_err-rest : goal.returns-in_err-rest
returns-in_err-rest c =
    rw c.from_residual.ensures
    (λ value rest typed e.
    let truth = truth_only c.args.widths value typed in
    neither c.args.bytes.now c.args.tail.now rest truth.0 (c.in_default.ensures.none rest) (c.in_err-rest.ensures.none rest)
    (subst (λ v. c.args.bytes.now ≡ value_text v ++ (c.args.tail.now ++ rest)) truth.1 e))
