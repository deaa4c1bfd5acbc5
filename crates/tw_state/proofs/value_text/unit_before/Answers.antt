use Rattle.std.proofs.Common.{◌≡◌, ◌++◌, subst}
use Rattle.tw_state.specs.StateText.{value_text}
use Rattle.tw_state.proofs.ReadValues.{unit_only}
use Rattle.tw_state.proofs.value_text.unit_before.Goals as goal

pub returns-in_err-rest : goal.returns-in_err-rest
returns-in_err-rest c =
    rw c.from_residual.ensures
    (λ value rest typed e.
    c.in_err-rest.ensures.none rest (subst (λ v. c.args.bytes.now ≡ value_text v ++ (c.args.tail.now ++ rest)) (unit_only c.args.widths value typed) e))
