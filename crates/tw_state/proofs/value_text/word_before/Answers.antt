use Rattle.std.proofs.Common.{◌≡◌, ◌++◌, subst, arith}
use Rattle.tw_state.specs.StateText.{value_text}
use Rattle.tw_state.proofs.ReadValues.{word_only}
use Rattle.tw_state.proofs.value_text.word_before.Goals as goal

pub returns-in_err-number : goal.returns-in_err-number
returns-in_err-number c =
    rw c.from_residual.ensures
    (λ delimits value rest typed e.
    let number = word_only c.args.widths value typed in
    c.in_err-number.ensures.none delimits number.0 rest (omega (arith, number.2, c.greatest_word.ensures))
    (subst (λ v. c.args.bytes.now ≡ value_text v ++ (c.args.tail.now ++ rest)) number.1 e))
