use Rattle.std.proofs.Common.{◌∙◌, sym}
use Rattle.tw_text.proofs.Wholes.{whole_run, no_decimal, no_decimal_beyond}
use Rattle.tw_text.proofs.whole.whole_decimal.Goals as goal

pub returns-in_err-number-clause-none : goal.returns-in_err-number-clause-none
returns-in_err-number-clause-none c =
    rw c.from_residual.ensures (no_decimal c.args.bytes.now c.in_err-number.ensures.none)

pub returns-else-used-bytes-clause-none : goal.returns-else-used-bytes-clause-none
returns-else-used-bytes-clause-none c = no_decimal_beyond c.args.bytes.now (λ same. c.if-used-bytes.false (c.in_ok-number.ensures.some.1 ∙ same))

pub returns-then-used-bytes-clause-some : goal.returns-then-used-bytes-clause-some
returns-then-used-bytes-clause-some c =
    let found = c.in_ok-number.ensures.some in
    sym (whole_run c.args.bytes.now (sym c.if-used-bytes.true ∙ found.1)) ∙ found.0
