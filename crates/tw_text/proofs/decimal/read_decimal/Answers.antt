use Rattle.std.proofs.Common.{rules, ◌≡◌, ◌<◌, ◌∙◌, sym, length, get_or, arith}
use Rattle.tw_text.specs.Digits.{digit_run}
use Rattle.tw_text.proofs.Decimals.{run_decimal, not_too_large, not_empty, no_leading_zero}
use Rattle.tw_text.proofs.decimal.read_decimal.Goals as goal
use Rattle.tw_text.proofs.decimal.read_decimal.Goals.{else-used-gt1-via-then-used-gt1+else-bytes-eq48, else-used-gt1-via-else-used-gt1}

pub returns-in_err-number-clause-none : goal.returns-in_err-number-clause-none
returns-in_err-number-clause-none c = rw c.from_residual.ensures (not_too_large _ c.in_err-number.ensures.none)

pub returns-then-used-eq0-clause-none : goal.returns-then-used-eq0-clause-none
returns-then-used-eq0-clause-none c = not_empty _ (sym c.if-used-eq0.true ∙ c.in_ok-number.ensures.used)

pub returns-then-bytes-eq48-clause-none : goal.returns-then-bytes-eq48-clause-none
returns-then-bytes-eq48-clause-none c = no_leading_zero c.args.bytes.now (omega (arith, c.if-used-gt1.true, c.in_ok-number.ensures.used)) c.if-bytes-eq48.true

pub returns-clause-some : goal.returns-clause-some
returns-clause-some c =
    let found = c.in_ok-number.ensures in
    let run = digit_run c.args.bytes.now in
    let some : 0 < length run = omega (arith, c.if-used-eq0.false, found.used) in
    let lead : get_or c.args.bytes.now 0 0 ≡ 48 → length run ≡ 1 = elim c.else-used-gt1.branch [
      | else-used-gt1-via-then-used-gt1+else-bytes-eq48 w ↦ (λ zero. absurd (w.if-bytes-eq48.false zero))
      | else-used-gt1-via-else-used-gt1 w ↦ (λ zero. omega (arith, some, w.if-used-gt1.false, found.used))
    ] in
    (run_decimal c.args.bytes.now _ found.value (search rules) some lead, found.used)
