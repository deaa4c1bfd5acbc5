use Rattle.std.proofs.Common.{◌∙◌, sym, arith}
use Rattle.std.proofs.lemmas.Int.Digits.{digits_value_more}
use Rattle.tw_text.proofs.Decimals.{run_goes_on, run_ends, run_too_large}
use Rattle.tw_text.proofs.decimal.digits_number.Goals as goal

pub returns-in_err-value-clause-none : goal.returns-in_err-value-clause-none
returns-in_err-value-clause-none c =
    let so_far = c.loop-used.invariant in
    let digit = sym c.is_ascii_digit.ensures.value ∙ c.if-is_ascii_digit.true in
    let within = run_goes_on c.args.bytes.now c.loop-used.used so_far.front c.loop-used-test.true digit in
    rw c.from_residual.ensures (run_too_large c.args.bytes.now c.loop-used.used within (omega (arith, c.in_err-value.ensures.none, so_far.value)))

pub loop-used-preserved : goal.loop-used-preserved
loop-used-preserved c =
    let so_far = c.loop-used.invariant in
    let digit = sym c.is_ascii_digit.ensures.value ∙ c.if-is_ascii_digit.true in
    let within = run_goes_on c.args.bytes.now c.loop-used.used so_far.front c.loop-used-test.true digit in
    record {
      front = omega (arith, within);
      value = omega (arith, c.in_ok-value.ensures.some, so_far.value, digits_value_more 10 c.args.bytes.now c.loop-used.used c.loop-used-test.true);
    }

pub returns-else-is_ascii_digit-clause-value : goal.returns-else-is_ascii_digit-clause-value
returns-else-is_ascii_digit-clause-value c =
    (run_ends c.args.bytes.now _ _ c.loop-used.invariant.front c.loop-used.invariant.value (λ _. sym c.is_ascii_digit.ensures.value ∙ c.if-is_ascii_digit.false)).0

pub returns-else-is_ascii_digit-clause-used : goal.returns-else-is_ascii_digit-clause-used
returns-else-is_ascii_digit-clause-used c =
    (run_ends c.args.bytes.now _ _ c.loop-used.invariant.front c.loop-used.invariant.value (λ _. sym c.is_ascii_digit.ensures.value ∙ c.if-is_ascii_digit.false)).1

pub returns-after-loop-used-clause-value : goal.returns-after-loop-used-clause-value
returns-after-loop-used-clause-value c =
    (run_ends c.args.bytes.now _ _ c.loop-used.invariant.front c.loop-used.invariant.value (λ within. absurd (omega (arith, within, c.loop-used-test.false)))).0

pub returns-after-loop-used-clause-used : goal.returns-after-loop-used-clause-used
returns-after-loop-used-clause-used c =
    (run_ends c.args.bytes.now _ _ c.loop-used.invariant.front c.loop-used.invariant.value (λ within. absurd (omega (arith, within, c.loop-used-test.false)))).1
