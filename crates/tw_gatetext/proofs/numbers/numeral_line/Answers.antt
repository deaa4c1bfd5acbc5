use Rattle.std.proofs.Common.{◌∙◌, ap, sym, ◌++◌, codes}
use Rattle.tw_text.proofs.Prefixes.{append-after}
use Rattle.tw_gatetext.proofs.DigitRuns.{not_after, numeral-read, numeral-shown, numeral-behind}
use Rattle.tw_gatetext.proofs.numbers.numeral_line.Goals as goal

pub returns-in_err-_number-clause-none : goal.returns-in_err-_number-clause-none
returns-in_err-_number-clause-none c =
    rw c.from_residual.ensures (λ numeral rest is e. c.in_err-_number.ensures.none is.number (numeral-shown c.args.bytes.now numeral rest is e))

pub returns-in_err-rest-clause-none : goal.returns-in_err-rest-clause-none
returns-in_err-rest-clause-none c =
    rw c.from_residual-in_err-rest.ensures
    (λ numeral rest is e.
    not_after (codes "\n") c.split_digits.result.1.now rest c.in_err-rest.ensures
    (numeral-behind c.args.bytes.now _ _ numeral rest c.split_digits.ensures.run c.split_digits.ensures.parts is e))

pub returns-clause-some : goal.returns-clause-some
returns-clause-some c = (
  numeral-read c.args.bytes.now _ _ c.split_digits.ensures.run c.in_ok-_number.ensures.some,
  c.split_digits.ensures.parts ∙ ap (λ t. c.split_digits.result.0.now ++ t) (append-after (codes "\n") c.split_digits.result.1.now _ (sym c.in_ok-rest.ensures)),
)
