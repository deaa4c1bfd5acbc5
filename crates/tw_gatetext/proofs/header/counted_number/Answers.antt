use Rattle.std.proofs.Common.{◌≡◌, ◌∙◌, ap, sym, List, ℕ, ◌++◌, arith, rules}
use Rattle.tw_text.proofs.Prefixes.{append-after}
use Rattle.tw_gatetext.proofs.DigitRuns.{not_after}
use Rattle.tw_gatetext.proofs.HeaderLines.{behind_front, number_read}
use Rattle.tw_gatetext.proofs.header.counted_number.Goals as goal
use Rattle.tw_gatetext.proofs.header.counted_number.Goals.{else-least-number-via-then-least-number+else-number-limit, else-least-number-via-else-least-number}

pub returns-in_err-behind-clause-none : goal.returns-in_err-behind-clause-none
returns-in_err-behind-clause-none c = rw c.from_residual.ensures (λ n rest some few is. not_after c.args.limit.now.word.now c.args.bytes.now _ c.in_err-behind.ensures is)

pub returns-in_err-number-clause-none : goal.returns-in_err-number-clause-none
returns-in_err-number-clause-none c =
    rw c.from_residual-in_err-number.ensures
    (λ n rest some few is. c.in_err-number.ensures.none n rest (omega (arith, c.requires)) (behind_front c.args.limit.now.word.now c.args.bytes.now _ _ c.in_ok-behind.ensures is))

pub returns-then-number-limit-clause-some : goal.returns-then-number-limit-clause-some
returns-then-number-limit-clause-some c = (
  append-after c.args.limit.now.word.now c.args.bytes.now _ (sym c.in_ok-behind.ensures) ∙ ap (λ (t : List ℕ). c.args.limit.now.word.now ++ t) c.in_ok-number.ensures.some,
  c.if-least-number.true,
  omega (arith, c.if-number-limit.true, c.limit.ensures),
)

pub returns-else-least-number-clause-none : goal.returns-else-least-number-clause-none
returns-else-least-number-clause-none c = λ n rest some few is.
    let same : n ≡ c.in_ok-number.number =
    number_read c.args.limit.now.word.now c.args.bytes.now _ rest n c.in_ok-number.number _ c.in_ok-behind.ensures c.in_ok-number.ensures.some (omega (arith, c.requires)) (search rules) is in
    elim c.else-least-number.branch [ else-least-number-via-then-least-number+else-number-limit w ↦ omega (arith, w.if-number-limit, w.limit.ensures) | else-least-number-via-else-least-number w ↦ omega (arith, w.if-least-number) ]
