use Rattle.std.proofs.Common.{rules, ◌∙◌, ◌<◌, ◌^◌, ap, sym, arith, decimal, ◌++◌}
use Rattle.std.proofs.lemmas.Fmt.{decimal_injective}
use Rattle.tw_text.proofs.Prefixes.{append-after}
use Rattle.tw_state.proofs.ReadPrefixes.{not_after, delimits-append, digits_told}
use Rattle.tw_state.proofs.number_text.number_before.Goals as goal

pub returns-in_err-number-clause-none : goal.returns-in_err-number-clause-none
returns-in_err-number-clause-none c =
    rw c.from_residual.ensures
    (λ delimits number rest within e.
    let small : number < 2 ^ 64 = grind (arith, within, c.ranges.most.fits) in
    c.in_err-number.ensures.none number small (digits_told number c.args.bytes.now _ _ _ small (delimits-append c.args.tail.now rest delimits) c.split_digits.ensures.run c.split_digits.ensures.parts e).0)

pub returns-then-number-most-clause-none : goal.returns-then-number-most-clause-none
returns-then-number-most-clause-none c delimits number rest within e =
    let small : number < 2 ^ 64 = grind (arith, within, c.ranges.most.fits) in
    let told = (digits_told number c.args.bytes.now _ _ _ small (delimits-append c.args.tail.now rest delimits) c.split_digits.ensures.run c.split_digits.ensures.parts e).0 in
    let read : c.in_ok-number.number < 2 ^ 64 = search rules in
    let same = decimal_injective number c.in_ok-number.number small read (sym told ∙ c.in_ok-number.ensures.some) in
    omega (arith, same, within, c.if-number-most.true)

pub returns-in_err-rest-clause-none : goal.returns-in_err-rest-clause-none
returns-in_err-rest-clause-none c =
    rw c.from_residual-in_err-rest.ensures
    (λ delimits number rest within e.
    let small : number < 2 ^ 64 = grind (arith, within, c.ranges.most.fits) in
    not_after c.args.tail.now c.split_digits.result.1.now rest c.in_err-rest.ensures
    (digits_told number c.args.bytes.now _ _ _ small (delimits-append c.args.tail.now rest delimits) c.split_digits.ensures.run c.split_digits.ensures.parts e).1)

pub returns-clause-some : goal.returns-clause-some
returns-clause-some c = (
  omega (arith, c.if-number-most.false),
  c.split_digits.ensures.parts
      ∙ ap (λ d. d ++ c.split_digits.result.1.now) c.in_ok-number.ensures.some
      ∙ ap (λ t. decimal c.in_ok-number.number ++ t) (append-after c.args.tail.now c.split_digits.result.1.now _ (sym c.in_ok-rest.ensures)),
)
