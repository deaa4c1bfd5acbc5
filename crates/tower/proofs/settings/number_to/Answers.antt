use Rattle.std.proofs.Common.{◌≡◌, ◌∙◌, sym, arith}
use Rattle.std.proofs.lemmas.Fmt.{decimal_injective}
use Rattle.tower.proofs.settings.number_to.Goals as goal

pub returns-else-number-most-clause-none : goal.returns-else-number-most-clause-none
returns-else-number-most-clause-none c = λ n few e.
    let same : n ≡ c.in_ok-number.number = decimal_injective n c.in_ok-number.number (omega (arith, few)) (omega arith) (sym e ∙ (sym c.as_bytes.ensures.value ∙ c.in_ok-number.ensures.some)) in
    omega (arith, same, few, c.if-number-most.false)
