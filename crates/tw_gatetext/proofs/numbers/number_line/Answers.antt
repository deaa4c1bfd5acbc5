use Rattle.std.proofs.Common.{rules, ◌∙◌, ap, sym, decimal, ◌++◌, [], codes}
use Rattle.tw_text.proofs.Prefixes.{append-after}
use Rattle.tw_gatetext.proofs.Delimited.{ends}
use Rattle.tw_gatetext.proofs.DigitRuns.{not_after, run-told, number-told}
use Rattle.tw_gatetext.proofs.numbers.number_line.Goals as goal

pub returns-in_err-number-clause-none : goal.returns-in_err-number-clause-none
returns-in_err-number-clause-none c =
    rw c.from_residual.ensures (λ number rest small e. c.in_err-number.ensures.none number small (run-told number c.args.bytes.now _ small (ends [] rest) e))

pub returns-in_err-rest-clause-none : goal.returns-in_err-rest-clause-none
returns-in_err-rest-clause-none c =
    rw c.from_residual-in_err-rest.ensures
    (λ number rest small e.
    not_after (codes "\n") c.in_ok-number.behind.now rest c.in_err-rest.ensures
    (number-told number c.in_ok-number.number c.args.bytes.now _ _ small (search rules) (ends [] rest) c.in_ok-number.ensures.whole c.in_ok-number.ensures.some e).1)

pub returns-clause-some : goal.returns-clause-some
returns-clause-some c =
    c.in_ok-number.ensures.some ∙ ap (λ t. decimal c.in_ok-number.number ++ t) (append-after (codes "\n") c.in_ok-number.behind.now _ (sym c.in_ok-rest.ensures))
