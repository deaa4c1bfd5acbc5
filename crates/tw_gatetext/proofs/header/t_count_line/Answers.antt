use Rattle.std.proofs.Common.{◌∙◌, ap, sym, List, ℕ, ◌++◌, codes}
use Rattle.std.proofs.lemmas.Option.{IfSome_then}
use Rattle.tw_text.proofs.Prefixes.{append-after}
use Rattle.tw_gatetext.proofs.DigitRuns.{not_after}
use Rattle.tw_gatetext.proofs.HeaderLines.{IfNone_then, behind_front, t_count_steps, no_t_count}
use Rattle.tw_gatetext.proofs.header.t_count_line.Goals as goal

pub returns-in_err-after-clause-none : goal.returns-in_err-after-clause-none
returns-in_err-after-clause-none c =
    rw c.from_residual.ensures
    (λ level wires gates. no_t_count level wires gates c.args.bytes.now (λ numeral rest is. not_after (codes "t-count ") c.args.bytes.now _ c.in_err-after.ensures))

pub returns-clause-some : goal.returns-clause-some
returns-clause-some c =
    IfSome_then c.numeral_line.result c.numeral_line.ensures.some
    (λ read is level wires gates.
    t_count_steps level wires gates read.0.now c.args.bytes.now read.1.now is.0
    (append-after (codes "t-count ") c.args.bytes.now _ (sym c.in_ok-after.ensures) ∙ ap (λ (t : List ℕ). codes "t-count " ++ t) is.1))

pub returns-clause-none : goal.returns-clause-none
returns-clause-none c =
    IfNone_then c.numeral_line.result c.numeral_line.ensures.none
    (λ none level wires gates.
    no_t_count level wires gates c.args.bytes.now (λ numeral rest is e. none numeral rest is (behind_front (codes "t-count ") c.args.bytes.now _ _ c.in_ok-after.ensures e)))
