use Rattle.tw_gatetext.proofs.WordsOfLines.{no_line, numbers-behind}
use Rattle.tw_gatetext.proofs.gate_words.line_words.Goals as goal

pub returns-in_err-letters-clause-none : goal.returns-in_err-letters-clause-none
returns-in_err-letters-clause-none c = rw c.from_residual.ensures (λ word ns rest none are e. no_line c.args.bytes.now word ns rest c.in_err-letters.ensures.none are e)

pub returns-in_err-count-clause-none : goal.returns-in_err-count-clause-none
returns-in_err-count-clause-none c =
    rw c.from_residual-in_err-count.ensures
    (λ word ns rest none are e.
    let found = c.in_ok-letters.ensures in
    c.in_err-count.ensures.none ns rest are.few are.small
    (numbers-behind c.args.bytes.now _ _ found.space.0 word ns rest found.some.0 found.some.1 found.space.1 none are e))
