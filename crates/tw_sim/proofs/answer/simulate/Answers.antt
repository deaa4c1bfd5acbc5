use Rattle.std.proofs.Common.{◌≡◌, ◌∙◌, sym, inr, Result, Err}
use Rattle.std.specs.Result.{IsErrAnd}
use Rattle.std.proofs.lemmas.Result.{err_from_is_err_and}
use Rattle.tw_sim.specs.declared.lines.LinesFault.{LinesFault}
use Rattle.tw_sim.proofs.Laws.{bit_lines-injective, right_not_refused, one_reason}
use Rattle.tw_sim.proofs.answer.simulate.Goals as goal

-- the fault that `?` returns is the one that came
handed_on : {T : Type 0} (result : Result T LinesFault) (came why : LinesFault) → IsErrAnd result (λ fault. fault ≡ came) → result ≡ Err why → why ≡ came
handed_on result came why handed is =
    let p = err_from_is_err_and result handed in
    let told = p.1 in
    let same = p.2 in
    cc

pub returns-in_err-check_lines-clause-refused : goal.returns-in_err-check_lines-clause-refused
returns-in_err-check_lines-clause-refused c = λ why is.
    inr (rw (handed_on c.from_residual.result _ why c.from_residual.ensures.1 is) c.in_err-check_lines.ensures.refused)

pub returns-in_err-check_lines-clause-no_lines : goal.returns-in_err-check_lines-clause-no_lines
returns-in_err-check_lines-clause-no_lines c = λ why is other states right.
    right_not_refused c.args.wires c.args.text.now states _ right c.in_err-check_lines.ensures.refused

pub returns-in_err-check_lines-clause-one_refusal : goal.returns-in_err-check_lines-clause-one_refusal
returns-in_err-check_lines-clause-one_refusal c = λ why is ample other refused.
    one_reason c.args.wires c.args.text.now _ other c.in_err-check_lines.ensures.refused refused
    ∙ sym (handed_on c.from_residual.result _ why c.from_residual.ensures.1 is)

pub returns-in-Ok-clause-only : goal.returns-in-Ok-clause-only
returns-in-Ok-clause-only c = λ states other right right'. bit_lines-injective c.args.wires states other right.wide right'.wide (sym right.spelled ∙ right'.spelled)

pub returns-in-Ok-clause-accepted : goal.returns-in-Ok-clause-accepted
returns-in-Ok-clause-accepted c = λ why. right_not_refused c.args.wires c.args.text.now c.in_ok-check_lines.ensures.right.0 why c.in_ok-check_lines.ensures.right.1
