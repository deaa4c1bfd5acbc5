use Rattle.std.proofs.Common.{refl, arith}
use Rattle.tw_gate.specs.Gates.{plain}
use Rattle.tw_gatetext.specs.Reading.{head_seen}
use Rattle.tw_gatetext.proofs.Bounds.{HasFewControls-fits}
use Rattle.tw_gatetext.proofs.BodyLines.{no_words, no_fit, gate_steps}
use Rattle.tw_gatetext.proofs.text_reading.pass_gate.Goals as goal

pub returns-in_default-clause-refused : goal.returns-in_default-clause-refused
returns-in_default-clause-refused c gates more =
    let head = head_seen c.args.header.now in
    c.refused_gate_line.ensures.refused head gates refl more (no_words head gates c.args.bytes.now (omega (arith, c.requires.few_wires)) more c.in_default.ensures.none)

pub returns-in_default-right_gate-clause-refused : goal.returns-in_default-right_gate-clause-refused
returns-in_default-right_gate-clause-refused c gates more =
    let head = head_seen c.args.header.now in
    c.refused_gate_line-in_default-right_gate.ensures.refused head gates refl more
    (no_fit head gates c.args.bytes.now _ _ _ (omega (arith, c.requires.few_wires)) more c.in-Some.ensures.some.0 c.in-Some.ensures.numbers c.in-Some.ensures.some.1 c.in_default-right_gate.ensures.none)

pub returns-clause-right : goal.returns-clause-right
returns-clause-right c =
    let head = head_seen c.args.header.now in
    let gate = plain c.in-Some-right_gate.gate in
    let fits = c.in-Some-right_gate.ensures.some in
    (gate, HasFewControls-fits head.level gate fits.0, c.t_count.ensures, λ gates more. gate_steps head gates gate c.args.bytes.now _ _ _ more fits.0 fits.1 fits.2 fits.3 c.in-Some.ensures.some.1)
