use Rattle.std.proofs.Common.{sym, subst, inr, refl, arith, List}
use Rattle.tw_gate.specs.Gates.{PlainGate, plain}
use Rattle.tw_gatetext.specs.Lines.{InBody, StepsTo}
use Rattle.tw_gatetext.specs.Reading.{head_seen}
use Rattle.tw_gatetext.proofs.BodyLines.{no_words, no_fit, gate_steps}
use Rattle.tw_gatetext.proofs.reading.take_gate.Goals as goal

pub returns-in_default-clause-refused : goal.returns-in_default-clause-refused
returns-in_default-clause-refused c =
    let head = head_seen c.args.header.now in
    inr
    (c.refused_gate_line.ensures.refused head c.args.gates.now refl c.requires.more
    (no_words head c.args.gates.now c.args.bytes.now (omega (arith, c.requires.few_wires)) c.requires.more c.in_default.ensures.none))

pub returns-in_default-right_gate-clause-refused : goal.returns-in_default-right_gate-clause-refused
returns-in_default-right_gate-clause-refused c =
    let head = head_seen c.args.header.now in
    inr
    (c.refused_gate_line-in_default-right_gate.ensures.refused head c.args.gates.now refl c.requires.more
    (no_fit head c.args.gates.now c.args.bytes.now _ _ _ (omega (arith, c.requires.few_wires)) c.requires.more c.in-Some.ensures.some.0 c.in-Some.ensures.numbers c.in-Some.ensures.some.1 c.in_default-right_gate.ensures.none))

pub returns-in-Ok-clause-right : goal.returns-in-Ok-clause-right
returns-in-Ok-clause-right c =
    let head = head_seen c.args.header.now in
    let fits = c.in-Some-right_gate.ensures.some in
    subst (λ (gs : List PlainGate). StepsTo (InBody head c.args.gates.now) c.args.bytes.now (InBody head gs) c.in-Some.words.rest.now) (sym c.in-Ok.ensures.appended)
    (gate_steps head c.args.gates.now (plain c.in-Some-right_gate.gate) c.args.bytes.now _ _ _ c.requires.more fits.0 fits.1 fits.2 fits.3 c.in-Some.ensures.some.1)
