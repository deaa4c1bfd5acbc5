use Rattle.std.proofs.Common.{refl}
use Rattle.tw_gatetext.specs.Refused.{wires_limit}
use Rattle.tw_gatetext.specs.Lines.{AtWires}
use Rattle.tw_gatetext.proofs.HeaderLines.{refused_limited, wires_steps, no_wires}
use Rattle.tw_gatetext.proofs.header.wires_line.Goals as goal

pub returns-in-Some-clause-right : goal.returns-in-Some-clause-right
returns-in-Some-clause-right c = λ level.
    wires_steps level c.in-Some.wires c.args.bytes.now c.in-Some.rest.now c.in-Some.ensures.some.1 c.in-Some.ensures.some.2 c.in-Some.ensures.some.0

pub returns-in-None-clause-refused : goal.returns-in-None-clause-refused
returns-in-None-clause-refused c = λ level.
    refused_limited (AtWires level) wires_limit c.args.bytes.now 3 c.refused_line.result tt refl
    (no_wires level c.args.bytes.now c.in-None.ensures.none) c.refused_line.ensures
