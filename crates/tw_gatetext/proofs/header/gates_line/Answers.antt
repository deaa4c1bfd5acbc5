use Rattle.std.proofs.Common.{refl}
use Rattle.tw_gatetext.specs.Refused.{gates_limit}
use Rattle.tw_gatetext.specs.Lines.{AtGates}
use Rattle.tw_gatetext.proofs.HeaderLines.{refused_limited, gates_steps, no_gates}
use Rattle.tw_gatetext.proofs.header.gates_line.Goals as goal

pub returns-in-Some-clause-right : goal.returns-in-Some-clause-right
returns-in-Some-clause-right c = λ level wires.
    gates_steps level wires c.in-Some.gates c.args.bytes.now c.in-Some.rest.now c.in-Some.ensures.some.2 c.in-Some.ensures.some.0

pub returns-in-None-clause-refused : goal.returns-in-None-clause-refused
returns-in-None-clause-refused c = λ level wires.
    refused_limited (AtGates level wires) gates_limit c.args.bytes.now 4 c.refused_line.result tt refl
    (no_gates level wires c.args.bytes.now c.in-None.ensures.none) c.refused_line.ensures
