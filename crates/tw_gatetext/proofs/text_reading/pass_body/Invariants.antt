use Rattle.std.proofs.Common.{List}
use Rattle.tw_gate.specs.Gates.{PlainGate}
use Rattle.tw_gatetext.specs.Reading.{head_seen}
use Rattle.tw_gatetext.proofs.TakenGates.{HasTaken}
use Rattle.tw_gatetext.proofs.text_reading.pass_body.Given as goal

abbrev pub invariant-loop-lines : goal.invariant-loop-lines
invariant-loop-lines l = (gates : List PlainGate) × HasTaken (head_seen l.header) l.bytes l.lines gates l.sum l.rest
