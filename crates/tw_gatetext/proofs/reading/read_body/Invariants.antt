use Rattle.tw_gatetext.specs.Reading.{head_seen}
use Rattle.tw_gatetext.proofs.TakenGates.{HasTaken}
use Rattle.tw_gatetext.proofs.reading.read_body.Given as goal

abbrev pub invariant-loop-lines : goal.invariant-loop-lines
invariant-loop-lines l = HasTaken (head_seen l.header) l.bytes l.lines l.gates l.t_count l.rest
