use Rattle.std.proofs.Common.{◌≡◌, List, length}
use Rattle.tw_gate.specs.Gates.{PlainGate}
use Rattle.tw_gatetext.specs.Text.{lines}
use Rattle.tw_gatetext.specs.Inverting.{HaveSmallNumbers}
use Rattle.tw_gatetext.proofs.ReversedLines.{Reverses}
use Rattle.tw_gatetext.proofs.inverting.write_reversed.Given as goal

abbrev pub invariant-loop-rest : goal.invariant-loop-rest
invariant-loop-rest g l =
    let k = g.K.Sink in
    (gates : List PlainGate) → HaveSmallNumbers gates → l.fn.text ≡ lines gates → Reverses k.taken k.faults l.fn.sink l.sink gates l.chunk.items l.rest

abbrev pub decreases-loop-rest : goal.decreases-loop-rest
decreases-loop-rest g l = length l.rest
