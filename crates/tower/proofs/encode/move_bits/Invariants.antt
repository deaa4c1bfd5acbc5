use Rattle.tower.proofs.Encoding.{AreMoved}
use Rattle.tower.proofs.encode.move_bits.Given as goal

abbrev pub invariant-loop-place : goal.invariant-loop-place
invariant-loop-place l = AreMoved l.place l.initial.bits l.bits l.line
