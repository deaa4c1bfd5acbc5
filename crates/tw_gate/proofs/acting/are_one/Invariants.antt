use Rattle.std.proofs.Common.{◌≡◌, drop}
use Rattle.tw_gate.specs.Gates.{all_one}
use Rattle.tw_gate.proofs.acting.are_one.Given as goal

abbrev pub invariant-loop-wire : goal.invariant-loop-wire
invariant-loop-wire l = all_one (drop l.wire-index l.wires) l.bits ≡ all_one l.wires l.bits
