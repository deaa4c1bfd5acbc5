use Rattle.std.proofs.Common.{◌≡◌, drop, length}
use Rattle.tw_gate.specs.Gates.{act}
use Rattle.tw_gate.proofs.acting.apply_list.Given as goal

abbrev pub invariant-loop-place : goal.invariant-loop-place
invariant-loop-place l = (act (drop l.place l.list) l.bits ≡ act l.list l.initial.bits) × (length l.bits ≡ length l.initial.bits)
