use Rattle.std.proofs.Common.{◌↔◌, drop}
use Rattle.tw_gatetext.proofs.Controls.{MayFollow}
use Rattle.tw_gatetext.proofs.gate_fits.controls_fit.Given as goal

abbrev pub invariant-loop-control : goal.invariant-loop-control
invariant-loop-control l = MayFollow l.wires l.target 0 l.controls ↔ MayFollow l.wires l.target l.least (drop l.control-index l.controls)
