use Rattle.tw_sim.proofs.Reading.{AreRead}
use Rattle.tw_sim.proofs.lines.check_lines.Given as goal

abbrev pub invariant-loop-line : goal.invariant-loop-line
invariant-loop-line l = AreRead l.wires l.text l.rest l.line
