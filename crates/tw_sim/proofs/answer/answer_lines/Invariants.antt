use Rattle.std.proofs.Common.{◌≡◌, length, vec_len}
use Rattle.tw_sim.proofs.Answered.{AreAnswered}
use Rattle.tw_sim.proofs.answer.answer_lines.Given as goal

abbrev pub invariant-loop-rest : goal.invariant-loop-rest
invariant-loop-rest l = record { begun : AreAnswered l.wires l.gates l.text l.rest l.answer.items; size : vec_len l.words ≡ l.wires }

abbrev pub decreases-loop-rest : goal.decreases-loop-rest
decreases-loop-rest l = length l.rest
