use Rattle.std.proofs.Common.{◌≡◌, ◌++◌, map, drop}
use Rattle.tw_sim.specs.BitLines.{bit_digit}
use Rattle.tw_sim.specs.Lanes.{lane}
use Rattle.tw_sim.proofs.transpose.store_lane.Given as goal

abbrev pub invariant-loop-word : goal.invariant-loop-word
invariant-loop-word l =
    l.text.items ++ map bit_digit (lane l.place (drop l.word-index l.words)) ≡ l.initial.text.items ++ map bit_digit (lane l.place l.words)
