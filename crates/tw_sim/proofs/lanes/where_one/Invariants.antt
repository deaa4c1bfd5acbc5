use Rattle.std.proofs.Common.{◌≡◌, ℕ, ◌<◌, ◌&&◌, drop}
use Rattle.tw_gate.specs.Gates.{all_one}
use Rattle.tw_sim.specs.Lanes.{number_bit, lane}
use Rattle.tw_sim.proofs.lanes.where_one.Given as goal

abbrev pub invariant-loop-wire : goal.invariant-loop-wire
invariant-loop-wire l =
    (place : ℕ) → place < 64 → all_one (drop l.wire-index l.wires) (lane place l.words) && number_bit place l.lanes ≡ all_one l.wires (lane place l.words)
