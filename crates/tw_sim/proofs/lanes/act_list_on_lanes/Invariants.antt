use Rattle.std.proofs.Common.{◌≡◌, ℕ, ◌<◌, drop, length}
use Rattle.tw_gate.specs.Gates.{act}
use Rattle.tw_sim.specs.Lanes.{lane}
use Rattle.tw_sim.proofs.lanes.act_list_on_lanes.Given as goal

abbrev pub invariant-loop-place : goal.invariant-loop-place
invariant-loop-place l =
    ((lane_place : ℕ) → lane_place < 64 → act (drop l.place l.gates) (lane lane_place l.words) ≡ act l.gates (lane lane_place l.initial.words)) × (length l.words ≡ length l.initial.words)
