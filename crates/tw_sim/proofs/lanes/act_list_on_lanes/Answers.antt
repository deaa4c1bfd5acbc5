use Rattle.std.proofs.Common.{◌∙◌}
use Rattle.tw_sim.specs.Lanes.{lane}
use Rattle.tw_gate.proofs.NextGate.{act-next}
use Rattle.tw_sim.proofs.lanes.act_list_on_lanes.Goals as goal

pub loop-place-preserved : goal.loop-place-preserved
loop-place-preserved c = (
  λ at few.
      act-next c.args.gates.now c.loop-place.place _ (lane at c.loop-place.words) (lane at c.act_on_lanes.new.words) _ c.gate.ensures
      (c.act_on_lanes.ensures.acted at few)
      (c.loop-place.invariant.0 at few),
  c.act_on_lanes.ensures.len ∙ c.loop-place.invariant.1,
)
