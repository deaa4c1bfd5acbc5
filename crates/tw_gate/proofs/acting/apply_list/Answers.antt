use Rattle.std.proofs.Common.{◌∙◌}
use Rattle.tw_gate.proofs.NextGate.{act-next}
use Rattle.tw_gate.proofs.acting.apply_list.Goals as goal

pub loop-place-preserved : goal.loop-place-preserved
loop-place-preserved c = (
  act-next c.args.list.now c.loop-place.place _ c.loop-place.bits c.apply.new.bits _ c.gate.ensures c.apply.ensures.bits c.loop-place.invariant.0,
  c.apply.ensures.len ∙ c.loop-place.invariant.1,
)
