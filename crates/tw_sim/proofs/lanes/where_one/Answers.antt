use Rattle.std.proofs.Common.{◌∙◌}
use Rattle.tw_sim.proofs.WordBits.{where_none, where_more}
use Rattle.tw_sim.proofs.lanes.where_one.Goals as goal

pub loop-wire-init : goal.loop-wire-init
loop-wire-init c = λ place few. where_none place few _

pub loop-wire-preserved : goal.loop-wire-preserved
loop-wire-preserved c = λ place few.
    where_more place c.args.wires.now c.args.words.now c.loop-wire.wire-index c.loop-wire.lanes c.loop-wire-test.true
    ∙ c.loop-wire.invariant place few
