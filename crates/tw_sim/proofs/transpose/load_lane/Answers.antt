use Rattle.std.proofs.Common.{arith}
use Rattle.tw_sim.proofs.Loading.{loading_none, loading_more}
use Rattle.tw_sim.proofs.transpose.load_lane.Goals as goal

pub loop-wire-init : goal.loop-wire-init
loop-wire-init c = loading_none c.args.place c.args.digits.now c.args.words.now c.requires.zero

pub loop-wire-preserved : goal.loop-wire-preserved
loop-wire-preserved c = loading_more c.from.result c.requires.place (omega arith) (omega arith) c.from.ensures c.loop-wire.invariant
