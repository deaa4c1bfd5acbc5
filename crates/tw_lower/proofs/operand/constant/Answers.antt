use Rattle.tw_lower.proofs.Constants.{bit_pushed}
use Rattle.tw_lower.proofs.operand.constant.Goals as goal

pub loop-preserved : goal.loop-preserved
loop-preserved c = rw c.in_ok-push.ensures.items (bit_pushed c.loop.bits.items _ c.args.width c.loop.counter c.loop.rest c.loop-test.true c.loop.invariant)
