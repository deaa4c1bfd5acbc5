use Rattle.tw_arith.proofs.Built.{copies_pushed}
use Rattle.tw_arith.proofs.load.copies.Goals as goal

pub loop-i-preserved : goal.loop-i-preserved
loop-i-preserved c = rw c.in_ok-push.ensures.items (copies_pushed _ _ _ _ _ _ _ c.loop-i-test.true c.in_ok-flip.ensures c.loop-i.invariant)
