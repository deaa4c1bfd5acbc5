use Rattle.std.proofs.Common.{refl, arith}
use Rattle.tw_ground.proofs.MakingLists.{free_step, free_done}
use Rattle.tw_ground.proofs.making.push_free.Goals as goal

pub loop-place-preserved : goal.loop-place-preserved
loop-place-preserved c =
    free_step c.loop-place.cells.items c.push.new.self.items _ _ c.args.blocks c.loop-place.place c.first_of.result c.loop-place-test.true c.in_ok-push.ensures.items refl c.first_of.ensures c.loop-place.invariant

pub returns : goal.returns
returns c =
    record { cells = free_done c.loop-place.cells.items _ _ c.loop-place.place (omega (arith, c.loop-place-test.false)) c.loop-place.invariant }
