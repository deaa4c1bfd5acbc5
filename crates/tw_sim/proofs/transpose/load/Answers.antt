use Rattle.std.proofs.Common.{arith, length}
use Rattle.tw_sim.proofs.Blocks.{loaded_none, loaded_next, loaded_more}
use Rattle.tw_sim.proofs.Reading.{some_bytes}
use Rattle.tw_sim.proofs.transpose.load.Goals as goal

pub loop-place-init : goal.loop-place-init
loop-place-init c = loaded_none c.args.text.now c.fill.new.self _ (c.fill.ensures.after (λ y same. same))

pub load_line-rest-requires-clause-line : goal.load_line-rest-requires-clause-line
load_line-rest-requires-clause-line c =
    loaded_next (length c.args.words.now) (omega arith) c.loop-place.invariant c.requires (some_bytes c.loop-place.rest.now _ c.is_empty.ensures c.if-not-is_empty.true)

pub loop-place-preserved : goal.loop-place-preserved
loop-place-preserved c =
    loaded_more c.load_line-rest.new.words c.load_line-rest.result.now c.loop-place.invariant (omega arith) c.load_line-rest.ensures.len c.load_line-rest.ensures.lane c.load_line-rest.ensures.others
