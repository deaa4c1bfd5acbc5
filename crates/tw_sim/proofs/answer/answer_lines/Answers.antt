use Rattle.std.proofs.Common.{◌∙◌}
use Rattle.tw_sim.proofs.Answered.{right_left, answered_more, answered_all}
use Rattle.tw_sim.proofs.Reading.{no_bytes}
use Rattle.tw_sim.proofs.answer.answer_lines.Goals as goal

pub answer_block-requires-clause-right : goal.answer_block-requires-clause-right
answer_block-requires-clause-right c =
    rw (c.deref_mut.ensures.len ∙ c.loop-rest.invariant.size) (right_left c.loop-rest.invariant.begun c.requires.right)

pub loop-rest-preserved : goal.loop-rest-preserved
loop-rest-preserved c =
    let next = rw (c.deref_mut.ensures.len ∙ c.loop-rest.invariant.size) at c.in_ok-rest.ensures.answered in
    record { begun = answered_more c.in_ok-rest.rest.now c.answer_block.new.answer.items c.loop-rest.invariant.begun next; size = c.loop-rest.invariant.size }

pub returns : goal.returns
returns c = answered_all c.loop-rest.invariant.begun c.requires.right (no_bytes c.loop-rest.rest.now _ c.is_empty.ensures c.loop-rest-test.false)
