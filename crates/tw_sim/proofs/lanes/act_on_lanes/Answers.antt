use Rattle.std.proofs.Common.{◌∙◌, ap, cond}
use Rattle.tw_bits.specs.Lists.{flipped}
use Rattle.tw_sim.specs.Lanes.{lane}
use Rattle.tw_sim.proofs.WordBits.{lane-xor}
use Rattle.tw_sim.proofs.lanes.act_on_lanes.Goals as goal

pub returns-in-X-clause-acted : goal.returns-in-X-clause-acted
returns-in-X-clause-acted c = λ place few.
    let before = lane place c.args.words.now in
    rw c.in-X.is
    (lane-xor place c.args.words.now c.in-X.target c.where_one-flips.result
    ∙ ap (λ b. cond b (flipped before c.in-X.target) before) (c.where_one-flips.ensures place few))
