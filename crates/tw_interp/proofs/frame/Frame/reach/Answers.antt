use Rattle.std.proofs.Common.{◌∙◌, ap}
use Rattle.tw_interp.specs.Frames.{slots_in}
use Rattle.tw_interp.proofs.Slots.{no_more}
use Rattle.tw_interp.proofs.frame.Frame.reach.Goals as goal

pub loop-self-preserved : goal.loop-self-preserved
loop-self-preserved c = ap slots_in c.in_ok-push.ensures.items ∙ no_more c.loop-self.self.values.items ∙ c.loop-self.invariant
