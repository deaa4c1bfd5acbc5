use Rattle.std.proofs.Common.{◌≡◌, ◌+◌, ◌-◌, length}
use Rattle.tw_interp.specs.Frames.{slots_of}
use Rattle.tw_interp.proofs.frame.Frame.reach.Given as goal

abbrev pub invariant-loop-self : goal.invariant-loop-self
invariant-loop-self l = slots_of l.self ≡ slots_of l.initial.self

abbrev pub decreases-loop-self : goal.decreases-loop-self
decreases-loop-self l = l.slot + 1 - length l.self.values.items
