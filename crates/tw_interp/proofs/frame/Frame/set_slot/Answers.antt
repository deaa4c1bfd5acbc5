use Rattle.std.proofs.Common.{◌∙◌, ap, Some}
use Rattle.tw_types.specs.FromCode.{value_of}
use Rattle.tw_interp.specs.Frames.{Slots, with_slot}
use Rattle.tw_interp.proofs.Slots.{slot_written}
use Rattle.tw_interp.proofs.frame.Frame.set_slot.Goals as goal

pub returns : goal.returns
returns c =
    slot_written c.reach.new.self.values.items c.args.slot c.args.val c.in_ok-reach.ensures.reached
    ∙ ap (λ (s : Slots). with_slot s c.args.slot (Some (value_of c.args.val))) c.reach.ensures.kept
