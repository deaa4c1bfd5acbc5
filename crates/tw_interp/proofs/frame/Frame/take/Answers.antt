use Rattle.std.proofs.Common.{◌∙◌, ap, sym}
use Rattle.tw_interp.specs.Frames.{slots_of, store_by, store_of}
use Rattle.tw_interp.proofs.Slots.{no_slot, nothing_taken, store_put}
use Rattle.tw_interp.proofs.frame.Frame.take.Goals as goal

pub returns-in-Some-clause-store : goal.returns-in-Some-clause-store
returns-in-Some-clause-store c = λ names is.
    ap (store_by names) c.take_slot.ensures.slots
    ∙ store_put names c.args.var.now.name.text.now c.in-Some.slot (sym c.in-Some.is ∙ is) (slots_of c.args.self.now) _

pub returns-in-None-clause-store : goal.returns-in-None-clause-store
returns-in-None-clause-store c = λ names is.
    nothing_taken (store_of names c.args.self.now) c.args.var.now.name.text.now (no_slot names (slots_of c.args.self.now) c.args.var.now.name.text.now (sym c.in-None.is ∙ is))
