use Rattle.std.proofs.Common.{◌∙◌, ap, sym}
use Rattle.tw_interp.specs.Frames.{slots_of, store_by}
use Rattle.tw_interp.proofs.Changing.{on_ok}
use Rattle.tw_interp.proofs.Slots.{store_put}
use Rattle.tw_interp.proofs.frame.Frame.set.Goals as goal

pub returns-in-Some : goal.returns-in-Some
returns-in-Some c =
    on_ok c.set_slot.result
    (λ put names is. ap (store_by names) put ∙ store_put names c.args.var.now.name.text.now c.in-Some.slot (sym c.in-Some.is ∙ is.0) (slots_of c.args.self.now) _)
    c.set_slot.ensures
