use Rattle.std.proofs.Common.{◌∙◌, sym}
use Rattle.tw_interp.proofs.Slots.{change_put}
use Rattle.tw_interp.proofs.changes.Changes.set.Goals as goal

pub returns-in_ok-insert : goal.returns-in_ok-insert
returns-in_ok-insert c = λ names live is.
    change_put names c.args.var.now.name.text.now c.in-Some.slot (sym c.in-Some.is ∙ is.0) c.args.self.now (record { table = c.insert.new.self }) c.args.is_live
    c.in_ok-insert.ensures.updates.1 (λ s differs. c.in_ok-insert.ensures.updates.2 s differs) live
