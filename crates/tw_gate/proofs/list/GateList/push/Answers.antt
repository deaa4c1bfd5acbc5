use Rattle.std.proofs.Common.{◌∙◌}
use Rattle.std.proofs.lemmas.Result.{err_from_is_err_and}
use Rattle.tw_gate.proofs.Entries.{gates_unnamed, gates_push, places_push}
use Rattle.tw_gate.proofs.list.GateList.push.Goals as goal

pub returns-in_err-push-clause-unchanged : goal.returns-in_err-push-clause-unchanged
returns-in_err-push-clause-unchanged c =
    let p = err_from_is_err_and c.from_residual-in_err-push.result c.from_residual-in_err-push.ensures.1 in
    rw (p.1, c.in_err-push.ensures.items) (gates_unnamed _ _ _ _ c.in_ok-entry.ensures.grown c.self.invariant ∙ c.self.view_is)

pub invariant_of-self-2 : goal.invariant_of-self-2
invariant_of-self-2 c = rw c.in_ok-push.ensures.items (places_push _ _ _ _ _ c.in_ok-entry.ensures.grown c.self.invariant c.in_ok-entry.ensures.within)

pub returns-clause-appended : goal.returns-clause-appended
returns-clause-appended c = rw (c.in_ok-push.ensures.items, ← c.self.view_is) (gates_push _ _ _ _ _ _ c.in_ok-entry.ensures.grown c.self.invariant c.in_ok-entry.ensures.named)
