use Rattle.std.proofs.Common.{rules, ◌∙◌, ap}
use Rattle.std.proofs.lemmas.List.{with_items_is, places, length-map}
use Rattle.tw_gate.specs.Gates.{inverse}
use Rattle.tw_gate.proofs.Inverse.{inverse_undoes, undoes_inverse}
use Rattle.tw_gate.proofs.Entries.{gates_inverse, places_inverse}
use Rattle.tw_gate.proofs.list.invert.Goals as goal

pub invariant_of-list : goal.invariant_of-list
invariant_of-list c =
    let kept = with_items_is c.list.inside.entries c.invert_entries.new.entries (search (rules, places, length-map)) in
    rw (kept, c.invert_entries.ensures, c.deref_mut.ensures.value) (places_inverse _ c.list.inside.entries.items c.list.invariant)

pub returns-clause-inverted : goal.returns-clause-inverted
returns-clause-inverted c =
    let kept = with_items_is c.list.inside.entries c.invert_entries.new.entries (search (rules, places, length-map)) in
    rw (kept, c.invert_entries.ensures, c.deref_mut.ensures.value)
    (gates_inverse c.list.inside.pool.items c.list.inside.entries.items ∙ ap inverse c.list.view_is)

pub returns-clause-undone : goal.returns-clause-undone
returns-clause-undone c = inverse_undoes _ _ (returns-clause-inverted c)

pub returns-clause-undoes : goal.returns-clause-undoes
returns-clause-undoes c = undoes_inverse _ _ (returns-clause-inverted c)
