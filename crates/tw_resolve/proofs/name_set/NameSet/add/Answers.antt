use Rattle.tw_resolve.proofs.Inserting.{name_after}
use Rattle.tw_resolve.proofs.name_set.NameSet.add.Goals as goal

pub returns-clause-members : goal.returns-clause-members
returns-clause-members c = λ other.
    name_after c.args.name.now other _ _ (c.in_ok-insert.ensures.updates.0 (record { ref_ptr = (0, 0); now = other }))
