use Rattle.tw_types.specs.FromCode.{ty_of}
use Rattle.tw_resolve.specs.Sizes.{IsSized}
use Rattle.tw_resolve.proofs.Inserting.{found_after, values_after}
use Rattle.tw_resolve.proofs.type_table.TypeTable.put.Goals as goal

pub invariant_of-self : goal.invariant_of-self
invariant_of-self c =
    let old = c.args.self.now in
    record {
      sized = values_after (IsSized old.widths) _ c.args.name c.args.sized old.table.entries c.insert.new.self.entries c.insert.result
          c.insert.ensures.entries c.insert.ensures.err c.requires old.sized;
    }

pub returns-clause-types : goal.returns-clause-types
returns-clause-types c = λ other.
    found_after (λ sized. ty_of sized.ty) c.args.name.now other c.args.sized _ _ (c.in_ok-insert.ensures.updates.0 (record { ref_ptr = (0, 0); now = other }))
