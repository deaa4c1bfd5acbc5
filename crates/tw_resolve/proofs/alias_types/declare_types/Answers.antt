use Rattle.tw_syntax.specs.Programs.{alias_tree}
use Rattle.tw_resolve.specs.Entries.{aliases_in}
use Rattle.tw_resolve.specs.Searches.{names_in}
use Rattle.tw_resolve.proofs.Opening.{found_types, found_complete, found_finite}
use Rattle.tw_resolve.proofs.Running.{kept_twice, resolved_kept, opened_kept, opened_all}
use Rattle.tw_resolve.proofs.TextOrder.{declared_at}
use Rattle.tw_resolve.proofs.alias_types.declare_types.Goals as goal

pub find_type-requires-clause-declared : goal.find_type-requires-clause-declared
find_type-requires-clause-declared c =
    declared_at (aliases_in c.loop-place.tables.aliases.table.entries) c.loop-place.place (alias_tree c.alias_at-alias.result.now) c.alias_at-alias.ensures

pub loop-place-preserved : goal.loop-place-preserved
loop-place-preserved c =
    let told = c.in_ok-find_type.ensures in
    record {
      kept = kept_twice c.loop-place.invariant.kept c.find_type.ensures.kept;
      resolved = resolved_kept c.loop-place.tables c.find_type.new.tables c.find_type.ensures.kept c.loop-place.invariant.resolved;
      state = told.state;
      done = told.done;
      opened = opened_kept c.loop-place.tables c.find_type.new.tables c.find_type.ensures.kept _ _ c.loop-place.place (alias_tree c.alias_at-alias.result.now)
          c.alias_at-alias.ensures told.opened told.named c.loop-place.invariant.opened;
    }

pub returns-clause-types : goal.returns-clause-types
returns-clause-types c =
    let l = c.loop-place in
    found_types l.tables l.search l.invariant.state l.invariant.done
    (opened_all c.args.tables.now l.tables l.invariant.kept (names_in l.search.opened.set.keys) l.place _ c.len-place-end.ensures.len c.loop-place-test.false l.invariant.opened)

pub returns-clause-complete : goal.returns-clause-complete
returns-clause-complete c =
    let l = c.loop-place in
    found_complete l.tables l.search l.invariant.state l.invariant.done
    (opened_all c.args.tables.now l.tables l.invariant.kept (names_in l.search.opened.set.keys) l.place _ c.len-place-end.ensures.len c.loop-place-test.false l.invariant.opened)

pub returns-clause-finite : goal.returns-clause-finite
returns-clause-finite c =
    let l = c.loop-place in
    found_finite l.tables l.search l.invariant.state l.invariant.done
    (opened_all c.args.tables.now l.tables l.invariant.kept (names_in l.search.opened.set.keys) l.place _ c.len-place-end.ensures.len c.loop-place-test.false l.invariant.opened)
