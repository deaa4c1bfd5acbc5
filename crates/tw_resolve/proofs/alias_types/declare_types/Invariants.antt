use Rattle.std.proofs.Common.{◌≡◌, [], drop}
use Rattle.tw_resolve.specs.Declarations.{declared_as}
use Rattle.tw_resolve.specs.Entries.{aliases_in}
use Rattle.tw_resolve.specs.AliasTypes.{AreResolvedIn, KeepsNames}
use Rattle.tw_resolve.specs.Searches.{names_in, tasks_in, IsFinding}
use Rattle.tw_resolve.proofs.TextOrder.{AreInOrAfter}
use Rattle.tw_resolve.proofs.alias_types.declare_types.Given as goal

abbrev pub invariant-loop-place : goal.invariant-loop-place
invariant-loop-place l =
    let aliases = aliases_in l.tables.aliases.table.entries in
    record {
      kept : KeepsNames l.fn.tables l.tables;
      resolved : AreResolvedIn l.tables;
      state : IsFinding l.tables l.search;
      done : tasks_in l.search.tasks.items ≡ [];
      opened : AreInOrAfter (names_in l.search.opened.set.keys) (drop l.place aliases) (declared_as aliases);
    }
