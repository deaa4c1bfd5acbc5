use Rattle.std.proofs.Common.{◌≡◌, true}
use Rattle.tw_resolve.specs.Declarations.{Name}
use Rattle.tw_resolve.specs.AliasTypes.{AreResolvedIn, KeepsNames}
use Rattle.tw_resolve.specs.Searches.{names_in, tasks_in, IsFinding, steps_left}
use Rattle.tw_resolve.proofs.alias_search.run.Given as goal

abbrev pub invariant-loop-task : goal.invariant-loop-task
invariant-loop-task l = record {
  kept : KeepsNames l.fn.tables l.tables;
  resolved : AreResolvedIn l.tables;
  state : IsFinding l.tables l.search;
  opened : (name : Name) → names_in l.fn.search.opened.set.keys name ≡ true → names_in l.search.opened.set.keys name ≡ true;
}

abbrev pub decreases-loop-task : goal.decreases-loop-task
decreases-loop-task l = steps_left l.tables (names_in l.search.opened.set.keys) (tasks_in l.search.tasks.items)
