use Rattle.std.proofs.Common.{◌+◌}
use Rattle.tw_resolve.specs.Declarations.{declared_as}
use Rattle.tw_resolve.specs.Entries.{aliases_in}
use Rattle.tw_resolve.specs.Reaching.{waiting_in}
use Rattle.tw_resolve.specs.Searches.{names_in, alias_steps}
use Rattle.tw_resolve.proofs.Reaching.{IsReaching, waiting_steps}
use Rattle.tw_resolve.proofs.recursion.contains_itself.Given as goal

abbrev pub invariant-loop-written : goal.invariant-loop-written
invariant-loop-written l =
    IsReaching (declared_as (aliases_in l.aliases.table.entries)) l.name (names_in l.reached.set.keys) (waiting_in l.waiting.items)

abbrev pub decreases-loop-written : goal.decreases-loop-written
decreases-loop-written l = waiting_steps (waiting_in l.waiting.items) + alias_steps (names_in l.reached.set.keys) (aliases_in l.aliases.table.entries)
