use Rattle.std.proofs.Common.{◌≡◌, true}
use Rattle.tw_resolve.proofs.Opening.{finding_opened}
use Rattle.tw_resolve.proofs.Visiting.{tasks_if}
use Rattle.tw_resolve.proofs.alias_search.find_type.Goals as goal

pub run-requires-clause-state : goal.run-requires-clause-state
run-requires-clause-state c =
    let is : c.in_ok-open.field-0 ≡ true = c.if-not-branch.false in
    finding_opened c.args.tables.now c.args.search.now c.open.new.self c.args.name.now c.requires.resolved c.requires.state c.requires.done c.requires.declared
    c.in_ok-open.ensures.opened (tasks_if _ _ _ _ is c.in_ok-open.ensures.tasks)
