use Rattle.tw_resolve.specs.Resolved.{resolved_setting}
use Rattle.tw_resolve.specs.Variables.{variables_in}
use Rattle.tw_resolve.proofs.Asking.{name_there}
use Rattle.tw_resolve.proofs.resolved.Resolved.type_of.Goals as goal

pub returns-clause-there : goal.returns-clause-there
returns-clause-there c =
    name_there (resolved_setting c.args.self.now) c.args.number (variables_in c.variables.result.now.table.entries) c.args.name.now c.get.result
    c.variables.ensures.names c.get.ensures
