use Rattle.std.proofs.Common.{◌∙◌, sym}
use Rattle.tw_resolve.proofs.Declaring.{is_some-type, position_of_key}
use Rattle.tw_resolve.proofs.Locals.{different_keys}
use Rattle.tw_resolve.proofs.variables.Variables.number_of.Goals as goal

pub returns-clause-place : goal.returns-clause-place
returns-clause-place c = c.get_index_of.ensures.index ∙ position_of_key c.args.self.now.table.entries c.args.name.now

pub returns-clause-there : goal.returns-clause-there
returns-clause-there c = c.get_index_of.ensures.found ∙ sym (is_some-type c.args.self.now.table.entries c.args.name.now)

pub returns-clause-different : goal.returns-clause-different
returns-clause-different c = different_keys c.args.self.now.table.entries c.get_index_of.ensures.unique
