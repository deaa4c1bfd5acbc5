use Rattle.std.proofs.Common.{◌∙◌}
use Rattle.tw_resolve.proofs.Entries.{position_of_text}
use Rattle.tw_resolve.proofs.fun_table.FunTable.number_of.Goals as goal

pub returns : goal.returns
returns c = c.get_index_of.ensures.index ∙ position_of_text _ _ c.args.self.now.table.entries c.args.self.now.keyed c.args.name.now
