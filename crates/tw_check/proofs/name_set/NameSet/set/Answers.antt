use Rattle.tw_check.proofs.Tables.{names_in-updated}
use Rattle.tw_check.proofs.name_set.NameSet.set.Goals as goal

pub returns : goal.returns
returns c = names_in-updated c.args.name.now c.args.self.now.table c.insert.new.self c.args.is_in c.in_ok-insert.ensures.updates
