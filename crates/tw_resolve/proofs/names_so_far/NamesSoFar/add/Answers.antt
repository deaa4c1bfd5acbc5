use Rattle.std.proofs.Common.{◌∙◌, ap, not}
use Rattle.tw_resolve.proofs.Naming.{any-texts}
use Rattle.tw_resolve.proofs.names_so_far.NamesSoFar.add.Goals as goal

pub returns-clause-is_new : goal.returns-clause-is_new
returns-clause-is_new c = c.in_ok-insert.ensures.added ∙ ap not (any-texts c.args.self.now.set.keys c.args.name.now)
