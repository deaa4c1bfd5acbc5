use Rattle.std.proofs.Common.{sym, ◌∙◌, ap}
use Rattle.tw_resolve.proofs.Parts.{part_none}
use Rattle.tw_resolve.specs.Expressions.{part}
use Rattle.tw_resolve.proofs.paths.path_type.Goals as goal

pub returns-in-None : goal.returns-in-None
returns-in-None c = sym (part_none c.args.path.now.steps.now) ∙ ap (part c.args.path.now.steps.now) c.in-None.ensures
