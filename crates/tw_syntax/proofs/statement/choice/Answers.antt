use Rattle.tw_syntax.proofs.statement.choice.Goals as goal
use Rattle.tw_syntax.proofs.Shapes.{tree_of_if}

pub returns : goal.returns
returns c = tree_of_if c.args.at c.args.cond c.args.yes c.args.no
