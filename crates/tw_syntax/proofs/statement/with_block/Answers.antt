use Rattle.tw_syntax.proofs.statement.with_block.Goals as goal
use Rattle.tw_syntax.proofs.Shapes.{tree_of_with}

pub returns : goal.returns
returns c = tree_of_with c.args.at c.args.setup c.args.work
