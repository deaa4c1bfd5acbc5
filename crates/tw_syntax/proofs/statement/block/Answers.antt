use Rattle.tw_syntax.proofs.statement.block.Goals as goal
use Rattle.tw_syntax.proofs.Shapes.{tree_of_block}

pub returns : goal.returns
returns c = tree_of_block c.args.at c.args.body
