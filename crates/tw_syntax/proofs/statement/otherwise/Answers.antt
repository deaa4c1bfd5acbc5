use Rattle.tw_syntax.proofs.Shapes.{tree_of_made}
use Rattle.tw_syntax.proofs.statement.otherwise.Goals as goal

pub returns : goal.returns
returns c = tree_of_made (record { at = c.args.at; stmts = c.args.stmts })
