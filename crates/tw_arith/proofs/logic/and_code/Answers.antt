use Rattle.std.proofs.Common.{rules}
use Rattle.tw_arith.proofs.Operations.{and_made}
use Rattle.tw_arith.proofs.logic.and_code.Goals as goal

pub returns-clause-xors : goal.returns-clause-xors
returns-clause-xors c = and_made _ _ _ _ _ (search rules) c.requires.x c.requires.y c.requires.apart
