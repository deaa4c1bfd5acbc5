use Rattle.std.proofs.Common.{rules}
use Rattle.tw_arith.proofs.Placing.{copy_made}
use Rattle.tw_arith.proofs.atoms.copy_code.Goals as goal

pub returns-clause-xors : goal.returns-clause-xors
returns-clause-xors c = copy_made _ _ _ _ (search rules) c.requires.x c.requires.apart
