use Rattle.tw_resolve.proofs.Trying.{stopped, then_tried}
use Rattle.tw_resolve.proofs.typing.check_types.Goals as goal

pub returns-in_err-check_aliases-clause-tried : goal.returns-in_err-check_aliases-clause-tried
returns-in_err-check_aliases-clause-tried c = stopped _ _ _ _ c.in_err-check_aliases.ensures c.from_residual.ensures.1

pub returns-clause-tried : goal.returns-clause-tried
returns-clause-tried c = then_tried _ _ _ _ c.in_ok-check_aliases.ensures c.check_funs.ensures.tried
