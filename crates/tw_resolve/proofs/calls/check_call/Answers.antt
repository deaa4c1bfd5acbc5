use Rattle.tw_resolve.proofs.Trying.{stopped}
use Rattle.tw_resolve.proofs.calls.check_call.Goals as goal

pub returns-in_err-check_callee : goal.returns-in_err-check_callee
returns-in_err-check_callee c = stopped _ _ _ _ c.in_err-check_callee.ensures c.from_residual.ensures.1
