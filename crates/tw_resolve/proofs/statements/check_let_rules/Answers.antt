use Rattle.tw_resolve.proofs.Trying.{stopped, stopped_alone, then_tried, both_tried}
use Rattle.tw_resolve.proofs.statements.check_let_rules.Goals as goal

pub returns-in_err-found-clause-tried : goal.returns-in_err-found-clause-tried
returns-in_err-found-clause-tried c =
    then_tried _ _ _ _ c.in_ok-check_target.ensures
    (stopped _ _ _ _ c.in_err-found.ensures.tried c.from_residual-in_err-found.ensures.1)

pub returns-in_err-need-clause-tried : goal.returns-in_err-need-clause-tried
returns-in_err-need-clause-tried c =
    then_tried _ _ _ _ c.in_ok-check_target.ensures
    (then_tried _ _ _ _ c.in_ok-found.ensures.tried
    (stopped_alone _ _ _ (rw (c.fits.ensures, c.get.ensures, c.in_ok-found.ensures.found) at c.in_err-need.ensures) c.from_residual-in_err-need.ensures.1))

pub returns-clause-tried : goal.returns-clause-tried
returns-clause-tried c =
    both_tried _ _ _ _ _ c.in_ok-check_target.ensures
    (both_tried _ _ _ _ c.in_ok-need.field-0 c.in_ok-found.ensures.tried
    (rw (c.fits.ensures, c.get.ensures, c.in_ok-found.ensures.found) at c.in_ok-need.ensures))
