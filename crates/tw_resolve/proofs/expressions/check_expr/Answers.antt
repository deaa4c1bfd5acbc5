use Rattle.tw_resolve.proofs.Trying.{stopped, stopped_alone, then_tried, both_tried}
use Rattle.tw_resolve.proofs.expressions.check_expr.Goals as goal

pub returns-in_err-left-in-Op-clause-tried : goal.returns-in_err-left-in-Op-clause-tried
returns-in_err-left-in-Op-clause-tried c =
    rw c.in-Op.is (stopped _ _ _ _ (rw c.left_type.ensures at c.in_err-left-in-Op.ensures.tried) c.from_residual-in_err-left-in-Op.ensures.1)

pub returns-in_err-check_atom-in-Op-clause-tried : goal.returns-in_err-check_atom-in-Op-clause-tried
returns-in_err-check_atom-in-Op-clause-tried c =
    rw c.in-Op.is
    (then_tried _ _ _ _ (rw c.left_type.ensures at c.in_ok-left-in-Op.ensures.tried)
    (stopped_alone _ _ _ (rw (c.right_type-needed.ensures, c.in_ok-left-in-Op.ensures.found) at c.in_err-check_atom-in-Op.ensures.tried)
    c.from_residual-in_err-check_atom-in-Op.ensures.1))

pub returns-in_ok-check_atom-in-Op-clause-tried : goal.returns-in_ok-check_atom-in-Op-clause-tried
returns-in_ok-check_atom-in-Op-clause-tried c =
    rw c.in-Op.is
    (both_tried _ _ _ _ _ (rw c.left_type.ensures at c.in_ok-left-in-Op.ensures.tried)
    (rw (c.right_type-needed.ensures, c.in_ok-left-in-Op.ensures.found) at c.in_ok-check_atom-in-Op.ensures.tried))
