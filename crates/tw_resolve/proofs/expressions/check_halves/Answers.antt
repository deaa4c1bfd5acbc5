use Rattle.tw_resolve.proofs.Trying.{stopped, stopped_alone, then_tried, both_tried}
use Rattle.tw_resolve.proofs.expressions.check_halves.Goals as goal

pub returns-in_err-check_atom : goal.returns-in_err-check_atom
returns-in_err-check_atom c = stopped _ _ _ _ c.in_err-check_atom.ensures.tried c.from_residual.ensures.1

pub returns-in_err-check_atom-2 : goal.returns-in_err-check_atom-2
returns-in_err-check_atom-2 c =
    then_tried _ _ _ _ c.in_ok-check_atom.ensures.tried
    (stopped_alone _ _ _ c.in_err-check_atom-2.ensures.tried c.from_residual-in_err-check_atom-2.ensures.1)

pub returns : goal.returns
returns c = both_tried _ _ _ _ _ c.in_ok-check_atom.ensures.tried c.in_ok-check_atom-2.ensures.tried
