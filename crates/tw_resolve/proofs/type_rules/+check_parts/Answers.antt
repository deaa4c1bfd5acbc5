use Rattle.tw_resolve.proofs.Trying.{stopped, then_tried}
use Rattle.tw_resolve.proofs.type_rules.+check_parts.Goals as goal

pub returns-in_err-check_parts-in-Pair : goal.returns-in_err-check_parts-in-Pair
returns-in_err-check_parts-in-Pair t c = rw c.in-Pair.is (stopped _ _ _ _ c.in_err-check_parts-in-Pair.ensures c.from_residual.ensures.1)

pub returns-in_ok-check_parts-in-Pair : goal.returns-in_ok-check_parts-in-Pair
returns-in_ok-check_parts-in-Pair t c = rw c.in-Pair.is (then_tried _ _ _ _ c.in_ok-check_parts-in-Pair.ensures c.check_parts-in-Pair.ensures)
