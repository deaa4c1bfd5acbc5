use Rattle.tw_interp.proofs.Values.{both_are, found_as, none_first, none_second}
use Rattle.tw_interp.proofs.evaluate.operands.Goals as goal

pub returns-in_default : goal.returns-in_default
returns-in_default c = λ names is_left is_right. none_first c.in_ok-first.field-0 c.in_default.is (c.in_ok-first.ensures names is_left)

pub returns-in_default-2 : goal.returns-in_default-2
returns-in_default-2 c = λ names is_left is_right. none_second c.in_ok-second.field-0 c.in_default-2.is (c.in_ok-second.ensures names is_right)

pub returns : goal.returns
returns c = λ names is_left is_right.
    both_are (found_as c.in_ok-first.field-0 c.in-Some.first c.in-Some.is (c.in_ok-first.ensures names is_left))
    (found_as c.in_ok-second.field-0 c.in-Some-2.second c.in-Some-2.is (c.in_ok-second.ensures names is_right))
