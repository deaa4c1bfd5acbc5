-- Two worked examples of the theorem on right functions: one that is right, and one that is not.
use Rattle.std.proofs.Common.{refl}
use Rattle.tw_check.specs.Examples.{undoable, temporary_left}
use Rattle.tw_check.specs.Right.{IsRight}
use Rattle.tw_check.proofs.RightExactly.{right_exactly_if_kept}

pub undoable-right : IsRight undoable
undoable-right = (right_exactly_if_kept undoable).1 refl

pub temporary_left-not_right : ¬ (IsRight temporary_left)
temporary_left-not_right right =
    let none = (right_exactly_if_kept temporary_left).0 right in
    absurd (cc)
