use Rattle.std.proofs.Common.{◌∙◌, ap, Some}
use Rattle.tw_types.specs.FromCode.{value_of}
use Rattle.tw_types.specs.Types.{Widths}
use Rattle.tw_types.specs.Values.{PairValue}
use Rattle.tw_resolve.specs.Resolved.{resolved_setting}
use Rattle.tw_state.specs.Evaluation.{negation, op_value}
use Rattle.tw_interp.proofs.Values.{both_as, both_found, both_none, found_as, one_found, one_none}
use Rattle.tw_interp.proofs.evaluate.evaluate.Goals as goal

pub returns-in-One : goal.returns-in-One
returns-in-One c = rw (c.in-One.is) c.operand.ensures

pub returns-in_ok-pair-in-Some : goal.returns-in_ok-pair-in-Some
returns-in_ok-pair-in-Some c =
    rw (c.in-Two.is)
    (λ names is v value.
    ap Some c.in_ok-pair-in-Some.ensures
    ∙ both_found (λ first second. Some (PairValue first second)) _ _ (value_of c.in-Some.first) (value_of c.in-Some.second)
    (both_as c.in_ok-first-in-Two.field-0 c.in-Some.first c.in-Some.second c.in-Some.is (c.in_ok-first-in-Two.ensures names is.0 is.1)) v value)

pub returns-in-None : goal.returns-in-None
returns-in-None c =
    rw (c.in-Two.is)
    (λ names is v value. both_none (λ first second. Some (PairValue first second)) _ _ c.in_ok-first-in-Two.field-0 c.in-None.is (c.in_ok-first-in-Two.ensures names is.0 is.1) v value)

pub returns-in-Some-2 : goal.returns-in-Some-2
returns-in-Some-2 c =
    rw (c.in-Not.is)
    (λ names is v value.
    c.negated.ensures
    ∙ one_found negation _ (value_of c.in-Some-2.val) (found_as c.in_ok-val-in-Not.field-0 c.in-Some-2.val c.in-Some-2.is (c.in_ok-val-in-Not.ensures names is)) v value)

pub returns-in-None-2 : goal.returns-in-None-2
returns-in-None-2 c = rw (c.in-Not.is) (λ names is v value. one_none negation _ c.in_ok-val-in-Not.field-0 c.in-None-2.is (c.in_ok-val-in-Not.ensures names is) v value)

pub returns-in-Some-3 : goal.returns-in-Some-3
returns-in-Some-3 c =
    rw (c.in-Op.is)
    (λ names is v value.
    c.applied.ensures
    ∙ ap (λ (widths : Widths). op_value widths c.in-Op.operator (value_of c.in-Some-3.left) (value_of c.in-Some-3.right)) c.widths.ensures
    ∙ both_found (op_value (resolved_setting c.args.program.now).widths c.in-Op.operator) _ _ (value_of c.in-Some-3.left) (value_of c.in-Some-3.right)
    (both_as c.in_ok-left-in-Op.field-0 c.in-Some-3.left c.in-Some-3.right c.in-Some-3.is (c.in_ok-left-in-Op.ensures names is.0 is.1)) v value)

pub returns-in-None-3 : goal.returns-in-None-3
returns-in-None-3 c =
    rw (c.in-Op.is)
    (λ names is v value.
    both_none (op_value (resolved_setting c.args.program.now).widths c.in-Op.operator) _ _ c.in_ok-left-in-Op.field-0 c.in-None-3.is (c.in_ok-left-in-Op.ensures names is.0 is.1) v value)
