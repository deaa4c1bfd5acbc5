use Rattle.std.proofs.Common.{◌∙◌, sym, arith}
use Rattle.tw_lex.proofs.Pieces.{found_number, no_number, no_number_before_letter}
use Rattle.tw_lex.proofs.number.number.Goals as goal

pub returns-in_err-value-clause-none : goal.returns-in_err-value-clause-none
returns-in_err-value-clause-none c =
    rw c.from_residual.ensures (no_number c.args.text.now _ _ _ c.after_run-count.ensures c.before-2.ensures.spelled c.before-2.utf8 (rw c.as_bytes.ensures.value at c.in_err-value.ensures.none))

pub returns-then-continues_name-clause-none : goal.returns-then-continues_name-clause-none
returns-then-continues_name-clause-none c =
    no_number_before_letter c.args.text.now _ _ c.after_run-count.ensures (sym c.continues_name.ensures ∙ c.if-continues_name.true)

pub returns-clause-some : goal.returns-clause-some
returns-clause-some c =
    found_number c.args.text.now _ _ _ _ c.after_run-count.ensures c.before-2.ensures.spelled (sym c.as_bytes.ensures.value ∙ c.in_ok-value.ensures.some) (omega arith)
    (sym c.continues_name.ensures ∙ c.if-continues_name.false)
