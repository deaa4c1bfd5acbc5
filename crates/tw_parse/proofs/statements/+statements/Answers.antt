use Rattle.std.proofs.Common.{sym, ap, ◌∙◌, not}
use Rattle.std.proofs.lemmas.List.{map_push}
use Rattle.std.proofs.lemmas.Result.{err_from_is_err_and}
use Rattle.tw_syntax.specs.Statements.{stmt_tree}
use Rattle.tw_parse.proofs.code.Many.{goes_on, fails, stops, is_done}
use Rattle.tw_parse.proofs.statements.+statements.Goals as goal

pub stmts-loop-preserved : goal.stmts-loop-preserved
stmts-loop-preserved t c =
    rw (c.in_ok-push.ensures.items, map_push stmt_tree c.loop.stmts.items _)
    (goes_on c.loop.invariant c.loop-test.true (ap not (sym c.leads.ensures ∙ c.if-leads.false)) c.in_ok-stmt.ensures)

pub stmts-returns-in_err-stmt : goal.stmts-returns-in_err-stmt
stmts-returns-in_err-stmt t c =
    let p = err_from_is_err_and c.from_residual-in_err-stmt.result c.from_residual-in_err-stmt.ensures.1 in
    rw (p.1, p.2) (fails _ c.loop.invariant c.loop-test.true (ap not (sym c.leads.ensures ∙ c.if-leads.false)) c.in_err-stmt.ensures)

pub stmts-returns-then-leads : goal.stmts-returns-then-leads
stmts-returns-then-leads t c = rw c.into_bump_slice.ensures (stops c.loop.invariant (ap not (sym c.leads.ensures ∙ c.if-leads.true)))

pub stmts-returns : goal.stmts-returns
stmts-returns t c = rw c.into_bump_slice-2.ensures (is_done c.loop.invariant c.loop-test.false)
