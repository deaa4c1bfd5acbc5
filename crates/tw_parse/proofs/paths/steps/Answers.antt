use Rattle.std.proofs.Common.{sym, ◌∙◌}
use Rattle.std.proofs.lemmas.Result.{err_from_is_err_and}
use Rattle.tw_parse.proofs.code.Many.{starts, goes_on, fails, stops, is_done}
use Rattle.tw_parse.proofs.paths.steps.Goals as goal

pub loop-init : goal.loop-init
loop-init c = rw c.new-steps.ensures.items (starts _ _ c.left-count.ensures)

pub loop-preserved : goal.loop-preserved
loop-preserved c =
    rw c.in_ok-push.ensures.items (goes_on c.loop.invariant c.loop-test.true (sym c.leads.ensures ∙ c.if-not-leads.false) c.in_ok-step.ensures)

pub returns-in_err-step : goal.returns-in_err-step
returns-in_err-step c =
    let p = err_from_is_err_and c.from_residual.result c.from_residual.ensures.1 in
    rw (p.1, p.2) (fails _ c.loop.invariant c.loop-test.true (sym c.leads.ensures ∙ c.if-not-leads.false) c.in_err-step.ensures)

pub returns-then-not-leads : goal.returns-then-not-leads
returns-then-not-leads c = rw c.into_bump_slice.ensures (stops c.loop.invariant (sym c.leads.ensures ∙ c.if-not-leads.true))

pub returns : goal.returns
returns c = rw c.into_bump_slice-2.ensures (is_done c.loop.invariant c.loop-test.false)
