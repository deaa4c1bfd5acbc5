use Rattle.std.proofs.Common.{sym, ◌∙◌}
use Rattle.std.proofs.lemmas.List.{map_push}
use Rattle.std.proofs.lemmas.Result.{err_from_is_err_and}
use Rattle.tw_syntax.specs.Names.{name_tree}
use Rattle.tw_parse.proofs.code.Many.{starts_with, goes_on, fails, stops, is_done}
use Rattle.tw_parse.proofs.calls.more_names.Goals as goal

pub loop-init : goal.loop-init
loop-init c = rw (c.in_ok-push.ensures.items, c.new-names.ensures.items) (starts_with _ _ _ c.left-count.ensures)

pub loop-preserved : goal.loop-preserved
loop-preserved c =
    rw (c.in_ok-push-2.ensures.items, map_push name_tree c.loop.names.items _)
    (goes_on c.loop.invariant c.loop-test.true (sym c.leads.ensures ∙ c.if-not-leads.false) c.in_ok-comma_name.ensures)

pub returns-in_err-comma_name : goal.returns-in_err-comma_name
returns-in_err-comma_name c =
    let p = err_from_is_err_and c.from_residual-in_err-comma_name.result c.from_residual-in_err-comma_name.ensures.1 in
    rw (p.1, p.2) (fails _ c.loop.invariant c.loop-test.true (sym c.leads.ensures ∙ c.if-not-leads.false) c.in_err-comma_name.ensures)

pub returns-then-not-leads : goal.returns-then-not-leads
returns-then-not-leads c = rw c.into_bump_slice.ensures (stops c.loop.invariant (sym c.leads.ensures ∙ c.if-not-leads.true))

pub returns : goal.returns
returns c = rw c.into_bump_slice-2.ensures (is_done c.loop.invariant c.loop-test.false)
