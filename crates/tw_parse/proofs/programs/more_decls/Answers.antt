use Rattle.std.proofs.Common.{sym, ◌∙◌}
use Rattle.std.proofs.lemmas.List.{map_push}
use Rattle.std.proofs.lemmas.Result.{err_from_is_err_and}
use Rattle.tw_syntax.specs.Programs.{decl_tree}
use Rattle.tw_parse.proofs.code.Many.{starts_with, goes_on, fails, stops, is_done}
use Rattle.tw_parse.proofs.programs.more_decls.Goals as goal

pub loop-init : goal.loop-init
loop-init c = rw (c.in_ok-push.ensures.items, c.new-decls.ensures.items) (starts_with _ _ _ c.left-count.ensures)

pub loop-preserved : goal.loop-preserved
loop-preserved c =
    rw (c.in_ok-push-2.ensures.items, map_push decl_tree c.loop.decls.items _)
    (goes_on c.loop.invariant c.loop-test.true (sym c.has_more.ensures ∙ c.if-not-has_more.false) c.in_ok-decl.ensures)

pub returns-in_err-decl : goal.returns-in_err-decl
returns-in_err-decl c =
    let p = err_from_is_err_and c.from_residual-in_err-decl.result c.from_residual-in_err-decl.ensures.1 in
    rw (p.1, p.2) (fails _ c.loop.invariant c.loop-test.true (sym c.has_more.ensures ∙ c.if-not-has_more.false) c.in_err-decl.ensures)

pub returns-then-not-has_more : goal.returns-then-not-has_more
returns-then-not-has_more c = rw c.into_bump_slice.ensures (stops c.loop.invariant (sym c.has_more.ensures ∙ c.if-not-has_more.true))

pub returns : goal.returns
returns c = rw c.into_bump_slice-2.ensures (is_done c.loop.invariant c.loop-test.false)
