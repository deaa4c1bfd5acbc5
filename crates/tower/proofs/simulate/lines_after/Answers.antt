use Rattle.std.proofs.Common.{◌∙◌, ap, sym}
use Rattle.std.specs.Option.{option_copied}
use Rattle.tower.proofs.AfterFiles.{no_mark, mark_at_end, lines_after_mark, longer_line}
use Rattle.tower.proofs.simulate.lines_after.Goals as goal

pub returns-in_err-marked-clause-none : goal.returns-in_err-marked-clause-none
returns-in_err-marked-clause-none c =
    no_mark c.args.rest.now c.from_residual.result (sym c.is_empty.ensures ∙ c.if-is_empty.false) (sym c.after.ensures ∙ ap option_copied c.in_err-marked.was)

pub returns-then-is_empty-2-clause-some : goal.returns-then-is_empty-2-clause-some
returns-then-is_empty-2-clause-some c =
    mark_at_end c.args.rest.now c.in_ok-marked.marked.now (sym c.after.ensures ∙ ap option_copied c.in_ok-marked.was) (sym c.is_empty-2.ensures ∙ c.if-is_empty-2.true)

pub returns-clause-some : goal.returns-clause-some
returns-clause-some c =
    lines_after_mark c.args.rest.now c.in_ok-marked.marked.now c.after-2.result (sym c.after.ensures ∙ ap option_copied c.in_ok-marked.was) c.after-2.ensures

pub returns-clause-none : goal.returns-clause-none
returns-clause-none c =
    longer_line c.args.rest.now c.in_ok-marked.marked.now c.after-2.result (sym c.is_empty.ensures ∙ c.if-is_empty.false) (sym c.after.ensures ∙ ap option_copied c.in_ok-marked.was)
    (sym c.is_empty-2.ensures ∙ c.if-is_empty-2.false) c.after-2.ensures
