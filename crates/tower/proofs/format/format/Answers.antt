use Rattle.std.proofs.Common.{◌∙◌, ap, ◌++◌, Err}
use Rattle.tw_print.specs.Programs.{program_print}
use Rattle.tw_syntax.specs.Programs.{program_tree}
use Rattle.tower.specs.Outcomes.{Prints}
use Rattle.tower.specs.Sources.{OnTree}
use Rattle.tower.specs.Format.{FormatAnswer}
use Rattle.tower.proofs.Doing.{did_source, did_break, did_print}
use Rattle.tower.proofs.format.format.Goals as goal

pub returns-in_err-program : goal.returns-in_err-program
returns-in_err-program g c =
    did_source g.K.Sink.taken g.K.Sink.faults c.args.output.now c.args.bytes.now FormatAnswer c.in_err-program.field-0.0 c.from_residual.result c.from_residual.ensures.1 (λ refusal e. c.in_err-program.ensures.refused refusal (ap Err e))

pub returns-in_err-write_all : goal.returns-in_err-write_all
returns-in_err-write_all g c =
    let tree = program_tree c.in_ok-program.program.now in
    let printed = c.taken.ensures ∙ (c.in-Ok.ensures.wrote.whole ∙ ap (λ view. view.taken ++ program_print tree) c.new-text.ensures) in
    did_break g.K.Sink.taken g.K.Sink.faults _ _ c.taken.result.now _ c.from_residual-in_err-write_all.result _ c.from_residual-in_err-write_all.ensures.1 (OnTree tree c.in_ok-program.ensures.tree (ap Prints printed)) c.in_err-write_all.ensures.wrote

pub returns : goal.returns
returns g c =
    let tree = program_tree c.in_ok-program.program.now in
    let printed = c.taken.ensures ∙ (c.in-Ok.ensures.wrote.whole ∙ ap (λ view. view.taken ++ program_print tree) c.new-text.ensures) in
    did_print g.K.Sink.taken g.K.Sink.faults _ _ c.taken.result.now _ _ (OnTree tree c.in_ok-program.ensures.tree (ap Prints printed)) c.in_ok-write_all.ensures.wrote
