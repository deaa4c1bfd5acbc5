use Rattle.std.proofs.Common.{◌∙◌, ap, refl}
use Rattle.tw_gatetext.specs.Files.{plain_file}
use Rattle.tw_gatetext.proofs.ValidFiles.{below}
use Rattle.tower.specs.Outcomes.{Prints}
use Rattle.tower.specs.Simulate.{OnStates}
use Rattle.tower.proofs.Doing.{did_lines, did_break, did_print}
use Rattle.tower.proofs.simulate.answer_lines.Goals as goal

pub simulate-requires : goal.simulate-requires
simulate-requires g c = below c.args.file.now.wires c.args.file.now.gates c.requires.fit_wires

pub returns-in_err-text : goal.returns-in_err-text
returns-in_err-text g c =
    did_lines g.K.Sink.taken g.K.Sink.faults c.args.output.now (plain_file c.args.file.now) c.args.lines.now c.in_err-text.field-0.0 c.from_residual.result c.from_residual.ensures.1 (c.in_err-text.ensures.refused c.in_err-text.field-0.0 refl)

pub returns-in_err-write_all : goal.returns-in_err-write_all
returns-in_err-write_all g c =
    let answer = c.in_ok-text.ensures.answer in
    did_break g.K.Sink.taken g.K.Sink.faults _ _ c.deref.result.now _ c.from_residual-in_err-write_all.result _ c.from_residual-in_err-write_all.ensures.1
    (OnStates answer.0 answer.1 (ap Prints (c.deref.ensures.value ∙ answer.2))) c.in_err-write_all.ensures.wrote

pub returns : goal.returns
returns g c =
    let answer = c.in_ok-text.ensures.answer in
    did_print g.K.Sink.taken g.K.Sink.faults _ _ c.deref.result.now _ _ (OnStates answer.0 answer.1 (ap Prints (c.deref.ensures.value ∙ answer.2))) c.in_ok-write_all.ensures.wrote
