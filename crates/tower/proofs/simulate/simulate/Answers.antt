use Rattle.std.proofs.Common.{sym, subst, ℕ, List, refl}
use Rattle.std.proofs.lemmas.List.{take_rest}
use Rattle.tw_gatetext.specs.Files.{plain_file, BeginsWith}
use Rattle.tower.specs.GateInputs.{OnPrefix}
use Rattle.tower.specs.Simulate.{SimulateAnswer}
use Rattle.tower.proofs.Doing.{did_gates, did_as}
use Rattle.tower.proofs.simulate.simulate.Goals as goal

pub returns-in_err-file : goal.returns-in_err-file
returns-in_err-file g c =
    did_gates g.K.Sink.taken g.K.Sink.faults c.args.output.now c.args.bytes.now SimulateAnswer c.in_err-file.field-0.0 c.from_residual.result c.from_residual.ensures.1 (c.in_err-file.ensures.refused c.in_err-file.field-0.0 refl)

pub returns : goal.returns
returns g c =
    let begins = subst (λ (rest : List ℕ). BeginsWith c.args.bytes.now (plain_file c.in_ok-file.file) rest) (sym (take_rest c.args.bytes.now c.in_ok-file.size)) c.in_ok-file.ensures.file in
    did_as g.K.Sink.taken g.K.Sink.faults _ _ _ (λ outcome is. OnPrefix (plain_file c.in_ok-file.file) _ begins is) c.answer_rest.ensures
