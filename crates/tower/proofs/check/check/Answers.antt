use Rattle.std.proofs.Common.{codes, refl}
use Rattle.tower.specs.Check.{CheckAnswer, Accepted, Broken}
use Rattle.tower.specs.Sources.{OnTree}
use Rattle.tower.proofs.Accepting.{did_accept}
use Rattle.tower.proofs.Doing.{did_break, did_print}
use Rattle.tower.proofs.check.check.Goals as goal

pub returns-in_err-accept : goal.returns-in_err-accept
returns-in_err-accept g c =
    did_accept c.args.widths c.args.bytes.now g.K.Sink.taken g.K.Sink.faults (CheckAnswer c.args.widths) (λ tree refusal broken. Broken refusal broken refl) c.args.output.now
    c.in_err-accept.field-0.0 c.from_residual.result c.from_residual.ensures.1 c.in_err-accept.ensures.refused

pub returns-in_err-write_all : goal.returns-in_err-write_all
returns-in_err-write_all g c =
    let answer = OnTree _ c.in_ok-accept.ensures.source (Accepted c.in_ok-accept.ensures.accepted refl) in
    did_break g.K.Sink.taken g.K.Sink.faults _ _ (codes "ok\n") _ c.from_residual-in_err-write_all.result _ c.from_residual-in_err-write_all.ensures.1 answer c.in_err-write_all.ensures.wrote

pub returns : goal.returns
returns g c =
    let answer = OnTree _ c.in_ok-accept.ensures.source (Accepted c.in_ok-accept.ensures.accepted refl) in
    did_print g.K.Sink.taken g.K.Sink.faults _ _ (codes "ok\n") _ _ answer c.in_ok-write_all.ensures.wrote
