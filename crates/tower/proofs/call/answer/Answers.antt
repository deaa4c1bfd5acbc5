use Rattle.std.proofs.Common.{sym, subst}
use Rattle.tower.specs.declared.request.Command.{Command}
use Rattle.tower.specs.Given.{request_of}
use Rattle.tower.specs.Answer.{InputAnswer}
use Rattle.tower.specs.Ending.{Did}
use Rattle.tower.proofs.call.answer.Goals as goal

pub returns-in-Format : goal.returns-in-Format
returns-in-Format g c = subst (λ (k : Command). Did g.K.Sink.taken g.K.Sink.faults c.args.output.now c.format.new.output c.format.result (InputAnswer (request_of k) c.args.bytes.now)) (sym c.in-Format.is) c.format.ensures

pub returns-in-Check : goal.returns-in-Check
returns-in-Check g c = subst (λ (k : Command). Did g.K.Sink.taken g.K.Sink.faults c.args.output.now c.check.new.output c.check.result (InputAnswer (request_of k) c.args.bytes.now)) (sym c.in-Check.is) c.check.ensures

pub returns-in-Compile : goal.returns-in-Compile
returns-in-Compile g c = subst (λ (k : Command). Did g.K.Sink.taken g.K.Sink.faults c.args.output.now c.compile.new.output c.compile.result (InputAnswer (request_of k) c.args.bytes.now)) (sym c.in-Compile.is) c.compile.ensures

pub returns-in-Run : goal.returns-in-Run
returns-in-Run g c = subst (λ (k : Command). Did g.K.Sink.taken g.K.Sink.faults c.args.output.now c.run_program.new.output c.run_program.result (InputAnswer (request_of k) c.args.bytes.now)) (sym c.in-Run.is) c.run_program.ensures

pub returns-in-Encode : goal.returns-in-Encode
returns-in-Encode g c = subst (λ (k : Command). Did g.K.Sink.taken g.K.Sink.faults c.args.output.now c.encode.new.output c.encode.result (InputAnswer (request_of k) c.args.bytes.now)) (sym c.in-Encode.is) c.encode.ensures

pub returns-in-Simulate : goal.returns-in-Simulate
returns-in-Simulate g c = subst (λ (k : Command). Did g.K.Sink.taken g.K.Sink.faults c.args.output.now c.simulate.new.output c.simulate.result (InputAnswer (request_of k) c.args.bytes.now)) (sym c.in-Simulate.is) c.simulate.ensures

pub returns-in-Invert : goal.returns-in-Invert
returns-in-Invert g c = subst (λ (k : Command). Did g.K.Sink.taken g.K.Sink.faults c.args.output.now c.invert.new.output c.invert.result (InputAnswer (request_of k) c.args.bytes.now)) (sym c.in-Invert.is) c.invert.ensures
