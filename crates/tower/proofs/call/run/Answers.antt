use Rattle.std.proofs.Common.{ap, subst, Err, ℕ, ◌+◌, List, length, arith, refl}
use Rattle.tw_io.proofs.Devices.{appends_nothing}
use Rattle.tw_text.specs.declared.limits.TheConstants.{INPUT_LIMIT}
use Rattle.tw_text.specs.declared.refusal.Refusal.{Refusal}
use Rattle.tw_text.specs.declared.diagnostic.Diagnostic.TheVariants as diagnostic
use Rattle.tower.specs.Outcomes.{Refuses}
use Rattle.tower.specs.Answer.{InputAnswer, Answer, OnInput, TooLong, Usage}
use Rattle.tower.specs.Ending.{Did}
use Rattle.tower.specs.Given.{request_of}
use Rattle.tower.proofs.Closing.{closes, closes_refused, closes_gave, some_input, whole_input, long_input}
use Rattle.tower.proofs.Doing.{did_as}
use Rattle.tower.proofs.call.run.Goals as goal

pub returns-in_default-clause-answered : goal.returns-in_default-clause-answered
returns-in_default-clause-answered g c =
    let input = some_input (g.S.Source.left c.args.input.now) in
    record {
      bytes = input.bytes;
      told = input.told;
      gave = closes_gave g.K.Sink.taken g.K.Sink.faults _ _ c.args.words.now input.bytes c.refuse.result
          (closes_refused g.K.Sink.taken g.K.Sink.faults _ _ c.refuse.result (Answer c.args.words.now input.bytes) _ (Usage c.in_default.ensures.none refl) c.refuse.ensures);
    }

pub returns-in-Ok-clause-answered : goal.returns-in-Ok-clause-answered
returns-in-Ok-clause-answered g c =
    let bytes = c.in-Ok.bytes.items in
    let did = subst (λ (b : List ℕ). Did g.K.Sink.taken g.K.Sink.faults c.args.output.now c.answer-did.new.output c.answer-did.result (InputAnswer (request_of c.in-Some.command) b)) c.deref.ensures.value c.answer-did.ensures in
    record {
      bytes = bytes;
      told = whole_input _ _ bytes c.in-Ok.ensures.bytes c.in-Ok.ensures.end;
      gave = closes_gave g.K.Sink.taken g.K.Sink.faults _ _ c.args.words.now bytes c.finish.result
          (closes g.K.Sink.taken g.K.Sink.faults _ c.answer-did.new.output _ c.answer-did.result c.finish.result (Answer c.args.words.now bytes)
          (did_as g.K.Sink.taken g.K.Sink.faults _ _ _ (λ outcome is. OnInput (request_of c.in-Some.command) c.in-Some.ensures.some (omega (arith, ap length c.deref.ensures.value, c.deref.ensures.len, c.in-Ok.ensures.within_limit)) is) did) c.finish.ensures);
    }

pub returns-in-Err-TooLong-clause-answered : goal.returns-in-Err-TooLong-clause-answered
returns-in-Err-TooLong-clause-answered g c =
    let long = long_input (INPUT_LIMIT + 1) _ _ (c.in-Err-TooLong.ensures.too_long (ap Err c.in-Err-TooLong.field-0-is)) in
    let bytes = long.0.bytes in
    record {
      bytes = bytes;
      told = long.0.told;
      gave = closes_gave g.K.Sink.taken g.K.Sink.faults _ _ c.args.words.now bytes c.refuse-in-Err-TooLong.result
          (closes_refused g.K.Sink.taken g.K.Sink.faults _ _ c.refuse-in-Err-TooLong.result (Answer c.args.words.now bytes) _
          (TooLong (request_of c.in-Some.command) c.in-Some.ensures.some (omega (arith, long.1)) (ap (λ (r : Refusal). Refuses (diagnostic.Refused r)) c.passed-refusal.ensures)) c.refuse-in-Err-TooLong.ensures);
    }

pub returns-in-Err-ReadFault-clause-answered : goal.returns-in-Err-ReadFault-clause-answered
returns-in-Err-ReadFault-clause-answered g c =
    let input = some_input (g.S.Source.left c.args.input.now) in
    record { bytes = input.bytes; told = input.told; gave = appends_nothing (g.K.Sink.taken c.args.output.now) }

pub returns-in-Err-Memory-clause-answered : goal.returns-in-Err-Memory-clause-answered
returns-in-Err-Memory-clause-answered g c =
    let input = some_input (g.S.Source.left c.args.input.now) in
    record { bytes = input.bytes; told = input.told; gave = appends_nothing (g.K.Sink.taken c.args.output.now) }
