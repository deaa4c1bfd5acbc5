use Rattle.std.proofs.Common.{◌∙◌, ap, sym, subst, arith, Some, length, List, Bool, Ok, Err}
use Rattle.std.proofs.Math.ListN.{drop_of_length-le}
use Rattle.std.proofs.lemmas.Option.{slice_get-get_or}
use Rattle.std.proofs.lemmas.Result.{err_from_is_err_and}
use Rattle.tw_resolve.specs.Resolved.{resolved_setting}
use Rattle.tw_state.specs.FromCode.{listed_of}
use Rattle.tower.specs.Encodings.{CanEncode, WroteEncoding}
use Rattle.tower.proofs.Encoding.{encodable_at, line_broke, line_then, none_left}
use Rattle.tower.proofs.encode.write_encodings.Goals as goal

pub write_encoding-requires-clause-encodable : goal.write_encoding-requires-clause-encodable
write_encoding-requires-clause-encodable g c =
    let setting = resolved_setting c.args.checked.now.resolved in
    let states = c.args.states.now in
    let found = slice_get-get_or states c.loop-state.state-index c.state-item.result c.loop-state-test.true ∙ ap Some (sym c.state-item.is) in
    subst (λ (bits : List Bool). CanEncode (length bits) setting c.args.entry.fun c.args.side (listed_of c.state-item.result)) (sym c.loop-state.invariant.zeros)
    (encodable_at (length c.args.bits.now) setting c.args.entry.fun c.args.side states c.loop-state.state-index c.state-item.result found c.requires.encodable)

pub returns-in_err-write_encoding : goal.returns-in_err-write_encoding
returns-in_err-write_encoding g c =
    let p = err_from_is_err_and c.from_residual.result c.from_residual.ensures.1 in
    let setting = resolved_setting c.args.checked.now.resolved in
    let states = c.args.states.now in
    let found = slice_get-get_or states c.loop-state.state-index c.state-item.result c.loop-state-test.true ∙ ap Some (sym c.state-item.is) in
    rw (p.1, p.2)
    (c.loop-state.invariant.later _ _
    (line_broke g.K.Sink.taken g.K.Sink.faults (length c.args.bits.now) setting c.args.entry.fun c.args.side _ _ _ states c.loop-state.state-index c.state-item.result found
    (subst (λ (bits : List Bool). WroteEncoding g.K.Sink.taken g.K.Sink.faults c.loop-state.output c.write_encoding.new.output (Err c.in_err-write_encoding.field-0.0) (length bits) setting c.args.entry.fun c.args.side (listed_of c.state-item.result)) c.loop-state.invariant.zeros c.in_err-write_encoding.ensures.wrote)))

pub loop-state-preserved : goal.loop-state-preserved
loop-state-preserved g c =
    let setting = resolved_setting c.args.checked.now.resolved in
    let states = c.args.states.now in
    let found = slice_get-get_or states c.loop-state.state-index c.state-item.result c.loop-state-test.true ∙ ap Some (sym c.state-item.is) in
    record {
      zeros = c.in_ok-write_encoding.ensures.zeros ∙ c.loop-state.invariant.zeros;
      line = c.in_ok-write_encoding.ensures.line ∙ c.loop-state.invariant.line;
      later = λ s r later.
          c.loop-state.invariant.later s r
          (line_then g.K.Sink.taken g.K.Sink.faults (length c.args.bits.now) setting c.args.entry.fun c.args.side _ _ _ _ states c.loop-state.state-index c.state-item.result found
          (subst (λ (bits : List Bool). WroteEncoding g.K.Sink.taken g.K.Sink.faults c.loop-state.output c.write_encoding.new.output (Ok tt) (length bits) setting c.args.entry.fun c.args.side (listed_of c.state-item.result)) c.loop-state.invariant.zeros c.in_ok-write_encoding.ensures.wrote) later);
    }

pub returns : goal.returns
returns g c =
    let none = drop_of_length-le c.args.states.now (omega (arith, c.loop-state-test.false)) in
    c.loop-state.invariant.later _ _ (none_left g.K.Sink.taken g.K.Sink.faults (length c.args.bits.now) (resolved_setting c.args.checked.now.resolved) c.args.entry.fun c.args.side _ _ none)
