use Rattle.std.proofs.Common.{subst, List, ℕ}
use Rattle.std.proofs.lemmas.Result.{err_from_is_err_and}
use Rattle.tw_gatetext.specs.Inverting.{Put}
use Rattle.tw_gatetext.proofs.Putting.{put_both, put_broke_first}
use Rattle.tw_gatetext.proofs.InverseLines.{after_t, after_tdg, after_neither}
use Rattle.tw_gatetext.proofs.inverting.put_inverse.Goals as goal

pub returns-in_err-put : goal.returns-in_err-put
returns-in_err-put g c gate is =
    let p = err_from_is_err_and c.from_residual.result c.from_residual.ensures.1 in
    rw (p.1, p.2, ← after_t gate c.args.text.now c.in-Some.wire.now is c.in-Some.ensures) (put_broke_first g.K.Sink.taken g.K.Sink.faults _ _ _ _ _ _ _ _ c.in_err-put.ensures)

pub returns-in-Some : goal.returns-in-Some
returns-in-Some g c gate is =
    rw (← after_t gate c.args.text.now c.in-Some.wire.now is c.in-Some.ensures) (put_both g.K.Sink.taken g.K.Sink.faults _ _ _ _ _ _ _ _ _ c.in_ok-put.ensures c.put-in-Some.ensures)

pub returns-in_err-put-2 : goal.returns-in_err-put-2
returns-in_err-put-2 g c gate is =
    let p = err_from_is_err_and c.from_residual-in_err-put-2.result c.from_residual-in_err-put-2.ensures.1 in
    rw (p.1, p.2, ← after_tdg gate c.args.text.now c.in-Some-after.wire.now is c.in-Some-after.ensures) (put_broke_first g.K.Sink.taken g.K.Sink.faults _ _ _ _ _ _ _ _ c.in_err-put-2.ensures)

pub returns-in-Some-after : goal.returns-in-Some-after
returns-in-Some-after g c gate is =
    rw (← after_tdg gate c.args.text.now c.in-Some-after.wire.now is c.in-Some-after.ensures)
    (put_both g.K.Sink.taken g.K.Sink.faults _ _ _ _ _ _ _ _ _ c.in_ok-put-2.ensures c.put-in-Some-after-2.ensures)

pub returns : goal.returns
returns g c gate is =
    subst (λ (text : List ℕ). Put g.K.Sink.taken g.K.Sink.faults c.args.sink.now c.put-2.new.sink c.put-2.result c.args.chunk.now.items c.put-2.new.chunk.items text)
    (after_neither gate c.args.text.now is c.in_default.ensures c.in_default-after.ensures) c.put-2.ensures
