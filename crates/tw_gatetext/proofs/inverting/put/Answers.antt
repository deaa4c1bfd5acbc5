use Rattle.std.proofs.Common.{◌∙◌, subst, List, ℕ, Ok, Err}
use Rattle.std.proofs.lemmas.Result.{err_from_is_err_and}
use Rattle.tw_io.specs.Devices.{Wrote}
use Rattle.tw_gatetext.proofs.Putting.{put_flushed, put_broke}
use Rattle.tw_gatetext.proofs.inverting.put.Goals as goal

pub returns-in_err-write_all : goal.returns-in_err-write_all
returns-in_err-write_all g c =
    let p = err_from_is_err_and c.from_residual.result c.from_residual.ensures.1 in
    let chunk = c.deref.ensures.value ∙ (rw c.if-append.false at c.append.ensures) in
    rw (p.1, p.2)
    (put_broke g.K.Sink.taken g.K.Sink.faults _ _ _ _ _ _
    (subst (λ (text : List ℕ). Wrote g.K.Sink.taken g.K.Sink.faults c.args.sink.now c.write_all.new.sink (Err _) text) chunk c.in_err-write_all.ensures.wrote))

pub returns : goal.returns
returns g c =
    let chunk = c.deref.ensures.value ∙ (rw c.if-append.false at c.append.ensures) in
    put_flushed g.K.Sink.taken g.K.Sink.faults _ _ _ _ _ _ _ c.clear.ensures.items
    (subst (λ (text : List ℕ). Wrote g.K.Sink.taken g.K.Sink.faults c.args.sink.now c.write_all.new.sink (Ok tt) text) chunk c.in_ok-write_all.ensures.wrote)
    c.write_all-2.ensures.wrote
