use Rattle.std.proofs.Common.{rules, subst, List, ℕ}
use Rattle.std.proofs.lemmas.Result.{err_from_is_err_and}
use Rattle.tw_io.specs.Devices.{Wrote}
use Rattle.tw_gatetext.proofs.ReversedLines.{reverses_more, reverses_broke, reverses_end}
use Rattle.tw_gatetext.proofs.inverting.write_reversed.Goals as goal

pub returns-in_err-put_inverse : goal.returns-in_err-put_inverse
returns-in_err-put_inverse g c =
    let p = err_from_is_err_and c.from_residual.result c.from_residual.ensures.1 in
    record {
      wrote = λ gates small is.
          rw (p.1, p.2)
          (reverses_broke g.K.Sink.taken g.K.Sink.faults _ _ _ _ gates _ _ _ _ c.last_line_at.result (c.loop-rest.invariant gates small is) (search rules) c.last_line_at.ensures.place c.split_at.ensures.back
          c.in_err-put_inverse.ensures);
    }

pub loop-rest-preserved : goal.loop-rest-preserved
loop-rest-preserved g c gates small is =
    reverses_more g.K.Sink.taken g.K.Sink.faults _ _ _ gates _ _ _ _ _ c.last_line_at.result (c.loop-rest.invariant gates small is) (search rules) c.last_line_at.ensures.place c.split_at.ensures.front
    c.split_at.ensures.back c.in_ok-put_inverse.ensures

pub returns : goal.returns
returns g c = record {
  wrote = λ gates small is.
      reverses_end g.K.Sink.taken g.K.Sink.faults _ _ _ _ gates _ _ (c.loop-rest.invariant gates small is) (search rules)
      (subst (λ (text : List ℕ). Wrote g.K.Sink.taken g.K.Sink.faults c.loop-rest.sink c.write_all.new.sink c.write_all.result text) c.deref.ensures.value c.write_all.ensures.wrote);
}
