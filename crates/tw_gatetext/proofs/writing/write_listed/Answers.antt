use Rattle.std.proofs.Common.{arith}
use Rattle.std.proofs.Math.ListN.{drop_of_length-le}
use Rattle.std.proofs.lemmas.Result.{err_from_is_err_and}
use Rattle.tw_gate.proofs.NextGate.{drop_at}
use Rattle.tw_gatetext.proofs.Lists.{gate_then, gate_broke, gates_done}
use Rattle.tw_gatetext.proofs.writing.write_listed.Goals as goal

pub write_line-requires : goal.write_line-requires
write_line-requires g c = (rw (drop_at c.args.gates.now c.loop-place.place _ c.gate.ensures) at c.loop-place.invariant.few).0

pub returns-in_err-write_line : goal.returns-in_err-write_line
returns-in_err-write_line g c =
    let p = err_from_is_err_and c.from_residual.result c.from_residual.ensures.1 in
    record { wrote = rw (p.1, p.2) (c.loop-place.invariant.rest _ _ (gate_broke _ _ _ _ _ _ _ _ (drop_at c.args.gates.now c.loop-place.place _ c.gate.ensures) c.in_err-write_line.ensures.wrote)) }

pub loop-place-preserved : goal.loop-place-preserved
loop-place-preserved g c =
    let split = drop_at c.args.gates.now c.loop-place.place _ c.gate.ensures in
    record {
      rest = λ s r later. c.loop-place.invariant.rest s r (gate_then _ _ _ _ _ _ _ _ _ split c.in_ok-write_line.ensures.wrote later);
      few = (rw split at c.loop-place.invariant.few).1;
    }

pub returns : goal.returns
returns g c = record { wrote = c.loop-place.invariant.rest _ _ (gates_done _ _ _ _ (drop_of_length-le c.args.gates.now (omega (arith, c.len-place-end.ensures, c.loop-place-test.false)))) }
