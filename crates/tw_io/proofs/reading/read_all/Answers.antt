use Rattle.std.proofs.Common.{ℕ, ◌++◌, take, refl, length-append, length-take, arith}
use Rattle.tw_io.proofs.Devices.{takes_both}
use Rattle.tw_io.proofs.reading.read_all.Goals as goal

-- the bytes taken before, and those of the last read, for which memory ran out
pub returns-then-is_err-clause-memory_within : goal.returns-then-is_err-clause-memory_within
returns-then-is_err-clause-memory_within g c = λ _. record {
  bytes = c.loop-buf.bytes.items ++ take c.in-Ok.taken c.read.new.buf;
  enough = omega (arith, length-append {A = ℕ}, length-take {A = ℕ}, c.in-Ok.ensures.within);
  within = omega (arith, length-append {A = ℕ}, length-take {A = ℕ}, c.in-Ok.ensures.within, c.loop-buf.bytes.ok.0);
  taken = takes_both _ _ _ _ _ c.loop-buf.invariant.got c.in-Ok.ensures.bytes;
}

pub returns-then-is_err-clause-takes : goal.returns-then-is_err-clause-takes
returns-then-is_err-clause-takes g c =
    let took = returns-then-is_err-clause-memory_within g c refl in
    record { bytes = took.bytes; enough = omega arith; within = took.within; taken = took.taken }
