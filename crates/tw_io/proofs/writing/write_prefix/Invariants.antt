use Rattle.std.proofs.Common.{◌≡◌, ◌≤◌, ◌-◌, length, take}
use Rattle.tw_io.specs.Devices.{Appends}
use Rattle.tw_io.proofs.writing.write_prefix.Given as goal

abbrev pub invariant-loop-done : goal.invariant-loop-done
invariant-loop-done g l = record {
  sent : Appends (g.K.Sink.taken l.fn.sink) (g.K.Sink.taken l.sink) (take l.done l.piece);
  within : l.done ≤ length l.piece;
  steady : g.K.Sink.faults l.sink ≡ g.K.Sink.faults l.fn.sink;
  untouched : length l.piece ≡ 0 → l.sink ≡ l.fn.sink;
}

abbrev pub decreases-loop-done : goal.decreases-loop-done
decreases-loop-done g l = length l.piece - l.done
