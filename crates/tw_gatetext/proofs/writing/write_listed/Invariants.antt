use Rattle.std.proofs.Common.{Result, drop}
use Rattle.std.specs.List.{AllByRecursion}
use Rattle.tw_io.specs.declared.device.WriteFault.{WriteFault}
use Rattle.tw_io.specs.Devices.{Wrote}
use Rattle.tw_gatetext.specs.Text.{lines, HasFewControls}
use Rattle.tw_gatetext.proofs.writing.write_listed.Given as goal

abbrev pub invariant-loop-place : goal.invariant-loop-place
invariant-loop-place g l =
    let k = g.K.Sink in
    record {
      rest : (c : _) (r : Result (Unit {0}) WriteFault) → Wrote k.taken k.faults l.sink c r (lines (drop l.place l.gates)) → Wrote k.taken k.faults l.fn.sink c r (lines l.gates);
      few : AllByRecursion HasFewControls (drop l.place l.gates);
    }
