use Rattle.std.proofs.Common.{suc, Result, drop, map}
use Rattle.tw_io.specs.declared.device.WriteFault.{WriteFault}
use Rattle.tw_io.specs.Devices.{Wrote}
use Rattle.tw_state.specs.FromCode.{cell_of}
use Rattle.tw_state.specs.StateText.{cell_lines}
use Rattle.tw_state.proofs.printing.write_cells.Given as goal

abbrev pub invariant-loop-place : goal.invariant-loop-place
invariant-loop-place g l =
    let k = g.K.Sink in
    (c : _) (r : Result (Unit {0}) WriteFault) → Wrote k.taken k.faults l.sink c r (cell_lines l.targets (suc l.place) (map cell_of (drop l.place l.cells)))
    → Wrote k.taken k.faults l.fn.sink c r (cell_lines l.targets 1 (map cell_of l.cells))
