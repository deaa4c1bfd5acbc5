use Rattle.std.proofs.Common.{Result, drop, map}
use Rattle.tw_io.specs.declared.device.WriteFault.{WriteFault}
use Rattle.tw_io.specs.Devices.{Wrote}
use Rattle.tw_syntax.specs.Programs.{fun_tree}
use Rattle.tw_types.specs.FromCode.{value_of}
use Rattle.tw_state.specs.Listed.{names_at_end}
use Rattle.tw_state.specs.StateText.{name_lines}
use Rattle.tw_state.proofs.printing.write_values.Given as goal

abbrev pub invariant-loop-place : goal.invariant-loop-place
invariant-loop-place g l =
    let k = g.K.Sink in
    let names = names_at_end (fun_tree l.fun) in
    (c : _) (r : Result (Unit {0}) WriteFault) → Wrote k.taken k.faults l.sink c r (name_lines (drop l.place names) (map value_of (drop l.place l.values)))
    → Wrote k.taken k.faults l.fn.sink c r (name_lines names (map value_of l.values))
