use Rattle.std.proofs.Common.{◌≡◌, Result, drop, length, map}
use Rattle.tw_io.specs.declared.device.WriteFault.{WriteFault}
use Rattle.tw_resolve.specs.Resolved.{resolved_setting}
use Rattle.tw_state.specs.FromCode.{listed_of}
use Rattle.tower.specs.Encodings.{WroteEncodings}
use Rattle.tower.proofs.encode.write_encodings.Given as goal

abbrev pub invariant-loop-state : goal.invariant-loop-state
invariant-loop-state g l =
    let k = g.K.Sink in
    let setting = resolved_setting l.fn.checked.resolved in
    let wires = length l.fn.bits in
    record {
      zeros : l.bits ≡ l.fn.bits;
      line : length l.line ≡ length l.fn.line;
      later :
          (c : _) (r : Result (Unit {0}) WriteFault) → WroteEncodings k.taken k.faults l.output c r wires setting l.fn.entry.fun l.fn.side (map listed_of (drop l.state-index l.states))
          → WroteEncodings k.taken k.faults l.fn.output c r wires setting l.fn.entry.fun l.fn.side (map listed_of l.states);
    }
