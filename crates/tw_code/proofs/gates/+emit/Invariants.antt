use Rattle.std.proofs.Common.{◌≤◌, true, false, length, map, take, drop}
use Rattle.std.specs.List.{AllByRecursion}
use Rattle.tw_code.specs.Trees.{code_tree, sequence}
use Rattle.tw_code.specs.Emission.{emitted, CanTake}
use Rattle.tw_code.specs.Present.{present_list}
use Rattle.tw_code.proofs.Joining.{Completes}
use Rattle.tw_code.proofs.gates.+emit.Given as goal

abbrev pub invariant-emit_parts-loop-left : goal.invariant-emit_parts-loop-left
invariant-emit_parts-loop-left g l =
    let left = emitted (sequence (map code_tree (take l.left l.parts))) true (present_list l.present) in
    let whole = emitted (sequence (map code_tree l.parts)) true (present_list l.present) in
    record {
      in_range : l.left ≤ length l.parts;
      can : AllByRecursion (CanTake g.O.GateOut.fits l.out (length l.buffer)) left;
      rest : Completes g.O.GateOut.took g.O.GateOut.broke g.O.GateOut.faults l.initial.out l.out left whole;
    }

abbrev pub decreases-emit_parts-loop-left : goal.decreases-emit_parts-loop-left
decreases-emit_parts-loop-left g l = l.left

abbrev pub invariant-emit_parts-loop-part : goal.invariant-emit_parts-loop-part
invariant-emit_parts-loop-part g l =
    let left = emitted (sequence (map code_tree (drop l.part-index l.parts))) false (present_list l.present) in
    let whole = emitted (sequence (map code_tree l.parts)) false (present_list l.present) in
    record {
      can : AllByRecursion (CanTake g.O.GateOut.fits l.out (length l.buffer)) left;
      rest : Completes g.O.GateOut.took g.O.GateOut.broke g.O.GateOut.faults l.initial.out l.out left whole;
    }
