use Rattle.std.proofs.Common.{◌↔◌, map}
use Rattle.tw_state.specs.FreeCells.{EndsAfter}
use Rattle.tw_state.specs.FromCode.{cell_of}
use Rattle.tw_state.proofs.free_cells.ends_after.Given as goal

abbrev pub invariant-loop-left : goal.invariant-loop-left
invariant-loop-left l = EndsAfter (map cell_of l.cells) l.address l.count ↔ EndsAfter (map cell_of l.cells) l.at l.left

abbrev pub decreases-loop-left : goal.decreases-loop-left
decreases-loop-left l = l.left
