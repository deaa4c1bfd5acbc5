use Rattle.std.proofs.Common.{◌≡◌, ◌++◌, ◌-◌, suc, map}
use Rattle.tw_state.specs.FromCode.{cell_of}
use Rattle.tw_ground.specs.Lists.{free_cells}
use Rattle.tw_ground.proofs.making.push_free.Given as goal

abbrev pub invariant-loop-place : goal.invariant-loop-place
invariant-loop-place l = map cell_of l.cells.items ++ free_cells (suc l.place) (l.blocks - l.place) ≡ map cell_of l.initial.cells.items ++ free_cells (suc l.used) (l.blocks - l.used)
