use Rattle.std.proofs.Common.{◌≡◌, ◌++◌, suc, drop, map}
use Rattle.tw_state.specs.FromCode.{cell_of}
use Rattle.tw_ground.specs.Lists.{item_cells}
use Rattle.tw_ground.proofs.making.push_items.Given as goal

abbrev pub invariant-loop-place : goal.invariant-loop-place
invariant-loop-place l = map cell_of l.cells.items ++ item_cells (suc l.place) (drop l.place l.items) ≡ map cell_of l.initial.cells.items ++ item_cells 1 l.items
