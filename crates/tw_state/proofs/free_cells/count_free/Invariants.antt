use Rattle.std.proofs.Common.{◌≡◌, ◌≤◌, count_by, take}
use Rattle.tw_state.specs.FreeCells.{is_free}
use Rattle.tw_state.specs.FromCode.{cell_of}
use Rattle.tw_state.proofs.free_cells.count_free.Given as goal

abbrev pub invariant-loop-cell : goal.invariant-loop-cell
invariant-loop-cell l = record {
  counted : l.count ≡ count_by (λ cell. is_free (cell_of cell)) (take l.cell-index l.cells);
  within : l.count ≤ l.cell-index;
}
