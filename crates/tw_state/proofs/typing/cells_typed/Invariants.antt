use Rattle.std.proofs.Common.{◌↔◌, drop, map}
use Rattle.std.specs.List.{AllByRecursion}
use Rattle.tw_state.specs.TypedLists.{IsCell}
use Rattle.tw_state.specs.FromCode.{cell_of}
use Rattle.tw_state.proofs.typing.cells_typed.Given as goal

abbrev pub invariant-loop-cell : goal.invariant-loop-cell
invariant-loop-cell l =
    AllByRecursion (IsCell l.widths l.targets) (map cell_of l.cells) ↔ AllByRecursion (IsCell l.widths l.targets) (map cell_of (drop l.cell-index l.cells))
