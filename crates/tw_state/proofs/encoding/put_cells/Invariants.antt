use Rattle.std.proofs.Common.{◌≡◌, ◌+◌, ◌*◌, length, drop, take, map, flat_map}
use Rattle.tw_types.specs.Types.{block_size}
use Rattle.tw_state.specs.Encoding.{cell_bits}
use Rattle.tw_state.specs.EntryEncoding.{Appends}
use Rattle.tw_state.specs.FromCode.{cell_of}
use Rattle.tw_state.proofs.encoding.put_cells.Given as goal

abbrev pub invariant-loop-cell : goal.invariant-loop-cell
invariant-loop-cell l =
    let cells = map cell_of l.cells in
    let size = block_size l.widths l.targets in
    let done = flat_map (cell_bits l.widths l.targets) (take l.cell-index cells) in
    record {
      is_size : l.block ≡ size;
      left : l.next + length (drop l.cell-index cells) * size ≡ l.at + length cells * size;
      place : l.next ≡ l.at + length done;
      appended : Appends l.at done l.initial.bits l.bits;
    }
