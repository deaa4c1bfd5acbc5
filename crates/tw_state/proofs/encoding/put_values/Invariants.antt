use Rattle.std.proofs.Common.{◌≡◌, ◌+◌, length, take, map, flat_map}
use Rattle.tw_types.specs.FromCode.{value_of}
use Rattle.tw_types.specs.Values.{value_bits}
use Rattle.tw_state.specs.EntryEncoding.{Appends}
use Rattle.tw_state.proofs.encoding.put_values.Given as goal

abbrev pub invariant-loop-place : goal.invariant-loop-place
invariant-loop-place l =
    let done = flat_map (value_bits l.checked.resolved.tables.types.widths) (take l.place (map value_of l.values)) in
    record { after : l.next ≡ l.at + length done; appended : Appends l.at done l.initial.bits l.bits }
