use Rattle.std.proofs.Common.{◌≡◌, ◌≤◌, ◌+◌, [], List, ℕ, length, map}
use Rattle.tw_syntax.specs.Programs.{fun_tree}
use Rattle.tw_types.specs.Types.{block_count}
use Rattle.tw_types.specs.FromCode.{value_of}
use Rattle.tw_resolve.specs.Resolved.{resolved_setting}
use Rattle.tw_state.specs.FromCode.{ListedState}
use Rattle.tw_state.specs.StateLines.{InState}
use Rattle.tw_state.specs.Reading.{Leads, partial}
use Rattle.tw_state.proofs.reading.read_values.Given as goal

abbrev pub invariant-loop-place : goal.invariant-loop-place
invariant-loop-place l = record {
  counted : length l.values.items ≡ l.place;
  lines_counted : l.read ≡ l.lines + l.place;
  within : l.read + length l.rest ≤ l.lines + length l.bytes;
  led : (states : List ListedState) (state : ListedState) → length state.cells ≡ block_count l.checked.resolved.tables.types.widths
      → Leads (resolved_setting l.checked.resolved) l.fn.side (fun_tree l.fun) (InState states (partial state.head state.cells [])) l.lines l.bytes (InState states (partial state.head state.cells (map value_of l.values.items))) l.read l.rest;
}
