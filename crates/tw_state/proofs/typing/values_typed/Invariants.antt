use Rattle.std.proofs.Common.{◌↔◌, drop, take, map, length}
use Rattle.tw_syntax.specs.Programs.{fun_tree}
use Rattle.tw_types.specs.FromCode.{value_of}
use Rattle.tw_resolve.specs.Resolved.{resolved_setting}
use Rattle.tw_state.specs.Listed.{HaveTypes, names_at_end}
use Rattle.tw_state.specs.Steps.{fun_types}
use Rattle.tw_state.proofs.typing.values_typed.Given as goal

abbrev pub invariant-loop-place : goal.invariant-loop-place
invariant-loop-place l =
    let widths = l.checked.resolved.tables.types.widths in
    let types = fun_types (resolved_setting l.checked.resolved) (fun_tree l.fun) in
    let names = take (length l.values) (names_at_end (fun_tree l.fun)) in
    let values = map value_of l.values in
    HaveTypes widths types names values ↔ HaveTypes widths types (drop l.place names) (drop l.place values)
