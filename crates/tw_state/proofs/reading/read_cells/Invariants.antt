use Rattle.std.proofs.Common.{◌≡◌, ◌≤◌, ◌+◌, [], List, ℕ, length, map}
use Rattle.tw_syntax.specs.Programs.{FunTree}
use Rattle.tw_resolve.specs.Setting.{Setting}
use Rattle.tw_resolve.specs.Tables.{AreTargets}
use Rattle.tw_state.specs.FromCode.{ListedState, cell_of}
use Rattle.tw_state.specs.StateLines.{InState}
use Rattle.tw_state.specs.Reading.{Leads, partial}
use Rattle.tw_state.specs.declared.state.Side.{Side}
use Rattle.tw_state.proofs.reading.read_cells.Given as goal

abbrev pub invariant-loop-block : goal.invariant-loop-block
invariant-loop-block l = record {
  counted : length l.cells.items ≡ l.block;
  lines_counted : l.read ≡ l.initial.read + l.block;
  within : l.read + length l.rest ≤ l.initial.read + length l.bytes;
  led : (setting : Setting) (side : Side) (fun : FunTree) (states : List ListedState) (head : ℕ) → l.widths ≡ setting.widths → ∥ AreTargets setting l.targets ∥₁
      → Leads setting side fun (InState states (partial head [] [])) l.initial.read l.bytes (InState states (partial head (map cell_of l.cells.items) [])) l.read l.rest;
}
