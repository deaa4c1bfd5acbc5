-- Entries whose circuit is within the limits, and the refusal of all others.
use Rattle.std.specs.Prelude.{◌≡◌, ℕ, List, Some, None}
use Rattle.tw_text.specs.declared.refusal.Refusal.{Refusal}
use Rattle.tw_text.specs.declared.diagnostic.Diagnostic.{Diagnostic}
use Rattle.tw_text.specs.declared.diagnostic.Diagnostic.TheVariants as diagnostic
use Rattle.tw_syntax.specs.Programs.{ProgramTree, program_tree}
use Rattle.tw_parse.specs.Sources as sources
use Rattle.tw_parse.specs.Sources.{IsSource}
use Rattle.tw_gate.specs.declared.gate.Level.TheVariants as levels
use Rattle.tw_code.specs.Counts.{neither}
use Rattle.tw_code.specs.Rows.{Row, most_controls}
use Rattle.tw_resolve.specs.Declarations.{funs_of}
use Rattle.tw_resolve.specs.Demands.{Demand, first_broken}
use Rattle.tw_resolve.specs.Resolved.{resolved_setting}
use Rattle.tw_resolve.specs.Setting.{Setting}
use Rattle.tw_check.specs.declared.checked.Checked.{Checked}
use Rattle.tw_check.specs.declared.entry.Entry.{Entry}
use Rattle.tw_check.specs.EntryPoints.{IsEntry, IsEntryOf}
use Rattle.tw_frames.specs.declared.measured.Measured.{Measured}
use Rattle.tw_frames.specs.declared.regions.WireLayout.{WireLayout}
use Rattle.tw_frames.specs.Inventory.{line_total}
use Rattle.tw_frames.specs.Layout.{IsLaidOut}
use Rattle.tw_frames.specs.Measures.{HasOneMeasure, IsMeasured}
use Rattle.tw_frames.specs.Regions.{AreFrames, AreInOrder}
use Rattle.tw_cost.specs.declared.pricing.Priced.{Priced}
use Rattle.tw_cost.specs.Prices.{HasInventory, IsPriced, price_rules}
use Rattle.tw_lower.specs.Lowering.{IsBuiltProgram}
use Rattle.tower.specs.declared.ending.Unanswered.{Unanswered}
use Rattle.tower.specs.declared.ending.Unanswered.TheVariants as unanswered
use Rattle.tower.specs.Requests.{FileRequest}
use Rattle.tower.specs.Accepted.{BreaksFirst, IsReady, IsBadEntry}
use Rattle.tower.specs.Entries.{EntryIn, setting_in}

-- the inventory and the layout of an entry, at level `mcx` and without rewriting
pub record HasCircuit (setting : Setting) (entry : Entry) (rows : List Row) (layout : WireLayout) : Type 0 where
  pub inventory : HasInventory setting entry neither rows
  pub laid_out : IsLaidOut setting entry neither levels.Mcx (most_controls rows) layout

-- the demands on an entry with this measure, this inventory and this layout
abbrev pub circuit_rules : Measured → List Row → WireLayout → List Demand
circuit_rules measured rows layout = price_rules measured (most_controls rows) layout (line_total levels.Mcx rows)

-- an entry with this measure has a circuit on this layout within all limits
pub record IsWithinLimits (setting : Setting) (entry : Entry) (measured : Measured) (layout : WireLayout) : Type 0 where
  pub rows : List Row
  pub circuit : HasCircuit setting entry rows layout
  pub within : first_broken (circuit_rules measured rows layout) ≡ None

-- an entry with this measure is refused: this limit is the first that does not hold
pub record IsPastLimit (setting : Setting) (entry : Entry) (measured : Measured) (refusal : Refusal) : Type 0 where
  pub rows : List Row
  pub layout : WireLayout
  pub circuit : HasCircuit setting entry rows layout
  pub broken : first_broken (circuit_rules measured rows layout) ≡ Some refusal

-- all functions of the program are compiled so far
abbrev pub IsBuiltTree : ProgramTree → Type 0
IsBuiltTree tree = IsBuiltProgram (funs_of tree.decls)

-- Why the entry of a request has no circuit. A program that is not accepted is refused by its first broken rule, and an accepted one
-- without the entry by `bad-entry`. Of the others, a program with a function that is not compiled yet is refused as not built, and an
-- entry that passes a limit by the first such limit.
pub data IsRefusedEntry (request : FileRequest) (tree : ProgramTree) (why : Diagnostic) : Type 0 where
  Broken : (refusal : Refusal) → BreaksFirst request.widths tree refusal → why ≡ diagnostic.Refused refusal → IsRefusedEntry request tree why
  BadEntry : (refusal : Refusal) → IsBadEntry request tree refusal → why ≡ diagnostic.Refused refusal → IsRefusedEntry request tree why
  NotBuilt : IsReady request tree → ¬ IsBuiltTree tree → why ≡ diagnostic.NotBuilt → IsRefusedEntry request tree why
  PastLimit : (refusal : Refusal) → IsBuiltTree tree → (found : EntryIn request tree) → IsPastLimit (setting_in found) found.entry found.measured refusal
      → why ≡ diagnostic.Refused refusal → IsRefusedEntry request tree why

-- the price of an entry of a compiled program, which passes no limit
pub record IsPricedWithin (setting : Setting) (entry : Entry) (priced : Priced) : Type 0 where
  pub is_entry : IsEntry setting.funs entry
  pub built : IsBuiltProgram setting.funs
  pub one_measure : HasOneMeasure setting entry
  pub price : IsPriced setting entry neither levels.Mcx priced
  pub within : (measured : Measured) → IsMeasured setting entry measured → first_broken (circuit_rules measured price.rows priced.layout) ≡ None
  pub regions : AreInOrder setting.widths priced.layout
  pub frames : AreFrames setting entry priced.layout

-- the entry of a request, in an accepted program whose source these bytes are, with its price
pub record IsPricedEntry (request : FileRequest) (bytes : List ℕ) (checked : Checked) (entry : Entry) (priced : Priced) : Type 0 where
  pub source : IsSource bytes (program_tree checked.resolved.program.now)
  pub widths : checked.resolved.tables.types.widths ≡ request.widths
  pub ready : IsReady request (program_tree checked.resolved.program.now)
  pub is_entry : IsEntryOf (funs_of (program_tree checked.resolved.program.now).decls) request.entry request.bound entry
  pub within_limits : IsPricedWithin (resolved_setting checked.resolved) entry priced

-- why a source has no entry with a circuit: the source or the entry is refused; memory may run out at any time
pub data HasNoCircuit (request : FileRequest) (bytes : List ℕ) : Unanswered → Type 0 where
  NoSource : (refusal : Refusal) → sources.IsRefused bytes refusal → HasNoCircuit request bytes (unanswered.Refused (diagnostic.Refused refusal))
  OnTree : (tree : ProgramTree) (why : Diagnostic) → IsSource bytes tree → IsRefusedEntry request tree why → HasNoCircuit request bytes (unanswered.Refused why)
  OutOfMemory : HasNoCircuit request bytes unanswered.Memory
