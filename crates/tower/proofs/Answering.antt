-- What is known of an entry with its price: its code and its file, and the answers to it; or the first limit that it passes.
use Rattle.std.proofs.Common.{◌≡◌, ◌≤◌, sym, subst, refl, arith, ℕ, Bool, true, false, List, [], ◌∷◌, Result, Err, Some, slice_get}
use Rattle.std.specs.List.{AllByRecursion}
use Rattle.tw_text.specs.declared.diagnostic.Diagnostic.TheVariants as diagnostic
use Rattle.tw_text.specs.declared.refusal.Fault.{Fault}
use Rattle.tw_text.specs.declared.refusal.Fault.TheVariants as source_fault
use Rattle.tw_syntax.specs.Programs.{FunTree, ProgramTree, program_tree}
use Rattle.tw_parse.specs.Sources.{IsSource}
use Rattle.tw_types.specs.Types.{Widths}
use Rattle.tw_gate.specs.declared.gate.Level.TheVariants as levels
use Rattle.tw_gate.specs.Gates.{PlainGate, X, inverse, directed}
use Rattle.tw_gatetext.specs.Text.{File, file_text, HasFewControls}
use Rattle.tw_code.specs.Counts.{neither, counts}
use Rattle.tw_code.specs.Emission.{emitted, HasControlsUpTo}
use Rattle.tw_code.specs.Rows.{Row, gates_in, most_controls}
use Rattle.tw_code.specs.Trees.{CodeTree}
use Rattle.tw_code.proofs.Emission.{inverse-emitted}
use Rattle.tw_resolve.specs.Declarations.{funs_of}
use Rattle.tw_resolve.specs.Demands.{Tries}
use Rattle.tw_resolve.specs.Entries.{types_in}
use Rattle.tw_resolve.specs.Programs.{setting_of}
use Rattle.tw_resolve.specs.Resolved.{resolved_setting}
use Rattle.tw_resolve.specs.Setting.{Setting}
use Rattle.tw_resolve.proofs.Each.{each_at}
use Rattle.tw_check.specs.declared.checked.Checked.{Checked}
use Rattle.tw_check.specs.declared.entry.Entry.{Entry}
use Rattle.tw_check.specs.EntryPoints.{IsEntryOf}
use Rattle.tw_frames.specs.declared.measured.Measured.{Measured}
use Rattle.tw_frames.specs.declared.regions.WireLayout.{WireLayout}
use Rattle.tw_frames.specs.Inventory.{line_total}
use Rattle.tw_frames.specs.Layout.{IsLaidOut, HasOneLayout}
use Rattle.tw_frames.specs.Measures.{HasOneMeasure, IsMeasured}
use Rattle.tw_frames.proofs.OneLayout.{one_layout}
use Rattle.tw_interp.specs.Runs.{first_side}
use Rattle.tw_cost.specs.declared.pricing.Priced.{Priced}
use Rattle.tw_cost.specs.Prices.{HasInventory, HasOneInventory, price_rules}
use Rattle.tw_lower.specs.Lowering.{LowersEntry, IsBuilt, IsBuiltFun, IsLayout}
use Rattle.tw_lower.proofs.CheckedCounts.{checked_counts}
use Rattle.tw_lower.proofs.CheckedEntry.{checked_entry}
use Rattle.tw_lower.proofs.SimulatedEntry.{IsEntryCode}
use Rattle.tower.specs.Requests.{FileRequest}
use Rattle.tower.specs.Accepted.{IsReady}
use Rattle.tower.specs.CircuitEntries as circuits
use Rattle.tower.specs.CircuitEntries.{IsWithinLimits, IsPastLimit, IsBuiltTree, IsPricedWithin, IsPricedEntry, HasNoCircuit}
use Rattle.tower.specs.Compile.{IsFileOf, CompileAnswer, Written}
use Rattle.tower.specs.Encode.{StatesAnswer, EncodeAnswer, OnCircuit}
use Rattle.tower.specs.Ending.{of_source}
use Rattle.tower.specs.Entries.{EntryIn}
use Rattle.tower.specs.Outcomes.{Outcome, Prints}
use Rattle.tower.proofs.Entries.{found_entry}
use Rattle.tower.proofs.Circuits.{AreWithin, are_within, few}

-- the demands that a price tries
abbrev pub TriesPrice : Setting → Entry → Result Priced Fault → Type 0
TriesPrice setting entry result =
    (measured : Measured) (rows : List Row) (layout : WireLayout) → IsMeasured setting entry measured → HasInventory setting entry neither rows
    → IsLaidOut setting entry neither levels.Mcx (most_controls rows) layout → Tries (price_rules measured (most_controls rows) layout (line_total levels.Mcx rows)) result

-- why an entry with this measure has no price: a limit, or memory ran out
abbrev pub IsFaultOf : Setting → Entry → Measured → Fault → Type 0
IsFaultOf setting entry measured (source_fault.Refused refusal) = IsPastLimit setting entry measured refusal
IsFaultOf setting entry measured source_fault.Memory = Unit {0}

-- a price that is refused names the first limit that does not hold
pub is_fault : (setting : Setting) (entry : Entry) → HasOneInventory setting entry neither → (fault : Fault) → TriesPrice setting entry (Err fault) → (measured : Measured) → IsMeasured setting entry measured
    → IsFaultOf setting entry measured fault
is_fault setting entry one source_fault.Memory tried measured measures = tt
is_fault setting entry one (source_fault.Refused refusal) tried measured measures =
    let laid : HasOneLayout setting entry neither levels.Mcx (most_controls one.rows) = one_layout setting entry neither levels.Mcx (most_controls one.rows) measured measures in
    record {
      rows = one.rows;
      layout = laid.layout;
      circuit = record { inventory = one.is; laid_out = laid.is };
      broken = (tried measured one.rows laid.layout measures one.is laid.is).reported;
    }

-- gates of at most 64 controls
few_controls : (most : ℕ) → most ≤ 64 → (gates : List PlainGate) → AllByRecursion (HasControlsUpTo most) gates → AllByRecursion HasFewControls gates
few_controls most few [] room = tt
few_controls most few (X controls target ∷ gates) room = (omega (arith, few, room.0), few_controls most few gates room.1)
few_controls most few (gate ∷ gates) room = (tt, few_controls most few gates room.1)

-- the entry, with its price
module _ (checked : Checked) (entry : Entry) (priced : Priced) (is : IsPricedWithin (resolved_setting checked.resolved) entry priced) where
  abbrev setting : Setting
  setting = resolved_setting checked.resolved

  -- breaks no limit
  abbrev pub limits : (measured : Measured) → IsMeasured setting entry measured → IsWithinLimits setting entry measured priced.layout
  limits measured measures = record { rows = is.price.rows; circuit = record { inventory = is.price.inventory; laid_out = is.price.layout }; within = is.within measured measures }

  few_wires : AreWithin is.price.rows priced.layout
  few_wires = are_within is.one_measure.measured is.price.rows priced.layout (is.within is.one_measure.measured is.one_measure.is)

  pub body_built : (fun : FunTree) → slice_get setting.funs entry.fun ≡ Some fun → IsBuilt fun.body
  body_built fun found = (each_at IsBuiltFun setting.funs entry.fun fun is.built found).body

  pub is_layout : IsLayout setting entry priced.layout
  is_layout = record {
    options = neither;
    level = levels.Mcx;
    most_controls = most_controls is.price.rows;
    laid_out = is.price.layout;
    within = few_wires.wires;
    regions = is.regions;
    frames = is.frames;
  }

  module _ (code : CodeTree) (lowered : (fun : FunTree) → slice_get setting.funs entry.fun ≡ Some fun → LowersEntry setting priced.layout fun entry.bound code) where
    abbrev fun : FunTree
    fun = is.price.inventory.fun

    pub is_code : IsEntryCode setting priced.layout fun entry.bound code
    is_code = checked_entry checked entry priced.layout is_layout fun is.price.inventory.at (body_built fun is.price.inventory.at) code (lowered fun is.price.inventory.at)

    counted : (wanted : ℕ) → counts neither code 0 wanted ≡ gates_in is.price.rows wanted
    counted = checked_counts checked entry priced.layout is_layout fun is.price.inventory.at (body_built fun is.price.inventory.at) neither code is.price.rows (lowered fun is.price.inventory.at) is.price.inventory.is

    -- there is room for the controls of its gates
    pub room : (backward : Bool) → AllByRecursion (HasControlsUpTo priced.most_controls) (emitted code backward [])
    room backward = subst (λ most. AllByRecursion (HasControlsUpTo most) (emitted code backward [])) (sym is.price.most) (few setting fun entry.bound priced.layout code is_code is.price.rows counted backward)

    pub few_directed : (back : Bool) → AllByRecursion HasFewControls (directed back (emitted code false []))
    few_directed back = by back
      where
        few_most : priced.most_controls ≤ 64
        few_most = subst (λ most. most ≤ 64) (sym is.price.most) few_wires.controls

        by : (b : Bool) → AllByRecursion HasFewControls (directed b (emitted code false []))
        by false = few_controls priced.most_controls few_most (emitted code false []) (room false)
        by true = subst (λ gates. AllByRecursion HasFewControls gates) (sym (inverse-emitted code false [])) (few_controls priced.most_controls few_most (emitted code true []) (room true))

    -- so its file is that of these gates
    pub is_file : (measured : Measured) → IsMeasured setting entry measured → (back : Bool) (gates : List PlainGate) → gates ≡ directed back (emitted code false [])
        → IsFileOf setting entry measured back (record { level = levels.Mcx; wires = priced.layout.wires; t_count = priced.t_count; gates = gates })
    is_file measured measures back gates are = record {
      layout = priced.layout;
      limits = limits measured measures;
      code = code;
      lowered = lowered is.price.inventory.fun is.price.inventory.at;
      is = λ i. record { level = levels.Mcx; wires = priced.layout.wires; t_count = is.price.t_count i; gates = are i };
    }

-- the answers of an entry that was found
module _ (request : FileRequest) (bytes : List ℕ) (checked : Checked) (entry : Entry) (priced : Priced) (is : IsPricedEntry request bytes checked entry priced) where
  abbrev pub tree : ProgramTree
  tree = program_tree checked.resolved.program.now

  abbrev measured : Measured
  measured = is.within_limits.one_measure.measured

  abbrev setting_with : Widths → Setting
  setting_with widths = setting_of widths tree (types_in checked.resolved.tables.types.table.entries)

  abbrev found : EntryIn request tree
  found = found_entry checked request is.widths is.ready entry is.is_entry measured is.within_limits.one_measure.is

  -- its file
  pub by_file : (file : File) → ((measured : Measured) → IsMeasured (resolved_setting checked.resolved) entry measured → IsFileOf (resolved_setting checked.resolved) entry measured request.inverse file)
      → CompileAnswer request tree (Prints (file_text file))
  by_file file files =
      Written is.within_limits.built found file (subst (λ (w : Widths). IsFileOf (setting_with w) entry measured request.inverse file) is.widths (files measured is.within_limits.one_measure.is)) refl

  -- and what answers a text of states
  pub by_states : (lines : List ℕ) (outcome : Outcome) → StatesAnswer priced.layout.wires (resolved_setting checked.resolved) (first_side request.inverse) is.is_entry.is_entry.fun lines outcome → EncodeAnswer request lines tree outcome
  by_states lines outcome answer =
      OnCircuit is.within_limits.built found priced.layout
      (subst (λ (w : Widths). IsWithinLimits (setting_with w) entry measured priced.layout) is.widths (limits checked entry priced is.within_limits measured is.within_limits.one_measure.is))
      (subst (λ (w : Widths). StatesAnswer priced.layout.wires (setting_with w) (first_side request.inverse) is.is_entry.is_entry.fun lines outcome) is.widths answer)

-- an entry that passes a limit
pub is_past_limit : (request : FileRequest) (checked : Checked) → checked.resolved.tables.types.widths ≡ request.widths → IsReady request (program_tree checked.resolved.program.now) → (entry : Entry)
    → IsEntryOf (funs_of (program_tree checked.resolved.program.now).decls) request.entry request.bound entry → IsBuiltTree (program_tree checked.resolved.program.now) → (one : HasOneMeasure (resolved_setting checked.resolved) entry)
    → (bytes : List ℕ) → IsSource bytes (program_tree checked.resolved.program.now) → (fault : Fault) → IsFaultOf (resolved_setting checked.resolved) entry one.measured fault → HasNoCircuit request bytes (of_source fault)
is_past_limit request checked same ready entry is_entry built one bytes source (source_fault.Refused refusal) past =
    circuits.OnTree (program_tree checked.resolved.program.now) (diagnostic.Refused refusal) source
    (circuits.PastLimit refusal built (found_entry checked request same ready entry is_entry one.measured one.is)
    (subst (λ (w : Widths). IsPastLimit (setting_of w (program_tree checked.resolved.program.now) (types_in checked.resolved.tables.types.table.entries)) entry one.measured refusal) same past) refl)
is_past_limit request checked same ready entry is_entry built one bytes source source_fault.Memory past = circuits.OutOfMemory
