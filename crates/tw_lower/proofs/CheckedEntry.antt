-- In an accepted program a built entry can be lowered, and its code simulates it.
use Rattle.std.proofs.Common.{◌≡◌, subst, arith, ℕ, ◌+◌, slice_get, Some}
use Rattle.std.proofs.Math.Logic.{∥∥₁_elim}
use Rattle.tw_syntax.specs.Programs.{FunTree, ProgramTree, program_tree}
use Rattle.tw_code.specs.Trees.{CodeTree}
use Rattle.tw_code.specs.Wires.{EachWire}
use Rattle.tw_resolve.specs.declared.tables.Tables.{Tables}
use Rattle.tw_resolve.specs.Entries.{types_in}
use Rattle.tw_resolve.specs.Resolved.{resolved_setting}
use Rattle.tw_resolve.specs.Setting.{Setting}
use Rattle.tw_check.specs.declared.checked.Checked.{Checked}
use Rattle.tw_check.specs.declared.entry.Entry.{Entry}
use Rattle.tw_state.specs.Steps.{running_bound}
use Rattle.tw_state.proofs.EntryFunctions.{function_of}
use Rattle.tw_state.proofs.EntryResults.{IsSound, IsFunction}
use Rattle.tw_state.proofs.SoundPrograms.{sound}
use Rattle.tw_state.proofs.TypedTrees.{StmtFits}
use Rattle.tw_frames.specs.declared.regions.WireLayout.{WireLayout}
use Rattle.tw_frames.specs.Frames.{Frame, if_count}
use Rattle.tw_frames.specs.Layout.{entry_frame}
use Rattle.tw_frames.specs.Regions.{IsFrame}
use Rattle.tw_lower.specs.Lowering.{Lowers, LowersEntry, IsLayout, IsBuilt, CanLower}
use Rattle.tw_lower.proofs.EntryFrame.{regions_are, entry_is_frame, entry_can_lower}
use Rattle.tw_lower.proofs.ExprBits.{add_values}
use Rattle.tw_lower.proofs.ExprCodes.{IsOfFrame, AddValues}
use Rattle.tw_lower.proofs.LoweredWires.{HasRoom, uses, proper_code}
use Rattle.tw_lower.proofs.OneProof.{entry_code_prop, can_lower_prop}
use Rattle.tw_lower.proofs.PathBits.{cond_owned, cond_reads}
use Rattle.tw_lower.proofs.SimulatedEntry.{IsEntryCode, SimulatesBody, entry_code}
use Rattle.tw_lower.proofs.Simulation.{HasStateBits, simulates}
use Rattle.tw_lower.proofs.StateBits.{HasRegions, if_zero, padded_bits}

module _ (setting : Setting) (layout : WireLayout) (fun : FunTree) (frame : Frame) (good : IsFrame setting layout fun frame) (regions : HasRegions setting layout) where
  -- what the simulation of statements needs of the bits of states
  pub has_state_bits : HasStateBits setting fun frame
  has_state_bits = record {
    owned = cond_owned setting frame;
    cond_reads = λ cond state is boolean typed found. cond_reads setting layout fun frame good regions state typed cond is boolean found;
    if_empty = λ state number typed small. if_zero setting layout fun frame good regions state typed number small;
    padded = λ stmts old new typed pads. padded_bits setting frame frame.types stmts old new pads;
  }

module _ (setting : Setting) (is_sound : IsSound setting) (entry : Entry) (layout : WireLayout) (laid : IsLayout setting entry layout) (fun : FunTree) (found : slice_get setting.funs entry.fun ≡ Some fun) (is : IsFunction setting fun) (built : IsBuilt fun.body) where
  abbrev frame : Frame
  frame = entry_frame setting fun layout

  -- the code of the body
  body_simulates : (own : ℕ) (code : CodeTree) → running_bound entry.bound ≡ Some own → Lowers setting layout frame own 0 fun.body code → SimulatesBody setting layout fun own code
  body_simulates own code runs_as lowers = record {
    uses = subst (λ n. EachWire (IsOfFrame setting layout frame 0 n) code) same (uses setting layout fun frame good adds bits.owned lowers fits can room);
    proper = proper_code setting layout fun frame good adds bits.owned lowers fits can room;
    does = λ old new typed runs. simulates setting is_sound.fit layout fun frame good adds bits lowers fits can room typed runs;
  }
    where
      good : IsFrame setting layout fun frame
      good = entry_is_frame setting entry layout laid fun found own runs_as

      regions : HasRegions setting layout
      regions = regions_are setting entry layout laid fun found

      adds : AddValues setting layout frame
      adds = add_values setting layout fun frame good regions

      bits : HasStateBits setting fun frame
      bits = has_state_bits setting layout fun frame good regions

      fits : StmtFits setting frame.types fun.body
      fits = (is_sound.fit is.name fun is.named).body

      can : CanLower setting layout frame fun.body
      can = entry_can_lower setting entry layout laid fun found own runs_as is_sound is built

      room : HasRoom setting layout fun frame good adds bits.owned 0 fun.body
      room = record { ifs = omega arith; scratch = good.scratch }

      same : 0 + if_count fun.body ≡ if_count fun.body
      same = omega arith

  -- the code of the entry
  pub lowered_entry : (code : CodeTree) → LowersEntry setting layout fun entry.bound code → IsEntryCode setting layout fun entry.bound code
  lowered_entry code lowers = entry_code setting is_sound entry layout laid fun found is body_simulates code lowers

module _ (checked : Checked) (entry : Entry) (layout : WireLayout) (laid : IsLayout (resolved_setting checked.resolved) entry layout) (fun : FunTree) (found : slice_get (resolved_setting checked.resolved).funs entry.fun ≡ Some fun) (built : IsBuilt fun.body) where
  -- what has one proof and holds of each sound program holds of an accepted one
  pub by_checked : (P : Type 0) → IsProp P → (IsSound (resolved_setting checked.resolved) → IsFunction (resolved_setting checked.resolved) fun → P) → P
  by_checked P prop f =
      ∥∥₁_elim checked.resolved.typed prop
      (λ are. ∥∥₁_elim checked.right prop
      (λ right. f (sound tables.types.widths program (types_in tables.types.table.entries) are.typed right) (function_of tables.types.widths program (types_in tables.types.table.entries) are.typed entry.fun fun found)))
    where
      program : ProgramTree
      program = program_tree checked.resolved.program.now

      tables : Tables
      tables = checked.resolved.tables

  -- the body can be lowered
  pub checked_can_lower : (own : ℕ) → running_bound entry.bound ≡ Some own → CanLower (resolved_setting checked.resolved) layout (entry_frame (resolved_setting checked.resolved) fun layout) fun.body
  checked_can_lower own runs_as =
      let setting = resolved_setting checked.resolved in
      by_checked (CanLower setting layout (entry_frame setting fun layout) fun.body) (can_lower_prop setting layout (entry_frame setting fun layout) fun.body)
      (λ is_sound is. entry_can_lower setting entry layout laid fun found own runs_as is_sound is built)

  -- its code simulates the entry, is proper, and has wires below the flags
  pub checked_entry : (code : CodeTree) → LowersEntry (resolved_setting checked.resolved) layout fun entry.bound code → IsEntryCode (resolved_setting checked.resolved) layout fun entry.bound code
  checked_entry code lowers =
      let setting = resolved_setting checked.resolved in
      by_checked (IsEntryCode setting layout fun entry.bound code) (entry_code_prop setting layout fun entry.bound code)
      (λ is_sound is. lowered_entry setting is_sound entry layout laid fun found is built code lowers)
