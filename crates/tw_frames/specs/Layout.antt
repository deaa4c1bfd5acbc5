-- The layout of an entry: its wires in eight regions, one after the other.
use Rattle.std.specs.Prelude.{◌≡◌, ℕ, ◌+◌, ◌-◌, List, [], ◌∷◌, map, if◌then◌else◌, slice_get, Some, None, Result, OnOk, IfOk, IfErr}
use Rattle.tw_text.specs.declared.refusal.Counted.TheVariants as counted
use Rattle.tw_text.specs.declared.refusal.Refusal.{Refusal}
use Rattle.tw_syntax.specs.Programs.{FunTree}
use Rattle.tw_gate.specs.declared.gate.Level.{Level}
use Rattle.tw_gate.specs.declared.gate.Level.TheVariants as levels
use Rattle.tw_code.specs.declared.code.Options.{Options}
use Rattle.tw_types.specs.Types.{Widths, block_size}
use Rattle.tw_resolve.specs.Demands.{Demand, first_broken}
use Rattle.tw_resolve.specs.Setting.{Setting, reported}
use Rattle.tw_check.specs.declared.entry.Entry.{Entry}
use Rattle.tw_state.specs.EntryEncoding.{targets_in}
use Rattle.tw_state.specs.Listed.{names_at_start, names_at_end}
use Rattle.tw_state.specs.Steps.{fun_types}
use Rattle.tw_frames.specs.declared.measured.Measured.{Measured}
use Rattle.tw_frames.specs.declared.regions.RegionSizes.{RegionSizes}
use Rattle.tw_frames.specs.declared.regions.WireLayout.{WireLayout}
use Rattle.tw_frames.specs.declared.workspace.Workspace.{Workspace}
use Rattle.tw_frames.specs.Sizes.{name_size, names_size, memory_size, wire_from}
use Rattle.tw_frames.specs.Frames.{Frame, frame_from}
use Rattle.tw_frames.specs.Measures.{MeasuresEntry, within_limit}
use Rattle.tw_frames.specs.Workspaces.{NeedsEntry}

-- the flags: with flattening, one for each `if` that is nested in another, at the deepest place
abbrev pub flag_count : Options → ℕ → ℕ
flag_count options if_depth = if options.flatten then if_depth - 1 else 0

-- the ladder: at levels without X gates of more than two controls, the ancillas of the gate with the most controls
abbrev pub ladder_size : Level → ℕ → ℕ
ladder_size levels.Mcx most_controls = 0
ladder_size levels.Tof most_controls = most_controls - 2
ladder_size levels.T most_controls = most_controls - 2

-- the number of wires of each region, and of a block of memory
abbrev pub region_sizes : Setting → FunTree → Workspace → (flags ladder : ℕ) → RegionSizes
region_sizes setting fun workspace flags ladder =
    let types = fun_types setting fun in
    record {
      block = block_size setting.widths (targets_in setting);
      args = names_size setting.widths types (names_at_start fun);
      out = name_size setting.widths types fun.returned.text;
      frames = workspace.frames;
      scratch = workspace.scratch;
      flags = flags;
      ladder = ladder;
    }

-- the regions in order: the memory, the parameters, the result, the frames, the scratch, the flags and the ladder
abbrev pub in_order : Widths → RegionSizes → WireLayout
in_order widths sizes =
    let args = memory_size widths sizes.block in
    let out = args + sizes.args in
    let frame = out + sizes.out in
    let scratch = frame + sizes.frames in
    let flags = scratch + sizes.scratch in
    let ladder = flags + sizes.flags in
    record { block = sizes.block; args = args; out = out; frame = frame; scratch = scratch; flags = flags; ladder = ladder; wires = ladder + sizes.ladder }

-- this is the layout of an entry of the program, with these options, at this level, if no gate has more controls than this
pub record IsLaidOut (setting : Setting) (entry : Entry) (options : Options) (level : Level) (most_controls : ℕ) (layout : WireLayout) : Type 0 where
  pub fun : FunTree
  pub workspace : Workspace
  pub measured : Measured
  pub at : slice_get setting.funs entry.fun ≡ Some fun
  pub needs : NeedsEntry setting fun entry.bound workspace
  pub measures : MeasuresEntry setting fun entry.bound measured
  pub is : layout ≡ in_order setting.widths (region_sizes setting fun workspace (flag_count options measured.if_depth) (ladder_size level most_controls))

-- an entry has one layout
pub record HasOneLayout (setting : Setting) (entry : Entry) (options : Options) (level : Level) (most_controls : ℕ) : Type 0 where
  pub layout : WireLayout
  pub is : IsLaidOut setting entry options level most_controls layout
  pub only : (other : WireLayout) → IsLaidOut setting entry options level most_controls other → layout ≡ other

-- the demand on a layout: its wires are within their limit
abbrev pub wire_rules : WireLayout → List Demand
wire_rules layout = within_limit counted.Wires layout.wires ∷ []

-- the answer for a layout: the layout, if its wires are within their limit, and else the refusal by this limit
pub record IsPlaced (layout : WireLayout) (result : Result WireLayout Refusal) : Type 0 where
  pub placed : IfOk result (λ found. found ≡ layout)
  pub kept : OnOk result (first_broken (wire_rules layout) ≡ None)
  pub refused : IfErr result (λ refusal. first_broken (wire_rules layout) ≡ Some refusal)

-- the sizes that are reported: a greater one than a `u64` holds is the greatest `u64`
abbrev pub capped_sizes : RegionSizes → RegionSizes
capped_sizes sizes = record {
  block = reported sizes.block;
  args = reported sizes.args;
  out = reported sizes.out;
  frames = reported sizes.frames;
  scratch = reported sizes.scratch;
  flags = reported sizes.flags;
  ladder = reported sizes.ladder;
}

-- the frame of the entry: its parameters and its result have regions of their own, and all else lies from the first wire of the frames on
abbrev pub entry_frame : Setting → FunTree → WireLayout → Frame
entry_frame setting fun layout =
    let names = names_at_end fun in
    frame_from setting fun (map (λ name. (name, name)) names) (wire_from setting.widths (fun_types setting fun) layout.args names) layout.frame
