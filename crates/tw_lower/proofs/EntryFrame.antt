-- The frame of the entry: where its regions are, that its names have wires of the layout, and that a built body can be lowered.
use Rattle.std.proofs.Common.{◌≡◌, ◌∙◌, ◌≤◌, ap, sym, subst, refl, arith, ℕ, ◌+◌, Bool, true, false, if◌then◌else◌, List, [], ◌∷◌, map, slice_get, Some, bytes_eq}
use Rattle.tw_syntax.specs.Programs.{FunTree}
use Rattle.tw_types.specs.Types.{Widths, block_size}
use Rattle.tw_resolve.specs.Expressions.{Types}
use Rattle.tw_resolve.specs.Setting.{Setting}
use Rattle.tw_check.specs.declared.entry.Entry.{Entry}
use Rattle.tw_state.specs.EntryEncoding.{targets_in}
use Rattle.tw_state.specs.Listed.{names_at_start, names_at_end}
use Rattle.tw_state.specs.States.{Name}
use Rattle.tw_state.specs.Steps.{fun_types, running_bound}
use Rattle.tw_state.proofs.Basics.{same_some}
use Rattle.tw_state.proofs.EntryResults.{IsSound, IsFunction}
use Rattle.tw_frames.specs.declared.regions.WireLayout.{WireLayout}
use Rattle.tw_frames.specs.Frames.{linked_wire, local_names}
use Rattle.tw_frames.specs.Layout.{entry_frame, flag_count, ladder_size, region_sizes, in_order}
use Rattle.tw_frames.specs.Regions.{IsFrame, ReachesEntry}
use Rattle.tw_frames.specs.Sizes.{name_size, names_size, wire_from}
use Rattle.tw_lower.specs.Lowering.{IsLayout, IsBuilt, CanLower}
use Rattle.tw_lower.proofs.Encoded.{names_size-last}
use Rattle.tw_lower.proofs.Lowerable.{right_differ, can_lower}
use Rattle.tw_lower.proofs.StateBits.{HasRegions}

module _ (widths : Widths) (types : Types) where
  -- no name begins after the end of the names
  wire_from-end : (first : ℕ) (names : List Name) (name : Name) → wire_from widths types first names name ≤ first + names_size widths types names
  wire_from-end first [] name = omega arith
  wire_from-end first (other ∷ names) name = by (bytes_eq other name) (wire_from-end (first + name_size widths types other) names name)
    where
      by : (k : Bool) → wire_from widths types (first + name_size widths types other) names name ≤ first + name_size widths types other + names_size widths types names
          → (if k then first else wire_from widths types (first + name_size widths types other) names name) ≤ first + (name_size widths types other + names_size widths types names)
      by true rest = omega arith
      by false rest = omega (arith, rest)

-- a name lies on a shared wire or on its own
linked_within : (names : List Name) (wire own : Name → ℕ) (name : Name) (end : ℕ) → ((shared : Name) → wire shared ≤ end) → own name ≤ end → linked_wire (map (λ n. (n, n)) names) wire own name ≤ end
linked_within [] wire own name end shared local = local
linked_within (first ∷ names) wire own name end shared local = by (bytes_eq first name) (linked_within names wire own name end shared local)
  where
    by : (k : Bool) → linked_wire (map (λ n. (n, n)) names) wire own name ≤ end → (if k then wire first else linked_wire (map (λ n. (n, n)) names) wire own name) ≤ end
    by true rest = shared first
    by false rest = rest

module _ (setting : Setting) (entry : Entry) (layout : WireLayout) (laid : IsLayout setting entry layout) (fun : FunTree) (found : slice_get setting.funs entry.fun ≡ Some fun) where
  layout_is : layout ≡ in_order setting.widths (region_sizes setting fun laid.laid_out.workspace (flag_count laid.options laid.laid_out.measured.if_depth) (ladder_size laid.level laid.most_controls))
  layout_is =
      laid.laid_out.is
      ∙ ap (λ f. in_order setting.widths (region_sizes setting f laid.laid_out.workspace (flag_count laid.options laid.laid_out.measured.if_depth) (ladder_size laid.level laid.most_controls))) (same_some laid.laid_out.at found)

  -- the regions of the layout
  pub regions_are : HasRegions setting layout
  regions_are = record { in_order = laid.regions; block = subst (λ l. l.block ≡ block_size setting.widths (targets_in setting)) (sym layout_is) refl }

  pub args_at : layout.out ≡ layout.args + names_size setting.widths (fun_types setting fun) (names_at_start fun)
  args_at = subst (λ l. l.out ≡ l.args + names_size setting.widths (fun_types setting fun) (names_at_start fun)) (sym layout_is) refl

  pub out_at : layout.frame ≡ layout.out + name_size setting.widths (fun_types setting fun) fun.returned.text
  out_at = subst (λ l. l.frame ≡ l.out + name_size setting.widths (fun_types setting fun) fun.returned.text) (sym layout_is) refl

  module _ (own : ℕ) (runs : running_bound entry.bound ≡ Some own) where
    pub entry_is_frame : IsFrame setting layout fun (entry_frame setting fun layout)
    entry_is_frame = laid.frames fun own (entry_frame setting fun layout) (ReachesEntry found runs)

    -- each name has a first wire in the layout
    pub entry_within : (name : Name) → (entry_frame setting fun layout).wire name ≤ layout.wires
    entry_within name =
        linked_within (names_at_end fun) (wire_from widths types layout.args (names_at_end fun)) (wire_from widths types layout.frame (local_names setting fun)) name layout.wires
        (λ shared.
        let end = wire_from-end widths types layout.args (names_at_end fun) shared in
        let all = names_size-last widths types (names_at_start fun) fun.returned.text in
        omega (arith, end, all, args_at, out_at, laid.regions.frame, laid.regions.scratch, laid.regions.flags, laid.regions.ladder))
        (let end = wire_from-end widths types layout.frame (local_names setting fun) name in
        omega (arith, end, entry_is_frame.ifs_before_next, entry_is_frame.next_before_scratch, laid.regions.scratch, laid.regions.flags, laid.regions.ladder))
      where
        widths : Widths
        widths = setting.widths

        types : Types
        types = fun_types setting fun

    -- the body can be lowered if it is built
    pub entry_can_lower : IsSound setting → IsFunction setting fun → IsBuilt fun.body → CanLower setting layout (entry_frame setting fun layout) fun.body
    entry_can_lower sound is built =
        can_lower setting layout fun (entry_frame setting fun layout) entry_is_frame laid.regions laid.within entry_within fun.body built (sound.fit is.name fun is.named).body
        (right_differ (sound.right is.name fun is.named)) entry_is_frame.scratch
