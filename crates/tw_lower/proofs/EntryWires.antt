-- The wires of the entry are those of its frame, and all of them have numbers.
use Rattle.std.proofs.Common.{◌≡◌, ◌∙◌, ◌≤◌, refl, sym, ap, subst, arith, ℕ, zero, suc, ◌+◌, ◌++◌, slice_get, Some, None, unwrap_or}
use Rattle.tw_text.specs.declared.limits.TheConstants.{WIRES_LIMIT}
use Rattle.tw_syntax.specs.Programs.{FunTree}
use Rattle.tw_resolve.specs.Expressions.{texts_of}
use Rattle.tw_resolve.specs.Resolved.{locals_of, type_at}
use Rattle.tw_resolve.specs.Setting.{Setting}
use Rattle.tw_check.specs.declared.entry.Entry.{Entry}
use Rattle.tw_state.specs.Listed.{names_at_start}
use Rattle.tw_state.specs.States.{Name}
use Rattle.tw_state.specs.Steps.{fun_types, running_bound}
use Rattle.tw_arith.specs.Operands.{EndsWithin}
use Rattle.tw_frames.specs.declared.regions.WireLayout.{WireLayout}
use Rattle.tw_frames.specs.Frames.{Frame, if_count}
use Rattle.tw_frames.specs.Layout.{entry_frame}
use Rattle.tw_frames.specs.Regions.{IsFrame}
use Rattle.tw_frames.specs.Sizes.{name_size, names_size}
use Rattle.tw_frames.proofs.PathTypes.{types_are}
use Rattle.tw_lower.specs.NameWires.{Wires, frame_with, ifs_of, local_names_at, shared_at, shared_of, with_wires}
use Rattle.tw_lower.specs.Lowering.{IsLayout}
use Rattle.tw_lower.proofs.Encoded.{names_size-last}
use Rattle.tw_lower.proofs.EntryFrame.{args_at, entry_is_frame, entry_within, out_at}
use Rattle.tw_lower.proofs.NamedWires.{wire_of_lists}

-- the wires of an entry: those of the parameters and the result, and then those of the local variables
abbrev pub entry_wires : Setting → ℕ → WireLayout → Wires
entry_wires setting number layout =
    let widths = setting.widths in
    let types = type_at setting number in
    with_wires widths types (with_wires widths types (λ name. None) layout.args (shared_at setting number)) layout.frame (local_names_at setting number)

module _ (setting : Setting) (number : ℕ) (layout : WireLayout) (fun : FunTree) (found : slice_get setting.funs number ≡ Some fun) where
  types_same : type_at setting number ≡ fun_types setting fun
  types_same = types_are setting number fun found

  -- the wires after those of the parameters and the result, and then those of the local variables, were placed
  pub wires_are : (none shared all : Wires) → none ≡ (λ name. None) → shared ≡ with_wires setting.widths (type_at setting number) none layout.args (shared_at setting number)
      → all ≡ with_wires setting.widths (type_at setting number) shared layout.frame (local_names_at setting number) → all ≡ entry_wires setting number layout
  wires_are none shared all is_none are_shared are_all =
      are_all
      ∙ ap (λ (wires : Wires). with_wires setting.widths (type_at setting number) wires layout.frame (local_names_at setting number))
      (are_shared ∙ ap (λ (wires : Wires). with_wires setting.widths (type_at setting number) wires layout.args (shared_at setting number)) is_none)

  -- the frame with these wires is that of the entry
  pub frame_same : (wires : Wires) (ifs : ℕ) → wires ≡ entry_wires setting number layout → ifs ≡ layout.frame + names_size setting.widths (type_at setting number) (local_names_at setting number)
      → frame_with setting number wires ifs ≡ entry_frame setting fun layout
  frame_same wires ifs are is = λ i. record {
    names = shared_of (found i) ++ texts_of (locals_of setting (found i));
    types = types_same i;
    wire = wire_same i;
    ifs = ifs_same i;
    next = ifs_same i + ifs_of (found i);
  }
    where
      ifs_same : ifs ≡ (entry_frame setting fun layout).ifs
      ifs_same = is ∙ (λ i. layout.frame + names_size setting.widths (types_same i) (texts_of (locals_of setting (found i))))

      wire_same : (λ name. unwrap_or (wires name) ifs) ≡ (entry_frame setting fun layout).wire
      wire_same = λ i name.
          (ap (λ (w : Wires). unwrap_or (w name) ifs) are
          ∙ (λ j.
          unwrap_or
          (with_wires setting.widths (types_same j) (with_wires setting.widths (types_same j) (λ n. None) layout.args (shared_of (found j))) layout.frame (texts_of (locals_of setting (found j))) name)
          ifs)
          ∙ wire_of_lists setting.widths (fun_types setting fun) layout.args layout.frame ifs (shared_of (Some fun)) (texts_of (locals_of setting (Some fun))) name ifs_same) i

module _ (setting : Setting) (entry : Entry) (layout : WireLayout) (laid : IsLayout setting entry layout) (fun : FunTree) (found : slice_get setting.funs entry.fun ≡ Some fun) (own : ℕ) (runs : running_bound entry.bound ≡ Some own) where
  good : IsFrame setting layout fun (entry_frame setting fun layout)
  good = entry_is_frame setting entry layout laid fun found own runs

  all_below : layout.scratch ≤ WIRES_LIMIT
  all_below = omega (arith, laid.regions.scratch, laid.regions.flags, laid.regions.ladder, laid.within)

  -- the wires of the parameters and the result have numbers
  pub shared_within : EndsWithin layout.args (names_size setting.widths (type_at setting entry.fun) (shared_at setting entry.fun))
  shared_within =
      let same : names_size setting.widths (type_at setting entry.fun) (shared_at setting entry.fun) ≡ names_size setting.widths (fun_types setting fun) (shared_of (Some fun)) =
      (λ i. names_size setting.widths (types_are setting entry.fun fun found i) (shared_of (found i))) in
      let all = names_size-last setting.widths (fun_types setting fun) (names_at_start fun) fun.returned.text in
      omega (arith, same, all, args_at setting entry layout laid fun found, out_at setting entry layout laid fun found, laid.regions.frame, all_below)

  -- so have those of the local variables
  pub locals_within : EndsWithin layout.frame (names_size setting.widths (type_at setting entry.fun) (local_names_at setting entry.fun))
  locals_within =
      let same : names_size setting.widths (type_at setting entry.fun) (local_names_at setting entry.fun) ≡ names_size setting.widths (fun_types setting fun) (texts_of (locals_of setting (Some fun))) =
      (λ i. names_size setting.widths (types_are setting entry.fun fun found i) (texts_of (locals_of setting (found i)))) in
      omega (arith, same, good.ifs_before_next, good.next_before_scratch, all_below)

  -- so have those of each name
  name_ends : (name : Name) → EndsWithin ((entry_frame setting fun layout).wire name) (name_size setting.widths (fun_types setting fun) name)
  name_ends name = by (name_size setting.widths (fun_types setting fun) name) refl
    where
      by : (n : ℕ) → name_size setting.widths (fun_types setting fun) name ≡ n → EndsWithin ((entry_frame setting fun layout).wire name) n
      by zero is = let at = entry_within setting entry layout laid fun found own runs name in omega (arith, at, laid.within)
      by (suc n) is =
          let last = good.before_next name ((entry_frame setting fun layout).wire name + n) (record { from_start = omega arith; before_end = omega (arith, is) }) in
          omega (arith, last, good.next_before_scratch, all_below)

  pub names_within : (wires : Wires) (ifs : ℕ) → frame_with setting entry.fun wires ifs ≡ entry_frame setting fun layout → (name : Name) → EndsWithin (unwrap_or (wires name) ifs) (name_size setting.widths (type_at setting entry.fun) name)
  names_within wires ifs same name = subst (λ (frame : Frame). EndsWithin (frame.wire name) (name_size setting.widths frame.types name)) (sym same) (name_ends name)

  -- so have those of the `if`s
  pub ifs_within : EndsWithin (entry_frame setting fun layout).ifs (if_count fun.body)
  ifs_within = omega (arith, good.ifs_before_next, good.next_before_scratch, all_below)
