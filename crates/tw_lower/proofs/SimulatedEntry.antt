-- The code of an entry simulates the entry.
use Rattle.std.proofs.Common.{◌≡◌, ◌∙◌, ◌<◌, ap, sym, subst, subst₂, refl, arith, ℕ, Bool, true, false, if◌then◌else◌, length, slice_get, Option, Some, None, option_map, bytes_eq}
use Rattle.tw_syntax.specs.Programs.{FunTree}
use Rattle.tw_types.specs.Types.{Ty}
use Rattle.tw_types.specs.Values.{Value, zero_value}
use Rattle.tw_code.specs.Trees.{CodeTree}
use Rattle.tw_code.specs.Trees as trees
use Rattle.tw_code.specs.Meaning.{mean}
use Rattle.tw_code.specs.Wires.{EachWire, UsesWiresBelow, IsProperCode}
use Rattle.tw_code.specs.Functions.{mean_wires, read}
use Rattle.tw_code.proofs.OnLists.{mean-read}
use Rattle.tw_code.proofs.WireMeaning.{undo}
use Rattle.tw_code.proofs.Wires.{each_weaker}
use Rattle.tw_resolve.specs.Setting.{Setting}
use Rattle.tw_check.specs.declared.entry.Entry.{Entry}
use Rattle.tw_check.specs.Liveness.{live_at_start}
use Rattle.tw_state.specs.declared.state.Side.{Side}
use Rattle.tw_state.specs.declared.state.Side.TheVariants as side
use Rattle.tw_state.specs.States.{Name, State, with_value}
use Rattle.tw_state.specs.Evaluation.{zero_of}
use Rattle.tw_state.specs.EntryEncoding.{encoded_on}
use Rattle.tw_state.specs.FromCode.{live_at}
use Rattle.tw_state.specs.Results.{IsTypedIn, IsTypedAt, RunsEntry, RunsBody, RunsNoBody, HasResult}
use Rattle.tw_state.specs.Semantics.{Runs}
use Rattle.tw_state.specs.Steps.{Adds, IsPadded, activation_of, fun_types, running_bound}
use Rattle.tw_state.proofs.Basics.{not_both, same_name, same_some, some_value}
use Rattle.tw_state.proofs.EntryResults.{IsSound, IsFunction}
use Rattle.tw_state.proofs.TypedTrees.{FunFits}
use Rattle.tw_frames.specs.declared.regions.WireLayout.{WireLayout}
use Rattle.tw_frames.specs.Frames.{Frame, if_count}
use Rattle.tw_frames.specs.Layout.{entry_frame}
use Rattle.tw_frames.specs.Regions.{IsFrame}
use Rattle.tw_lower.specs.Lowering.{Lowers, LowersEntry, LowersBody, LowersNoBody, IsLayout}
use Rattle.tw_lower.specs.Simulation.{Simulates}
use Rattle.tw_lower.specs.StateBits.{store_bits, state_bits, running}
use Rattle.tw_lower.proofs.Encoded.{listed, length-encoded}
use Rattle.tw_lower.proofs.EntryFrame.{regions_are, args_at, out_at, entry_is_frame}
use Rattle.tw_lower.proofs.ExprCodes.{IsOfFrame, OfName, OfScratch, OfIf}
use Rattle.tw_lower.proofs.StateBits.{same_memory, names_padded}

-- the code of an entry simulates it, is proper, and has wires below the flags
pub record IsEntryCode (setting : Setting) (layout : WireLayout) (fun : FunTree) (bound : Option ℕ) (code : CodeTree) : Type 0 where
  pub simulates : Simulates setting fun bound layout.wires code
  pub proper : IsProperCode code
  pub below : UsesWiresBelow layout.flags code

-- what is owed by the code of a body that runs with this number
pub record SimulatesBody (setting : Setting) (layout : WireLayout) (fun : FunTree) (own : ℕ) (code : CodeTree) : Type 0 where
  pub uses : EachWire (IsOfFrame setting layout (entry_frame setting fun layout) 0 (if_count fun.body)) code
  pub proper : IsProperCode code
  pub does : (old new : State) → IsTypedIn setting (fun_types setting fun) old → Runs setting (running (entry_frame setting fun layout) own) fun.body old new
      → mean_wires code false (state_bits setting (entry_frame setting fun layout) old) ≡ state_bits setting (entry_frame setting fun layout) new

-- a name with one value is padded by nothing
padded_same : (ty : Option Ty) (found : Option Value) → IsPadded ty found found
padded_same ty None = tt
padded_same ty (Some value) = refl

module _ (setting : Setting) (sound : IsSound setting) (entry : Entry) (layout : WireLayout) (laid : IsLayout setting entry layout) (fun : FunTree) (found : slice_get setting.funs entry.fun ≡ Some fun) (is : IsFunction setting fun) where
  abbrev frame : Frame
  frame = entry_frame setting fun layout

  fits : FunFits setting fun
  fits = sound.fit is.name fun is.named

  encoded : (on : Side) (state : State) → IsTypedAt setting fun (live_at on fun) state → encoded_on layout.wires setting on fun state ≡ read 0 layout.wires (state_bits setting frame state)
  encoded on state typed = listed setting layout fun fits.different (regions_are setting entry layout laid fun found) (args_at setting entry layout laid fun found) (out_at setting entry layout laid fun found) on state typed

  fills : (on : Side) (state : State) → IsTypedAt setting fun (live_at on fun) state → length (encoded_on layout.wires setting on fun state) ≡ layout.wires
  fills on state typed = length-encoded setting layout fun fits.different (regions_are setting entry layout laid fun found) (args_at setting entry layout laid fun found) (out_at setting entry layout laid fun found) on state typed

  -- code that takes the bits of all wires there and back takes the encodings
  module _ (code : CodeTree) (proper : IsProperCode code) (below : UsesWiresBelow layout.wires code)
      (does : (start end : State) → HasResult setting fun entry.bound start end → mean_wires code false (state_bits setting frame start) ≡ state_bits setting frame end) where
    by_wires : Simulates setting fun entry.bound layout.wires code
    by_wires = record {
      at_start = λ start end has. fills side.Start start has.typed_at_start;
      at_end = λ start end has. fills side.End end has.typed_at_end;
      takes = λ start end has.
          ap (mean code false) (encoded side.Start start has.typed_at_start)
          ∙ mean-read code false layout.wires (state_bits setting frame start) below
          ∙ ap (read 0 layout.wires) (does start end has)
          ∙ sym (encoded side.End end has.typed_at_end);
      undoes = λ start end has.
          ap (mean code true) (encoded side.End end has.typed_at_end)
          ∙ mean-read code true layout.wires (state_bits setting frame end) below
          ∙ ap (read 0 layout.wires) (ap (mean_wires code true) (sym (does start end has)) ∙ undo code false (state_bits setting frame start) proper)
          ∙ sym (encoded side.Start start has.typed_at_start);
    }

  -- with the bound 0 the result is zero, and the code is empty
  zero_bits : (start end : State) (result : Value) → zero_of setting fun.result ≡ Some result → Adds fun.returned.text result start end → state_bits setting frame start ≡ state_bits setting frame end
  zero_bits start end result cleared adds =
      same_memory setting frame start end (sym (ap (λ (s : State). s.head) adds.after)) (sym (ap (λ (s : State). s.cells) adds.after))
      (names_padded setting.widths frame.wire frame.types start.store (with_value start.store fun.returned.text result) padded frame.names ∙ ap (λ (s : State). store_bits setting frame s.store) (sym adds.after))
    where
      is_zero : zero_value fits.result.0 ≡ result
      is_zero = some_value (sym (ap (option_map zero_value) fits.result.1) ∙ cleared)

      by : (name : Name) (k : Bool) → bytes_eq fun.returned.text name ≡ k → IsPadded (fun_types setting fun name) (start.store name) (if k then Some result else start.store name)
      by name true same =
          let same_text : fun.returned.text ≡ name = same_name fun.returned.text name same in
          let ty : Some fits.result.0 ≡ fun_types setting fun name = sym fits.result.2 ∙ ap (fun_types setting fun) same_text in
          let none : None ≡ start.store name = sym adds.unused ∙ ap start.store same_text in
          subst₂ (λ (t : Option Ty) (o : Option Value). IsPadded t o (Some result)) ty none (sym is_zero)
      by name false other = padded_same (fun_types setting fun name) (start.store name)

      padded : (name : Name) → IsPadded (fun_types setting fun name) (start.store name) (with_value start.store fun.returned.text result name)
      padded name = by name (bytes_eq fun.returned.text name) refl

  no_body : running_bound entry.bound ≡ None → IsEntryCode setting layout fun entry.bound trees.Nothing
  no_body none = record {
    simulates = by_wires trees.Nothing tt tt (λ start end has. runs start end has.runs);
    proper = tt;
    below = tt;
  }
    where
      runs : (start end : State) → RunsEntry setting fun entry.bound start end → state_bits setting frame start ≡ state_bits setting frame end
      runs start end (RunsBody n running steps) = not_both none running
      runs start end (RunsNoBody result same cleared adds) = zero_bits start end result cleared adds

  module _ (own : ℕ) (runs_as : running_bound entry.bound ≡ Some own) (code : CodeTree) (body : SimulatesBody setting layout fun own code) where
    good : IsFrame setting layout fun frame
    good = entry_is_frame setting entry layout laid fun found own runs_as

    wire_below : (wire : ℕ) → IsOfFrame setting layout frame 0 (if_count fun.body) wire → wire < layout.flags
    wire_below wire (OfName name owns) = let before = good.before_next name wire owns in omega (arith, before, good.next_before_scratch, laid.regions.scratch)
    wire_below wire (OfScratch from before) = before
    wire_below wire (OfIf from before) = omega (arith, before, good.ifs_before_next, good.next_before_scratch, laid.regions.scratch)

    with_body : IsEntryCode setting layout fun entry.bound code
    with_body = record {
      simulates = by_wires code body.proper (each_weaker (λ wire. wire < layout.flags) (λ wire. wire < layout.wires) (λ wire before. omega (arith, before, laid.regions.flags, laid.regions.ladder)) code below_flags)
          (λ start end has. runs start end has.typed_at_start has.runs);
      proper = body.proper;
      below = below_flags;
    }
      where
        below_flags : UsesWiresBelow layout.flags code
        below_flags = each_weaker (IsOfFrame setting layout frame 0 (if_count fun.body)) (λ wire. wire < layout.flags) wire_below code body.uses

        runs : (start end : State) → IsTypedAt setting fun (live_at_start fun) start → RunsEntry setting fun entry.bound start end → mean_wires code false (state_bits setting frame start) ≡ state_bits setting frame end
        runs start end typed (RunsBody n running steps) = body.does start end typed.typed (subst (λ k. Runs setting (activation_of setting fun k) fun.body start end) (same_some running runs_as) steps)
        runs start end typed (RunsNoBody result none cleared adds) = not_both none runs_as

  -- the code of the entry, by that of its body
  pub entry_code : ((own : ℕ) (code : CodeTree) → running_bound entry.bound ≡ Some own → Lowers setting layout frame own 0 fun.body code → SimulatesBody setting layout fun own code)
      → (code : CodeTree) → LowersEntry setting layout fun entry.bound code → IsEntryCode setting layout fun entry.bound code
  entry_code bodies _ (LowersBody {c = code} own running lowers) = with_body own running code (bodies own code running lowers)
  entry_code bodies _ (LowersNoBody none) = no_body none
