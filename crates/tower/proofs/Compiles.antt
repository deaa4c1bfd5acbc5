-- A gate file of an entry has what is promised of it. An entry has one layout and one file, or one limit that it passes.
use Rattle.std.proofs.Common.{◌≡◌, ◌∙◌, ap, sym, subst, subst₂, refl, ℕ, Bool, true, false, List, [], ◌∷◌, Option, None, length}
use Rattle.std.specs.List.{AllByRecursion}
use Rattle.std.proofs.lemmas.Option.{none-some}
use Rattle.std.proofs.Math.Logic.{∥∥₁_elim}
use Rattle.std.proofs.Math.Nat.{ℕ_set}
use Rattle.tw_text.specs.declared.refusal.Refusal.{Refusal}
use Rattle.tw_syntax.specs.Programs.{FunTree, ProgramTree}
use Rattle.tw_gate.specs.declared.gate.Level.TheVariants as levels
use Rattle.tw_gatetext.specs.Text.{File}
use Rattle.tw_gatetext.specs.Valid.{IsValid}
use Rattle.tw_gatetext.proofs.Bounds.{file_text-prefix_free}
use Rattle.tw_gatetext.proofs.ValidFiles.{valid-inverse}
use Rattle.tw_types.specs.Types.{AreInRange}
use Rattle.tw_code.specs.Counts.{neither, counts}
use Rattle.tw_code.specs.Emission.{emitted}
use Rattle.tw_code.specs.Rows.{Row, gates_in, most_controls}
use Rattle.tw_code.specs.Trees.{CodeTree}
use Rattle.tw_resolve.specs.Demands.{first_broken}
use Rattle.tw_resolve.specs.Setting.{Setting}
use Rattle.tw_resolve.proofs.Each.{each_at}
use Rattle.tw_check.specs.declared.entry.Entry.{Entry}
use Rattle.tw_sim.specs.BitLines.{HaveWires}
use Rattle.tw_state.specs.declared.state.Side.{Side}
use Rattle.tw_state.specs.EntryEncoding.{encoded_on}
use Rattle.tw_state.specs.FromCode.{ListedState, live_at, state_at}
use Rattle.tw_state.specs.Results.{IsTypedAt}
use Rattle.tw_state.specs.StateLines.{IsState}
use Rattle.tw_state.specs.States.{State}
use Rattle.tw_state.proofs.Basics.{same_some}
use Rattle.tw_state.proofs.EntryFunctions.{function_of}
use Rattle.tw_state.proofs.EntryResults.{IsSound, IsFunction}
use Rattle.tw_state.proofs.SoundPrograms.{sound}
use Rattle.tw_frames.specs.declared.measured.Measured.{Measured}
use Rattle.tw_frames.specs.declared.regions.WireLayout.{WireLayout}
use Rattle.tw_frames.specs.Layout.{IsLaidOut}
use Rattle.tw_frames.specs.Regions.{AreInOrder}
use Rattle.tw_frames.proofs.OneLayout.{in_order-regions, layout_determined}
use Rattle.tw_frames.proofs.Reached.{are_frames}
use Rattle.tw_cost.proofs.OneInventory.{has_inventory_determined}
use Rattle.tw_lower.specs.Lowering.{LowersEntry, IsBuilt, IsBuiltFun, IsLayout}
use Rattle.tw_lower.proofs.CheckedEntry.{lowered_entry}
use Rattle.tw_lower.proofs.Encoded.{length-encoded}
use Rattle.tw_lower.proofs.EntryFrame.{regions_are, args_at, out_at}
use Rattle.tw_lower.proofs.LoweredCounts.{entry_counted}
use Rattle.tw_lower.proofs.OneCode.{one_code}
use Rattle.tw_lower.proofs.OneProof.{entry_code_prop}
use Rattle.tw_lower.proofs.SimulatedEntry.{IsEntryCode}
use Rattle.tower.specs.Requests.{FileRequest}
use Rattle.tower.specs.Entries.{EntryIn, setting_in, fun_in}
use Rattle.tower.specs.CircuitEntries.{HasCircuit, circuit_rules, IsWithinLimits, IsPastLimit, IsBuiltTree}
use Rattle.tower.specs.Compile.{file_with, IsFileOf, IsCompiled}
use Rattle.tower.specs.Encode.{encodings}
use Rattle.tower.proofs.Binds.{some_is}
use Rattle.tower.proofs.Circuits.{are_within, implements, valid}

-- what is promised of the file of an entry
module _ (request : FileRequest) (tree : ProgramTree) (built : IsBuiltTree tree) (found : EntryIn request tree) (range : AreInRange request.widths) where
  abbrev setting : Setting
  setting = setting_in found

  abbrev entry : Entry
  entry = found.entry

  module _ (rows : List Row) (layout : WireLayout) (circuit : HasCircuit setting entry rows layout) (within : first_broken (circuit_rules found.measured rows layout) ≡ None) where
    abbrev fun : FunTree
    fun = circuit.inventory.fun

    body : IsBuilt fun.body
    body = (each_at IsBuiltFun setting.funs entry.fun fun built circuit.inventory.at).body

    regions : AreInOrder setting.widths layout
    regions = subst (AreInOrder setting.widths) (sym circuit.laid_out.is) (in_order-regions setting.widths _)

    -- what has one proof and holds of the function and its layout in a sound program
    by_sound : {P : Type 0} → IsProp P → (IsSound setting → IsFunction setting fun → IsLayout setting entry layout → P) → P
    by_sound prop f =
        ∥∥₁_elim found.typed prop
        (λ are.
        let is_sound : IsSound setting = sound request.widths tree found.types are found.ready.accepted.right in
        let functions = function_of request.widths tree found.types are in
        f is_sound (functions entry.fun fun circuit.inventory.at) (record {
          options = neither;
          level = levels.Mcx;
          most_controls = most_controls rows;
          laid_out = circuit.laid_out;
          within = (are_within found.measured rows layout within).wires;
          regions = regions;
          frames = are_frames setting is_sound functions entry neither levels.Mcx (most_controls rows) layout circuit.laid_out;
        }))

    -- an encoding has a bit for each wire
    wide : (side : Side) (state : State) → IsTypedAt setting fun (live_at side fun) state → length (encoded_on layout.wires setting side fun state) ≡ layout.wires
    wide side state typed =
        by_sound (ℕ_set (length (encoded_on layout.wires setting side fun state)) layout.wires)
        (λ is_sound is laid.
        length-encoded setting layout fun (is_sound.fit is.name fun is.named).different (regions_are setting entry layout laid fun circuit.inventory.at) (args_at setting entry layout laid fun circuit.inventory.at)
        (out_at setting entry layout laid fun circuit.inventory.at) side state typed)

    module _ (code : CodeTree) (lowered : LowersEntry setting layout fun entry.bound code) where
      is_code : IsEntryCode setting layout fun entry.bound code
      is_code = by_sound (entry_code_prop setting layout fun entry.bound code) (λ is_sound is laid. lowered_entry setting is_sound entry layout laid fun circuit.inventory.at is body code lowered)

      counted : (wanted : ℕ) → counts neither code 0 wanted ≡ gates_in rows wanted
      counted wanted =
          by_sound (ℕ_set (counts neither code 0 wanted) (gates_in rows wanted)) (λ is_sound is laid. entry_counted neither lowered (is_sound.fit is.name fun is.named).body circuit.inventory.is wanted)

      valid_plain : IsValid (file_with false rows layout code)
      valid_plain = valid setting fun entry.bound layout code is_code rows counted range.addr_from regions (are_within found.measured rows layout within)

      valid_file : (inverse : Bool) → IsValid (file_with inverse rows layout code)
      valid_file false = valid_plain
      valid_file true = valid-inverse (file_with false rows layout code) valid_plain

      file_compiled : IsCompiled setting fun entry.bound request.inverse (file_with request.inverse rows layout code)
      file_compiled = record {
        valid = valid_file request.inverse;
        only_file = λ other rest more fits same. (file_text-prefix_free other _ rest more fits (valid_file request.inverse) same).0;
        plain = emitted code false [];
        direction = refl;
        implements = implements setting fun entry.bound layout code is_code;
        rows = rows;
        inventory = circuit.inventory.is;
        t_count = refl;
      }

  pub compiled : (file : File) → IsFileOf setting entry found.measured request.inverse file → IsCompiled setting (fun_in found) request.bound request.inverse file
  compiled file is =
      let limits = is.limits in
      let same_fun : limits.circuit.inventory.fun ≡ fun_in found = same_some limits.circuit.inventory.at found.is_entry.is_entry.at in
      subst (IsCompiled setting (fun_in found) request.bound request.inverse) (sym is.is)
      (subst₂ (λ (f : FunTree) (b : Option ℕ). IsCompiled setting f b request.inverse (file_with request.inverse limits.rows is.layout is.code)) same_fun found.is_entry.given
      (file_compiled limits.rows is.layout limits.circuit limits.within is.code is.lowered))

  -- the encodings of states have a bit for each wire
  pub wide_encodings : (layout : WireLayout) → IsWithinLimits setting entry found.measured layout → (side : Side) (states : List ListedState) → AllByRecursion (IsState setting side (fun_in found)) states
      → HaveWires layout.wires (encodings layout.wires setting side (fun_in found) states)
  wide_encodings layout limits side [] each = tt
  wide_encodings layout limits side (state ∷ states) each =
      let same_fun : limits.circuit.inventory.fun ≡ fun_in found = same_some limits.circuit.inventory.at found.is_entry.is_entry.at in (
        subst (λ f. (s : State) → IsTypedAt setting f (live_at side f) s → length (encoded_on layout.wires setting side f s) ≡ layout.wires) same_fun
            (wide limits.rows layout limits.circuit limits.within side) (state_at side (fun_in found) state) each.0.typed.typed,
        wide_encodings layout limits side states each.1,
      )

-- the inventory and the layout of an entry are determined
module _ (setting : Setting) (entry : Entry) where
  module _ {rows others : List Row} {layout other : WireLayout} (x : HasCircuit setting entry rows layout) (y : HasCircuit setting entry others other) where
    same_rows : rows ≡ others
    same_rows = has_inventory_determined setting neither x.inventory y.inventory

    same_layout : layout ≡ other
    same_layout = layout_determined setting entry neither levels.Mcx (most_controls others) (subst (λ n. IsLaidOut setting entry neither levels.Mcx n layout) (ap most_controls same_rows) x.laid_out) y.laid_out

    same_fun : x.inventory.fun ≡ y.inventory.fun
    same_fun = same_some x.inventory.at y.inventory.at

  module _ (measured : Measured) where
    -- an entry has one layout
    pub one_layout : {layout other : WireLayout} → IsWithinLimits setting entry measured layout → IsWithinLimits setting entry measured other → layout ≡ other
    one_layout x y = same_layout x.circuit y.circuit

    -- and one file
    pub one_file : (inverse : Bool) {file other : File} → IsFileOf setting entry measured inverse file → IsFileOf setting entry measured inverse other → file ≡ other
    one_file inverse x y = x.is ∙ (λ i. file_with inverse (rows i) (layout i) (code i)) ∙ sym y.is
      where
        rows : x.limits.rows ≡ y.limits.rows
        rows = same_rows x.limits.circuit y.limits.circuit

        layout : x.layout ≡ y.layout
        layout = one_layout x.limits y.limits

        code : x.code ≡ y.code
        code = one_code setting y.layout
            (subst₂ (λ (l : WireLayout) (f : FunTree). LowersEntry setting l f entry.bound x.code) layout (same_fun x.limits.circuit y.limits.circuit) x.lowered) y.lowered

    -- the rules of its circuit are the same
    same_rules : {rows others : List Row} {layout other : WireLayout} → HasCircuit setting entry rows layout → HasCircuit setting entry others other
        → first_broken (circuit_rules measured rows layout) ≡ first_broken (circuit_rules measured others other)
    same_rules x y = λ i. first_broken (circuit_rules measured (same_rows x y i) (same_layout x y i))

    -- an entry is refused by one limit
    pub one_limit : {refusal other : Refusal} → IsPastLimit setting entry measured refusal → IsPastLimit setting entry measured other → refusal ≡ other
    one_limit {refusal} {other} x y = some_is refusal other (sym x.broken ∙ same_rules x.circuit y.circuit ∙ y.broken)

    -- and not if it is within all limits
    pub within_or_past : {P : Type 0} {layout : WireLayout} {refusal : Refusal} → IsWithinLimits setting entry measured layout → IsPastLimit setting entry measured refusal → P
    within_or_past {refusal = refusal} x y = absurd (none-some refusal (sym x.within ∙ same_rules x.circuit y.circuit ∙ y.broken))
