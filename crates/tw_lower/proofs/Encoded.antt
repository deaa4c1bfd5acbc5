-- The bits of a state of the entry on all wires, as a list, are the encoding of the state.
use Rattle.std.proofs.Common.{◌≡◌, ◌∙◌, ◌≤◌, ap, sym, subst, refl, arith, ℕ, zero, suc, ◌+◌, ◌-◌, Bool, true, false, ◌||◌, if◌then◌else◌, List, [], ◌∷◌, ◌++◌, length, map, flat_map, replicate, Option, Some, None, is_some, bytes_eq, append_assoc, length-append}
use Rattle.std.specs.List.{AllByRecursion}
use Rattle.tw_bits.specs.Writing.{padded}
use Rattle.tw_syntax.specs.Programs.{FunTree}
use Rattle.tw_types.specs.Types.{Widths}
use Rattle.tw_types.specs.Values.{Value}
use Rattle.tw_code.specs.Functions.{Bits, zeros, changed, one_at, placed, read, IsIn, AreZero}
use Rattle.tw_code.proofs.Changes.{changed_assoc, changed_comm, changed_zeros, one_at-elsewhere, placed_append, placed_first, read_changed, length-read}
use Rattle.tw_resolve.specs.Declarations.{AreDifferent, is_one_of}
use Rattle.tw_resolve.specs.Expressions.{Types}
use Rattle.tw_resolve.specs.Setting.{Setting}
use Rattle.tw_resolve.proofs.Each.{each_rest}
use Rattle.tw_resolve.proofs.Texts.{bytes_eq-sym}
use Rattle.tw_check.specs.Liveness.{param_names}
use Rattle.tw_check.specs.Names.{Names}
use Rattle.tw_check.proofs.NameSets.{is_one_of-append, names_differ}
use Rattle.tw_state.specs.declared.state.Side.{Side}
use Rattle.tw_state.specs.declared.state.Side.TheVariants as sides
use Rattle.tw_state.specs.States.{Name, Store, State}
use Rattle.tw_state.specs.Encoding.{memory_bits}
use Rattle.tw_state.specs.EntryEncoding.{targets_in, name_bits, encoded_on}
use Rattle.tw_state.specs.FromCode.{names_at, live_at}
use Rattle.tw_state.specs.Listed.{names_at_start, names_at_end}
use Rattle.tw_state.specs.Results.{IsTypedAt}
use Rattle.tw_state.specs.Steps.{fun_types}
use Rattle.tw_state.proofs.Basics.{contradiction, same_name, name_test}
use Rattle.tw_state.proofs.Calls.{AreDifferent as AreOthers}
use Rattle.tw_state.proofs.EntryFunctions.{names_different}
use Rattle.tw_state.proofs.TypedStates.{live_at-listed}
use Rattle.tw_state.proofs.TypedValues.{StoreFits}
use Rattle.tw_frames.specs.declared.regions.WireLayout.{WireLayout}
use Rattle.tw_frames.specs.Frames.{Frame, linked_wire, local_names}
use Rattle.tw_frames.specs.Layout.{entry_frame}
use Rattle.tw_frames.specs.Sizes.{name_size, names_size, wire_from}
use Rattle.tw_frames.proofs.FrameWires.{frame_names_different}
use Rattle.tw_frames.proofs.Wires.{AreLive, all_listed, length-name_bits, length-names_bits}
use Rattle.tw_lower.specs.StateBits.{names_bits, state_bits}
use Rattle.tw_lower.proofs.StateBits.{HasRegions, memory_ends, found_bits}

-- zeros are read as zeros
read_zeros : (at count : ℕ) → read at count zeros ≡ replicate count false
read_zeros at zero = refl
read_zeros at (suc count) = ap (λ rest. false ∷ rest) (read_zeros (suc at) count)

-- bits on their wires are read with zeros after them
pub read_padded : (at count : ℕ) (bits : List Bool) → length bits ≤ count → read at count (placed at bits) ≡ padded count bits
read_padded at count [] fits = let same : count ≡ count - 0 = omega arith in read_zeros at count ∙ ap (λ n. replicate n false) same
read_padded at zero (bit ∷ bits) fits = absurd (omega (arith, fits))
read_padded at (suc count) (bit ∷ bits) fits =
    let first = placed_first at bit bits in
    let spared : AreZero (IsIn (suc at) count) (one_at at bit) = λ wire inside. one_at-elsewhere at bit wire (λ same. omega (arith, same, inside.from_start)) in
    let fewer : count - length bits ≡ suc count - suc (length bits) = omega arith in
    let others =
    ap (read (suc at) count) (changed_comm (one_at at bit) (placed (suc at) bits))
    ∙ read_changed (suc at) count (placed (suc at) bits) (one_at at bit) spared
    ∙ read_padded (suc at) count bits (omega (arith, fits))
    ∙ ap (λ n. bits ++ replicate n false) fewer in
    λ i. first i ∷ others i

-- names that follow different ones are none of them
after_all : (xs ys : List Name) → AreDifferent (xs ++ ys) → AllByRecursion (λ name. is_one_of name xs ≡ false) ys
after_all [] ys different = each ys
  where
    each : (names : List Name) → AllByRecursion (λ name. is_one_of name [] ≡ false) names
    each [] = tt
    each (name ∷ names) = (refl, each names)
after_all (x ∷ xs) ys different = both ys (each_rest (λ other. bytes_eq x other ≡ false) xs ys different.0) (after_all xs ys different.1)
  where
    both : (names : List Name) → AllByRecursion (λ other. bytes_eq x other ≡ false) names → AllByRecursion (λ name. is_one_of name xs ≡ false) names → AllByRecursion (λ name. is_one_of name (x ∷ xs) ≡ false) names
    both [] one rest = tt
    both (name ∷ names) one rest = (ap (λ k. k || is_one_of name xs) (bytes_eq-sym name x ∙ one.0) ∙ rest.0, both names one.1 rest.1)

module _ (widths : Widths) (types : Types) where
  -- the bits of names and of one more
  pub names_size-last : (names : List Name) (last : Name) → names_size widths types (names ++ last ∷ []) ≡ names_size widths types names + name_size widths types last
  names_size-last [] last = omega arith
  names_size-last (name ∷ names) last = let rest = names_size-last names last in omega (arith, rest)

  -- the wires of the first names do not depend on those after them
  wire_from-append : (first : ℕ) (xs ys : List Name) (name : Name) → is_one_of name xs ≡ true → wire_from widths types first (xs ++ ys) name ≡ wire_from widths types first xs name
  wire_from-append first [] ys name known = contradiction {test = true} refl (sym known)
  wire_from-append first (x ∷ xs) ys name known =
      by (bytes_eq x name) (bytes_eq-sym name x) (wire_from-append (first + name_size widths types x) xs ys name)
    where
      by : (k : Bool) → bytes_eq name x ≡ k → (is_one_of name xs ≡ true → wire_from widths types (first + name_size widths types x) (xs ++ ys) name ≡ wire_from widths types (first + name_size widths types x) xs name)
          → (if k then first else wire_from widths types (first + name_size widths types x) (xs ++ ys) name) ≡ (if k then first else wire_from widths types (first + name_size widths types x) xs name)
      by true is deeper = refl
      by false other deeper = deeper (ap (λ k. k || is_one_of name xs) (sym other) ∙ known)

  module _ (wire : Name → ℕ) (store : Store) where
    -- the bits of two lists of names
    names_append : (xs ys : List Name) → names_bits widths wire (xs ++ ys) store ≡ changed (names_bits widths wire xs store) (names_bits widths wire ys store)
    names_append [] ys = refl
    names_append (x ∷ xs) ys =
        let first : Bits = placed (wire x) (name_bits widths store x) in
        ap (changed first) (names_append xs ys) ∙ sym (changed_assoc first (names_bits widths wire xs store) (names_bits widths wire ys store))

    -- names without values
    names_dead : (names : List Name) → AllByRecursion (λ name. store name ≡ None) names → names_bits widths wire names store ≡ zeros
    names_dead [] dead = refl
    names_dead (name ∷ names) dead = ap (λ (found : Option Value). changed (placed (wire name) (found_bits widths found)) (names_bits widths wire names store)) dead.0 ∙ names_dead names dead.1

    -- names with values that lie one after the other
    names_placed : StoreFits widths types store → (first : ℕ) (names : List Name) → AreOthers names → AreLive store names → ((name : Name) → is_one_of name names ≡ true → wire name ≡ wire_from widths types first names name)
        → names_bits widths wire names store ≡ placed first (flat_map (name_bits widths store) names)
    names_placed fits first [] different live wires = refl
    names_placed fits first (name ∷ names) different live wires =
        let own = name_bits widths store name in
        let rest = flat_map (name_bits widths store) names in
        let next = first + name_size widths types name in
        let starts : wire name ≡ first = wires name (ap (λ k. k || is_one_of name names) (name_test name)) ∙ ap (λ (k : Bool). if k then first else wire_from widths types next names name) (name_test name) in
        let long : next ≡ first + length own = omega (arith, length-name_bits widths types store fits name live.0) in
        (λ i. changed (placed (starts i) own) (names_placed fits next names different.1 live.1 later i))
        ∙ ap (λ n. changed (placed first own) (placed n rest)) long
        ∙ sym (placed_append first own rest)
      where
        or_true : (p q : Bool) → q ≡ true → (p || q) ≡ true
        or_true true q is = refl
        or_true false q is = is

        later : (other : Name) → is_one_of other names ≡ true → wire other ≡ wire_from widths types (first + name_size widths types name) names other
        later other known =
            wires other (or_true (bytes_eq other name) (is_one_of other names) known)
            ∙ ap (λ (k : Bool). if k then first else wire_from widths types (first + name_size widths types name) names other) (names_differ (λ n. is_one_of n names) name other different.0 known)

-- a name of the entry lies on its own wire
linked_itself : (names : List Name) (wire own : Name → ℕ) (name : Name) → is_one_of name names ≡ true → linked_wire (map (λ n. (n, n)) names) wire own name ≡ wire name
linked_itself [] wire own name known = contradiction {test = true} refl (sym known)
linked_itself (first ∷ names) wire own name known = by (bytes_eq first name) refl (linked_itself names wire own name)
  where
    by : (k : Bool) → bytes_eq first name ≡ k → (is_one_of name names ≡ true → linked_wire (map (λ n. (n, n)) names) wire own name ≡ wire name) → (if k then wire first else linked_wire (map (λ n. (n, n)) names) wire own name) ≡ wire name
    by true is deeper = ap wire (same_name first name is)
    by false other deeper = deeper (ap (λ k. k || is_one_of name names) (sym (bytes_eq-sym name first ∙ other)) ∙ known)

-- the names on a side, and the names of the entry that have no values there
abbrev others_at : Setting → Side → FunTree → List Name
others_at setting sides.Start fun = fun.returned.text ∷ local_names setting fun
others_at setting sides.End fun = local_names setting fun

names_split : (setting : Setting) (side : Side) (fun : FunTree) → names_at_end fun ++ local_names setting fun ≡ names_at side fun ++ others_at setting side fun
names_split setting sides.Start fun = append_assoc (param_names fun) (fun.returned.text ∷ []) (local_names setting fun)
names_split setting sides.End fun = refl

module _ (setting : Setting) (layout : WireLayout) (fun : FunTree) (different : AreOthers (fun.returned.text ∷ param_names fun)) (regions : HasRegions setting layout)
    (args_at : layout.out ≡ layout.args + names_size setting.widths (fun_types setting fun) (names_at_start fun)) (out_at : layout.frame ≡ layout.out + name_size setting.widths (fun_types setting fun) fun.returned.text) where
  abbrev frame : Frame
  frame = entry_frame setting fun layout

  -- the first wire of a parameter or of the result
  end_wire : (name : Name) → is_one_of name (names_at_end fun) ≡ true → frame.wire name ≡ wire_from setting.widths (fun_types setting fun) layout.args (names_at_end fun) name
  end_wire = linked_itself (names_at_end fun) (wire_from setting.widths (fun_types setting fun) layout.args (names_at_end fun)) (wire_from setting.widths (fun_types setting fun) layout.frame (local_names setting fun))

  -- the first wire of a name that has a value on a side
  side_wire : (side : Side) (name : Name) → is_one_of name (names_at side fun) ≡ true → frame.wire name ≡ wire_from setting.widths (fun_types setting fun) layout.args (names_at side fun) name
  side_wire sides.End name known = end_wire name known
  side_wire sides.Start name known =
      end_wire name (is_one_of-append name (param_names fun) (fun.returned.text ∷ []) ∙ ap (λ k. k || is_one_of name (fun.returned.text ∷ [])) known)
      ∙ wire_from-append setting.widths (fun_types setting fun) layout.args (param_names fun) (fun.returned.text ∷ []) name known

  -- the values of a side end where the frames begin, or before
  side_within : (side : Side) → layout.args + names_size setting.widths (fun_types setting fun) (names_at side fun) ≤ layout.frame
  side_within sides.Start = omega (arith, args_at, out_at)
  side_within sides.End = let all = names_size-last setting.widths (fun_types setting fun) (param_names fun) fun.returned.text in omega (arith, args_at, out_at, all)

  module _ (side : Side) (state : State) (typed : IsTypedAt setting fun (live_at side fun) state) where
    live : (name : Name) → is_some (state.store name) ≡ is_one_of name (names_at side fun)
    live name = ap (λ (names : Names). names name) (typed.names ∙ live_at-listed side fun)

    dead : AllByRecursion (λ name. state.store name ≡ None) (others_at setting side fun)
    dead = each (others_at setting side fun) (after_all (names_at side fun) (others_at setting side fun) (subst AreDifferent (names_split setting side fun) (frame_names_different setting fun (names_different sides.End fun different))))
      where
        absent : (found : Option Value) → is_some found ≡ false → found ≡ None
        absent None is = refl
        absent (Some value) is = contradiction {test = true} refl is

        each : (names : List Name) → AllByRecursion (λ name. is_one_of name (names_at side fun) ≡ false) names → AllByRecursion (λ name. state.store name ≡ None) names
        each [] none = tt
        each (name ∷ names) none = (absent (state.store name) (live name ∙ none.0), each names none.1)

    abbrev values : List Bool
    values = flat_map (name_bits setting.widths state.store) (names_at side fun)

    abbrev memory : List Bool
    memory = memory_bits setting.widths (targets_in setting) state

    all_live : AreLive state.store (names_at side fun)
    all_live = all_listed state.store (names_at side fun) (λ name known. live name ∙ known)

    -- the values lie after the memory, one after the other
    state_placed : state_bits setting frame state ≡ placed 0 (memory ++ values)
    state_placed =
        let types = fun_types setting fun in
        let names = names_at side fun in
        let others = others_at setting side fun in
        ap (λ (all : List Name). changed (names_bits setting.widths frame.wire all state.store) (placed 0 memory)) (names_split setting side fun)
        ∙ ap (λ (b : Bits). changed b (placed 0 memory))
        (names_append setting.widths types frame.wire state.store names others
        ∙ ap (changed (names_bits setting.widths frame.wire names state.store)) (names_dead setting.widths types frame.wire state.store others dead)
        ∙ changed_zeros (names_bits setting.widths frame.wire names state.store)
        ∙ names_placed setting.widths types frame.wire state.store typed.typed.names layout.args names (names_different side fun different) all_live (side_wire side))
        ∙ changed_comm (placed layout.args values) (placed 0 memory)
        ∙ ap (λ n. changed (placed 0 memory) (placed n values)) (sym ends)
        ∙ sym (placed_append 0 memory values)
      where
        ends : 0 + length memory ≡ layout.args
        ends = omega (arith, memory_ends setting layout frame regions state typed.typed)

    -- the encoding of a state on all wires of the layout
    pub listed : encoded_on layout.wires setting side fun state ≡ read 0 layout.wires (state_bits setting frame state)
    listed = sym (ap (read 0 layout.wires) state_placed ∙ read_padded 0 layout.wires (memory ++ values) fits)
      where
        fits : length (memory ++ values) ≤ layout.wires
        fits =
            let both = length-append memory values in
            let ends = memory_ends setting layout frame regions state typed.typed in
            let long = length-names_bits setting.widths (fun_types setting fun) state.store typed.typed.names (names_at side fun) all_live in
            omega (arith, both, ends, long, side_within side, regions.in_order.frame, regions.in_order.scratch, regions.in_order.flags, regions.in_order.ladder)

    pub length-encoded : length (encoded_on layout.wires setting side fun state) ≡ layout.wires
    length-encoded = ap length listed ∙ length-read 0 layout.wires (state_bits setting frame state)
