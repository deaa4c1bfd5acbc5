-- The bits of states on all wires: what one more name changes, which wires are zero, and that padding changes nothing.
use Rattle.std.proofs.Common.{◌≡◌, ◌∙◌, ◌≤◌, ◌<◌, ap, sym, subst, refl, arith, ℕ, Bool, true, false, ◌||◌, if◌then◌else◌, List, [], ◌∷◌, ◌++◌, length, flat_map, Option, Some, None, option_map, unwrap_or, bytes_eq}
use Rattle.std.specs.List.{AllByRecursion}
use Rattle.std.proofs.lemmas.Option.{none-some}
use Rattle.tw_types.specs.Types.{Widths, Ty, size, block_size}
use Rattle.tw_types.specs.Values.{Value, value_bits}
use Rattle.tw_types.proofs.Lengths.{length-value_bits}
use Rattle.tw_types.proofs.Zeros.{value_bits-zero}
use Rattle.tw_code.specs.Functions.{xor, Bits, changed, placed, IsIn, AreZero}
use Rattle.tw_code.proofs.Changes.{changed_assoc, changed_comm, changed_swap, placed_elsewhere, placed_zeros}
use Rattle.tw_resolve.specs.Declarations.{AreDifferent, is_one_of}
use Rattle.tw_resolve.specs.Expressions.{Types}
use Rattle.tw_resolve.specs.Setting.{Setting}
use Rattle.tw_syntax.specs.Programs.{FunTree}
use Rattle.tw_syntax.specs.Statements.{StmtTree}
use Rattle.tw_state.specs.States.{Name, Store, State, with_value}
use Rattle.tw_state.specs.Encoding.{cell_bits, memory_bits}
use Rattle.tw_state.specs.EntryEncoding.{targets_in, name_bits}
use Rattle.tw_state.specs.Results.{Fits, IsTypedIn}
use Rattle.tw_state.specs.Steps.{Adds, IsPadded, Pads}
use Rattle.tw_state.proofs.Basics.{by_test, contradiction, same_name}
use Rattle.tw_state.proofs.EntryEncodings.{cells_in}
use Rattle.tw_state.proofs.Sizes.{length-memory_bits}
use Rattle.tw_state.proofs.TypedValues.{StoreFits}
use Rattle.tw_bits.specs.Numbers.{number_bits}
use Rattle.tw_frames.specs.declared.regions.WireLayout.{WireLayout}
use Rattle.tw_frames.specs.Frames.{Frame, if_count, if_wire}
use Rattle.tw_frames.specs.Regions.{Owns, IsFrame, AreInOrder}
use Rattle.tw_frames.specs.Sizes.{name_size, type_size, memory_size}
use Rattle.tw_lower.specs.StateBits.{names_bits, store_bits, state_bits}

-- the bits of a value that may be there
abbrev pub found_bits : Widths → Option Value → List Bool
found_bits widths found = unwrap_or (option_map (value_bits widths) found) []

module _ (widths : Widths) (wire : Name → ℕ) where
  -- a name that is none of these adds nothing to their bits
  names_other : (names : List Name) (store : Store) (target : Name) (value : Value) → AllByRecursion (λ other. bytes_eq target other ≡ false) names
      → names_bits widths wire names (with_value store target value) ≡ names_bits widths wire names store
  names_other [] store target value differ = refl
  names_other (name ∷ names) store target value differ =
      ap (λ (k : Bool). changed (placed (wire name) (found_bits widths (if k then Some value else store name))) (names_bits widths wire names (with_value store target value))) differ.0
      ∙ ap (changed (placed (wire name) (name_bits widths store name))) (names_other names store target value differ.1)

  -- one of these names adds its value on its wires
  pub names_given : (names : List Name) (store : Store) (target : Name) (value : Value) → store target ≡ None → AreDifferent names → is_one_of target names ≡ true
      → names_bits widths wire names (with_value store target value) ≡ changed (names_bits widths wire names store) (placed (wire target) (value_bits widths value))
  names_given [] store target value unused different known = contradiction {test = true} refl (sym known)
  names_given (name ∷ names) store target value unused different known = by (bytes_eq target name) refl known (names_given names store target value unused different.1)
    where
      rest : Bits
      rest = names_bits widths wire names store

      given : Bits
      given = placed (wire target) (value_bits widths value)

      by : (k : Bool) → bytes_eq target name ≡ k → (k || is_one_of target names) ≡ true
          → (is_one_of target names ≡ true → names_bits widths wire names (with_value store target value) ≡ changed (names_bits widths wire names store) (placed (wire target) (value_bits widths value)))
          → names_bits widths wire (name ∷ names) (with_value store target value) ≡ changed (names_bits widths wire (name ∷ names) store) (placed (wire target) (value_bits widths value))
      by true is known deeper =
          let same : target ≡ name = same_name target name is in
          let others = names_other names store target value (subst (λ n. AllByRecursion (λ other. bytes_eq n other ≡ false) names) (sym same) different.0) in
          let bare : names_bits widths wire names store ≡ names_bits widths wire (name ∷ names) store =
          ap (λ (found : Option Value). changed (placed (wire name) (found_bits widths found)) rest) (sym unused ∙ ap store same) in
          ap (λ (k : Bool). changed (placed (wire name) (found_bits widths (if k then Some value else store name))) (names_bits widths wire names (with_value store target value))) is
          ∙ ap (λ n. changed (placed (wire n) (value_bits widths value)) (names_bits widths wire names (with_value store target value))) (sym same)
          ∙ ap (changed given) others
          ∙ changed_comm given rest
          ∙ ap (λ (b : Bits). changed b given) bare
      by false other known deeper =
          ap (λ (k : Bool). changed (placed (wire name) (found_bits widths (if k then Some value else store name))) (names_bits widths wire names (with_value store target value))) other
          ∙ ap (changed (placed (wire name) (name_bits widths store name))) (deeper known)
          ∙ sym (changed_assoc (placed (wire name) (name_bits widths store name)) rest given)

  -- the value of a name has at most the bits of the name's type
  found_within : (ty : Option Ty) (found : Option Value) → Fits widths ty found → length (found_bits widths found) ≤ type_size widths ty
  found_within (Some ty) (Some value) fits = let same = length-value_bits widths value ty fits in omega (arith, same)
  found_within None (Some value) fits = absurd fits
  found_within ty None fits = omega arith

  -- a wire of no name that has a value is zero
  pub names_zero : (types : Types) (store : Store) → StoreFits widths types store → (names : List Name) (at : ℕ)
      → ((name : Name) (value : Value) → store name ≡ Some value → IsIn (wire name) (name_size widths types name) at → ⊥) → names_bits widths wire names store at ≡ false
  names_zero types store fits [] at free = refl
  names_zero types store fits (name ∷ names) at free =
      ap (λ k. xor k (names_bits widths wire names store at)) (by (store name) refl (found_within (types name) (store name) (fits name))) ∙ names_zero types store fits names at free
    where
      by : (found : Option Value) → store name ≡ found → length (found_bits widths found) ≤ name_size widths types name → placed (wire name) (found_bits widths found) at ≡ false
      by None is within = refl
      by (Some value) is within =
          placed_elsewhere (wire name) (value_bits widths value) at (λ inside. free name value is (record { from_start = inside.from_start; before_end = omega (arith, inside.before_end, within) }))

  -- a zero in place of no value has the same bits on all wires
  found_padded : (at : ℕ) (ty : Option Ty) (old new : Option Value) → IsPadded ty old new → placed at (found_bits widths old) ≡ placed at (found_bits widths new)
  found_padded at ty None None padded = refl
  found_padded at ty (Some x) (Some y) padded = ap (λ v. placed at (value_bits widths v)) padded
  found_padded at (Some ty) None (Some y) padded = sym (ap (λ v. placed at (value_bits widths v)) padded ∙ ap (placed at) (value_bits-zero widths ty) ∙ placed_zeros at (size widths ty))
  found_padded at (Some ty) (Some x) None padded = ap (λ v. placed at (value_bits widths v)) padded ∙ ap (placed at) (value_bits-zero widths ty) ∙ placed_zeros at (size widths ty)
  found_padded at None None (Some y) padded = absurd padded
  found_padded at None (Some x) None padded = absurd padded

  -- so padding changes no bits
  pub names_padded : (types : Types) (old new : Store) → ((name : Name) → IsPadded (types name) (old name) (new name)) → (names : List Name) → names_bits widths wire names old ≡ names_bits widths wire names new
  names_padded types old new padded [] = refl
  names_padded types old new padded (name ∷ names) =
      let first = found_padded (wire name) (types name) (old name) (new name) (padded name) in
      let rest = names_padded types old new padded names in
      λ i. changed (first i) (rest i)

module _ (setting : Setting) (frame : Frame) where
  -- states with one memory, whose names have the same bits
  pub same_memory : (old new : State) → old.head ≡ new.head → old.cells ≡ new.cells → store_bits setting frame old.store ≡ store_bits setting frame new.store → state_bits setting frame old ≡ state_bits setting frame new
  same_memory old new head cells names =
      λ i. changed (names i) (placed 0 (number_bits setting.widths.addr (head i) ++ flat_map (cell_bits setting.widths (targets_in setting)) (cells i)))

  -- statements that are padded change no bits
  pub padded_bits : (types : Types) (stmts : StmtTree) (old new : State) → Pads types stmts old new → state_bits setting frame old ≡ state_bits setting frame new
  padded_bits types stmts old new pads = same_memory old new pads.head pads.cells (names_padded setting.widths frame.wire types old.store new.store pads.padded frame.names)

-- the regions of the layout are in order, and its blocks are those of the program
pub record HasRegions (setting : Setting) (layout : WireLayout) : Type 0 where
  pub in_order : AreInOrder setting.widths layout
  pub block : layout.block ≡ block_size setting.widths (targets_in setting)

module _ (setting : Setting) (layout : WireLayout) (frame : Frame) (regions : HasRegions setting layout) where
  -- the memory of a typed state ends where the parameters begin
  pub memory_ends : {types : Types} (state : State) → IsTypedIn setting types state → length (memory_bits setting.widths (targets_in setting) state) ≡ layout.args
  memory_ends state typed =
      length-memory_bits setting.widths (targets_in setting) state (cells_in setting state.cells typed.each_cell) typed.all_blocks
      ∙ sym (regions.in_order.memory ∙ ap (memory_size setting.widths) regions.block)

  -- a wire after the memory and of no name that has a value is zero
  pub zero_elsewhere : (state : State) → IsTypedIn setting frame.types state → (at : ℕ) → layout.args ≤ at
      → ((name : Name) (value : Value) → state.store name ≡ Some value → Owns setting.widths frame name at → ⊥) → state_bits setting frame state at ≡ false
  zero_elsewhere state typed at after free =
      let memory = memory_bits setting.widths (targets_in setting) state in
      ap (λ k. xor k (placed 0 memory at)) (names_zero setting.widths frame.wire frame.types state.store typed.names frame.names at free)
      ∙ placed_elsewhere 0 memory at (λ inside. let ends = memory_ends state typed in omega (arith, ends, after, inside.before_end))

module _ (setting : Setting) (layout : WireLayout) (fun : FunTree) (frame : Frame) (good : IsFrame setting layout fun frame) where
  -- a name that is added changes the bits by its value on its wires
  pub adds_bits : {name : Name} {value : Value} {bare full : State} (ty : Ty) → frame.types name ≡ Some ty → Adds name value bare full
      → state_bits setting frame full ≡ changed (state_bits setting frame bare) (placed (frame.wire name) (value_bits setting.widths value))
  adds_bits {name} {value} {bare} {full} ty is adds =
      let memory : Bits = placed 0 (memory_bits setting.widths (targets_in setting) bare) in
      ap (state_bits setting frame) adds.after
      ∙ ap (λ (b : Bits). changed b memory) (names_given setting.widths frame.wire frame.names bare.store name value adds.unused good.different (good.known name ty is))
      ∙ changed_swap (store_bits setting frame bare.store) (placed (frame.wire name) (value_bits setting.widths value)) memory

  module _ (regions : HasRegions setting layout) where
    -- the wires of a name are zero as long as it has no value
    pub bare_zero : {name : Name} {value : Value} {bare full : State} → Adds name value bare full → IsTypedIn setting frame.types bare → AreZero (Owns setting.widths frame name) (state_bits setting frame bare)
    bare_zero {name} {value} {bare} adds typed wire owns =
        zero_elsewhere setting layout frame regions bare typed wire (good.after_memory name wire owns)
        (λ other held is owns_other.
        by_test (bytes_eq name other)
        (λ same. absurd (none-some held (sym adds.unused ∙ ap bare.store (same_name name other same) ∙ is)))
        (λ differ. good.apart name other differ wire owns owns_other))

    -- the wire of an `if` is zero
    pub if_zero : (state : State) → IsTypedIn setting frame.types state → (number : ℕ) → number < if_count fun.body → state_bits setting frame state (if_wire frame number) ≡ false
    if_zero state typed number small =
        zero_elsewhere setting layout frame regions state typed (if_wire frame number) (omega (arith, regions.in_order.args, regions.in_order.out, good.ifs_after_result))
        (λ name value is owns. good.ifs_apart name (if_wire frame number) owns (record { from_start = omega arith; before_end = omega (arith, small) }))

    -- so is the scratch
    pub scratch_zero : (state : State) → IsTypedIn setting frame.types state → (wire : ℕ) → layout.scratch ≤ wire → state_bits setting frame state wire ≡ false
    scratch_zero state typed wire after =
        zero_elsewhere setting layout frame regions state typed wire
        (omega (arith, after, regions.in_order.args, regions.in_order.out, good.ifs_after_result, good.ifs_before_next, good.next_before_scratch))
        (λ name value is owns. let before = good.before_next name wire owns in absurd (omega (arith, after, before, good.next_before_scratch)))
