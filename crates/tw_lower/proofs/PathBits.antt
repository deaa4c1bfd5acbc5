-- The bits at paths: a part of a value lies within the bits of the value, and is read from the wires of its path.
use Rattle.std.proofs.Common.{◌≡◌, ◌∙◌, ◌≤◌, ap, sym, arith, ℕ, zero, suc, ◌+◌, Bool, List, [], ◌∷◌, length, Option, Some, None, option_map, option_and_then, unwrap_or}
use Rattle.std.proofs.lemmas.Option.{none-some}
use Rattle.tw_bits.specs.Lists.{bit_at}
use Rattle.tw_syntax.specs.Names.{PathTree}
use Rattle.tw_syntax.specs.Programs.{FunTree}
use Rattle.tw_types.specs.Types.{Widths, Ty, UnitTy, Word, Boolean, Pointer, PairTy, size}
use Rattle.tw_types.specs.Values.{Value, Truth, PairValue, HasType, value_bits}
use Rattle.tw_types.proofs.Lengths.{length-value_bits}
use Rattle.tw_code.specs.Functions.{Bits, placed, read, IsIn}
use Rattle.tw_code.proofs.Changes.{changed_comm, placed_append, placed_elsewhere, read_changed, read_placed}
use Rattle.tw_resolve.specs.Expressions.{part, type_at_path}
use Rattle.tw_resolve.specs.Setting.{Setting}
use Rattle.tw_state.specs.States.{Name, State, without}
use Rattle.tw_state.specs.Parts.{part_of, value_at}
use Rattle.tw_state.specs.Results.{IsTypedIn}
use Rattle.tw_state.proofs.Basics.{some_value, by_option}
use Rattle.tw_state.proofs.Deciding.{adds_without}
use Rattle.tw_state.proofs.TypedRuns.{typed_removed}
use Rattle.tw_state.proofs.TypedValues.{part-none, fits_typed}
use Rattle.tw_frames.specs.declared.regions.WireLayout.{WireLayout}
use Rattle.tw_frames.specs.Frames.{Frame}
use Rattle.tw_frames.specs.Regions.{Owns, IsFrame}
use Rattle.tw_frames.specs.Sizes.{type_size, name_size}
use Rattle.tw_lower.specs.Operands.{part_offset, path_wire}
use Rattle.tw_lower.specs.StateBits.{state_bits}
use Rattle.tw_lower.proofs.StateBits.{HasRegions, adds_bits, bare_zero}

module _ (widths : Widths) where
  -- a part lies within the value
  part_inside : (steps : List ℕ) (ty goal : Ty) → part steps (Some ty) ≡ Some goal → part_offset widths steps ty + size widths goal ≤ size widths ty
  part_inside [] ty goal is = let same = ap (size widths) (some_value is) in omega (arith, same)
  part_inside (suc zero ∷ steps) (PairTy first second) goal is = let inside = part_inside steps first goal is in omega (arith, inside)
  part_inside (suc (suc zero) ∷ steps) (PairTy first second) goal is = let inside = part_inside steps second goal is in omega (arith, inside)
  part_inside (zero ∷ steps) ty goal is = part-none steps is
  part_inside (suc (suc (suc n)) ∷ steps) ty goal is = part-none steps is
  part_inside (suc zero ∷ steps) UnitTy goal is = part-none steps is
  part_inside (suc zero ∷ steps) Word goal is = part-none steps is
  part_inside (suc zero ∷ steps) Boolean goal is = part-none steps is
  part_inside (suc zero ∷ steps) (Pointer target) goal is = part-none steps is
  part_inside (suc (suc zero) ∷ steps) UnitTy goal is = part-none steps is
  part_inside (suc (suc zero) ∷ steps) Word goal is = part-none steps is
  part_inside (suc (suc zero) ∷ steps) Boolean goal is = part-none steps is
  part_inside (suc (suc zero) ∷ steps) (Pointer target) goal is = part-none steps is

  -- the bits of a part are read from those of the value
  part_reads : (steps : List ℕ) (value found : Value) (ty goal : Ty) (at : ℕ) → HasType widths value ty → part_of steps value ≡ Some found → part steps (Some ty) ≡ Some goal
      → read (at + part_offset widths steps ty) (size widths goal) (placed at (value_bits widths value)) ≡ value_bits widths found
  part_reads [] value found ty goal at typed has is =
      let start : at + 0 ≡ at = omega arith in
      let long : size widths goal ≡ length (value_bits widths value) = ap (size widths) (sym (some_value is)) ∙ sym (length-value_bits widths value ty typed) in
      (λ i. read (start i) (long i) (placed at (value_bits widths value))) ∙ read_placed at (value_bits widths value) ∙ ap (value_bits widths) (some_value has)
  part_reads (suc zero ∷ steps) (PairValue x y) found (PairTy first second) goal at typed has is =
      let first_bits = value_bits widths x in
      let second_bits = value_bits widths y in
      let inside = part_inside steps first goal is in
      let long = length-value_bits widths x first typed.0 in
      let from = at + part_offset widths steps first in
      ap (read from (size widths goal)) (placed_append at first_bits second_bits)
      ∙ read_changed from (size widths goal) (placed at first_bits) (placed (at + length first_bits) second_bits)
      (λ wire lies. placed_elsewhere (at + length first_bits) second_bits wire (λ other. omega (arith, lies.before_end, other.from_start, inside, long)))
      ∙ part_reads steps x found first goal at typed.0 has is
  part_reads (suc (suc zero) ∷ steps) (PairValue x y) found (PairTy first second) goal at typed has is =
      let first_bits = value_bits widths x in
      let second_bits = value_bits widths y in
      let next = at + length first_bits in
      let long = length-value_bits widths x first typed.0 in
      let from = at + (size widths first + part_offset widths steps second) in
      let same : from ≡ next + part_offset widths steps second = omega (arith, long) in
      ap (read from (size widths goal)) (placed_append at first_bits second_bits ∙ changed_comm (placed at first_bits) (placed next second_bits))
      ∙ read_changed from (size widths goal) (placed next second_bits) (placed at first_bits)
      (λ wire lies. placed_elsewhere at first_bits wire (λ other. omega (arith, lies.from_start, other.before_end, long)))
      ∙ ap (λ n. read n (size widths goal) (placed next second_bits)) same
      ∙ part_reads steps y found second goal next typed.1 has is
  part_reads (zero ∷ steps) value found ty goal at typed has is = part-none steps is
  part_reads (suc (suc (suc n)) ∷ steps) value found ty goal at typed has is = part-none steps is
  part_reads (suc zero ∷ steps) value found UnitTy goal at typed has is = part-none steps is
  part_reads (suc zero ∷ steps) value found Word goal at typed has is = part-none steps is
  part_reads (suc zero ∷ steps) value found Boolean goal at typed has is = part-none steps is
  part_reads (suc zero ∷ steps) value found (Pointer target) goal at typed has is = part-none steps is
  part_reads (suc zero ∷ steps) value found (PairTy first second) goal at typed has is = absurd typed
  part_reads (suc (suc zero) ∷ steps) value found UnitTy goal at typed has is = part-none steps is
  part_reads (suc (suc zero) ∷ steps) value found Word goal at typed has is = part-none steps is
  part_reads (suc (suc zero) ∷ steps) value found Boolean goal at typed has is = part-none steps is
  part_reads (suc (suc zero) ∷ steps) value found (Pointer target) goal at typed has is = part-none steps is
  part_reads (suc (suc zero) ∷ steps) value found (PairTy first second) goal at typed has is = absurd typed

  -- the same for a variable that has a type
  path_end : (steps : List ℕ) (whole : Option Ty) (ty : Ty) → part steps whole ≡ Some ty → unwrap_or (option_map (part_offset widths steps) whole) 0 + size widths ty ≤ type_size widths whole
  path_end steps (Some whole) ty is = part_inside steps whole ty is
  path_end steps None ty is = part-none steps is

module _ (setting : Setting) (frame : Frame) where
  -- a path ends where its variable ends, or before
  pub path_ends : (path : PathTree) (ty : Ty) → type_at_path frame.types path ≡ Some ty → path_wire setting frame path + size setting.widths ty ≤ frame.wire path.root.text + name_size setting.widths frame.types path.root.text
  path_ends path ty is = let ends = path_end setting.widths path.steps (frame.types path.root.text) ty is in omega (arith, ends)

  -- the wires of a path are wires of its variable
  pub path_owned : (path : PathTree) (ty : Ty) → type_at_path frame.types path ≡ Some ty → (wire : ℕ) → IsIn (path_wire setting frame path) (size setting.widths ty) wire → Owns setting.widths frame path.root.text wire
  path_owned path ty is wire inside = let ends = path_ends path ty is in record { from_start = omega (arith, inside.from_start); before_end = omega (arith, inside.before_end, ends) }

  -- the wire of a condition is one of its variable
  pub cond_owned : (cond : PathTree) → type_at_path frame.types cond ≡ Some Boolean → Owns setting.widths frame cond.root.text (path_wire setting frame cond)
  cond_owned cond is = path_owned cond Boolean is (path_wire setting frame cond) (record { from_start = omega arith; before_end = omega arith })

module _ (setting : Setting) (layout : WireLayout) (fun : FunTree) (frame : Frame) (good : IsFrame setting layout fun frame)
    (regions : HasRegions setting layout) where
  -- the value at a path is read from its wires
  pub path_reads : (state : State) → IsTypedIn setting frame.types state → (path : PathTree) (ty : Ty) (value : Value) → type_at_path frame.types path ≡ Some ty → value_at state.store path ≡ Some value
      → read (path_wire setting frame path) (size setting.widths ty) (state_bits setting frame state) ≡ value_bits setting.widths value
  path_reads state typed path ty value is found = by_option (state.store path.root.text) absent present
    where
      name : Name
      name = path.root.text

      at : ℕ
      at = path_wire setting frame path

      absent : state.store path.root.text ≡ None → read (path_wire setting frame path) (size setting.widths ty) (state_bits setting frame state) ≡ value_bits setting.widths value
      absent none = absurd (none-some value (ap (option_and_then (part_of path.steps)) (sym none) ∙ found))

      present : (whole : Value) → state.store path.root.text ≡ Some whole → read (path_wire setting frame path) (size setting.widths ty) (state_bits setting frame state) ≡ value_bits setting.widths value
      present whole held =
          let root = fits_typed setting.widths (frame.types name) (state.store name) whole held (typed.names name) in
          let adds = adds_without state name whole held in
          let bare : State = record state { store = without state.store name } in
          let given : Bits = placed (frame.wire name) (value_bits setting.widths whole) in
          ap (read at (size setting.widths ty)) (adds_bits setting layout fun frame good root.0 root.1 adds ∙ changed_comm (state_bits setting frame bare) given)
          ∙ read_changed at (size setting.widths ty) given (state_bits setting frame bare)
          (λ wire inside. bare_zero setting layout fun frame good regions adds (typed_removed setting adds typed) wire (path_owned setting frame path ty is wire inside))
          ∙ ap (λ (whole_ty : Option Ty). read (frame.wire name + unwrap_or (option_map (part_offset setting.widths path.steps) whole_ty) 0) (size setting.widths ty) given) root.1
          ∙ part_reads setting.widths path.steps whole value root.0 ty (frame.wire name) root.2 (ap (option_and_then (part_of path.steps)) (sym held) ∙ found) (ap (part path.steps) (sym root.1) ∙ is)

  -- the bit of a condition
  pub cond_reads : (state : State) → IsTypedIn setting frame.types state → (cond : PathTree) (is : Bool) → type_at_path frame.types cond ≡ Some Boolean → value_at state.store cond ≡ Some (Truth is)
      → state_bits setting frame state (path_wire setting frame cond) ≡ is
  cond_reads state typed cond is boolean found = ap (λ bits. bit_at bits 0) (path_reads state typed cond Boolean (Truth is) boolean found)
