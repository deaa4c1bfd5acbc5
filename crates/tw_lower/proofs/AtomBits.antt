-- Atoms as operands: their widths, whose wires they have, and the bits of their values.
use Rattle.std.proofs.Common.{◌≡◌, ◌∙◌, ap, sym, subst, refl, ℕ, ◌+◌, Bool, true, false, if◌then◌else◌, length, Option, Some, None, option_map}
use Rattle.std.specs.List.{AllByRecursion}
use Rattle.std.proofs.lemmas.Option.{none-some}
use Rattle.tw_bits.proofs.Laws.{length-number_bits}
use Rattle.tw_syntax.specs.Programs.{FunTree}
use Rattle.tw_syntax.specs.Terms.{AtomTree, PlaceAtom, NumberAtom, TrueAtom, FalseAtom, UnitAtom, NullAtom, ZeroAtom}
use Rattle.tw_syntax.specs.Types.{WrittenTree, UnitType, UintType, BoolType, PairType, PtrType, NamedType}
use Rattle.tw_types.specs.Types.{Widths, Ty, Pointer, size}
use Rattle.tw_types.specs.Values.{Value, value_bits, zero_value}
use Rattle.tw_types.proofs.Lengths.{length-value_bits}
use Rattle.tw_types.proofs.Zeros.{zero_value-typed}
use Rattle.tw_code.specs.Functions.{read, IsIn}
use Rattle.tw_resolve.specs.Setting.{Setting, type_of, pair_of}
use Rattle.tw_resolve.specs.Declarations.{target_number}
use Rattle.tw_resolve.specs.Denotes.{names_declared}
use Rattle.tw_check.specs.Liveness.{atom_names}
use Rattle.tw_state.specs.States.{Name, State, empty}
use Rattle.tw_state.specs.Evaluation.{atom_value}
use Rattle.tw_state.specs.Results.{IsTypedIn}
use Rattle.tw_state.proofs.Basics.{some_value}
use Rattle.tw_state.proofs.TypedTrees.{AtomFits}
use Rattle.tw_arith.specs.Operands.{IsOfOperand, operand_bits}
use Rattle.tw_frames.specs.declared.regions.WireLayout.{WireLayout}
use Rattle.tw_frames.specs.Frames.{Frame}
use Rattle.tw_frames.specs.Regions.{Owns, IsFrame}
use Rattle.tw_frames.specs.Sizes.{type_size, written_size, atom_size}
use Rattle.tw_lower.specs.Operands.{path_wire, operand_of}
use Rattle.tw_lower.specs.StateBits.{state_bits}
use Rattle.tw_lower.proofs.PathBits.{path_owned, path_reads}
use Rattle.tw_lower.proofs.StateBits.{HasRegions, found_bits}

-- a pair of types has the bits of both
pair_sized : (widths : Widths) (first second : Option Ty) (m n : ℕ) → ((ty : Ty) → first ≡ Some ty → m ≡ size widths ty) → ((ty : Ty) → second ≡ Some ty → n ≡ size widths ty)
    → (ty : Ty) → pair_of first second ≡ Some ty → m + n ≡ size widths ty
pair_sized widths (Some a) (Some b) m n one two ty is = (λ i. one a refl i + two b refl i) ∙ ap (size widths) (some_value is)
pair_sized widths None second m n one two ty is = absurd (none-some ty is)
pair_sized widths (Some a) None m n one two ty is = absurd (none-some ty is)

pointer_sized : (widths : Widths) (declared : Bool) (number : Option ℕ) (ty : Ty) → (if declared then option_map Pointer number else None) ≡ Some ty → widths.addr ≡ size widths ty
pointer_sized widths true (Some number) ty is = ap (size widths) (some_value is)
pointer_sized widths true None ty is = absurd (none-some ty is)
pointer_sized widths false number ty is = absurd (none-some ty is)

module _ (setting : Setting) where
  -- a written type has the bits of the type that it denotes
  written_sized : (written : WrittenTree) (ty : Ty) → type_of setting written ≡ Some ty → written_size setting written ≡ size setting.widths ty
  written_sized (UnitType at) ty is = ap (size setting.widths) (some_value is)
  written_sized (UintType at) ty is = ap (size setting.widths) (some_value is)
  written_sized (BoolType at) ty is = ap (size setting.widths) (some_value is)
  written_sized (PairType at first second) ty is =
      pair_sized setting.widths (type_of setting first) (type_of setting second) (written_size setting first) (written_size setting second) (written_sized first) (written_sized second) ty is
  written_sized (PtrType at to) ty is = pointer_sized setting.widths (names_declared setting.scope.declared to) (target_number setting.scope.targets to) ty is
  written_sized (NamedType at name) ty is = ap (type_size setting.widths) is

  module _ (frame : Frame) where
    -- an atom has the bits of its type
    pub atom_sized : (atom : AtomTree) (ty : Ty) → AtomFits setting frame.types atom ty → atom_size setting frame.types atom ≡ size setting.widths ty
    atom_sized (PlaceAtom at path) ty fits = ap (type_size setting.widths) fits
    atom_sized (NumberAtom at number) ty fits = ap (size setting.widths) (sym fits.1)
    atom_sized (TrueAtom at) ty fits = ap (size setting.widths) (sym fits)
    atom_sized (FalseAtom at) ty fits = ap (size setting.widths) (sym fits)
    atom_sized (UnitAtom at) ty fits = ap (size setting.widths) (sym fits)
    atom_sized (NullAtom at to) ty fits = ap (size setting.widths) (sym fits.1)
    atom_sized (ZeroAtom at written) ty fits = written_sized written ty fits

    -- the bits of a constant are as many
    abbrev pub ConstantWide : AtomTree → Type 0
    ConstantWide (PlaceAtom at path) = Unit {0}
    ConstantWide atom = length (found_bits setting.widths (atom_value setting empty atom)) ≡ atom_size setting frame.types atom

    pub constant_wide : (atom : AtomTree) (ty : Ty) → AtomFits setting frame.types atom ty → ConstantWide atom
    constant_wide (PlaceAtom at path) ty fits = tt
    constant_wide (NumberAtom at number) ty fits = length-number_bits setting.widths.word number
    constant_wide (TrueAtom at) ty fits = refl
    constant_wide (FalseAtom at) ty fits = refl
    constant_wide (UnitAtom at) ty fits = refl
    constant_wide (NullAtom at to) ty fits = length-number_bits setting.widths.addr 0
    constant_wide (ZeroAtom at written) ty fits =
        ap (λ (found : Option Ty). length (found_bits setting.widths (option_map zero_value found))) fits
        ∙ length-value_bits setting.widths (zero_value ty) ty (zero_value-typed setting.widths ty)
        ∙ sym (written_sized written ty fits)

    -- a wire of an atom is one of its variable
    pub atom_owned : (P : Name → Type 0) (atom : AtomTree) (ty : Ty) → AtomFits setting frame.types atom ty → AllByRecursion (λ name. P name.text) (atom_names atom) → (n wire : ℕ) → n ≡ size setting.widths ty
        → IsOfOperand (operand_of setting frame atom) n wire → (name : Name) × P name × Owns setting.widths frame name wire
    atom_owned P (PlaceAtom at path) ty fits each n wire sized inside =
        (path.root.text, each.0, path_owned setting frame path ty fits wire (subst (λ k. IsIn (path_wire setting frame path) k wire) sized inside))
    atom_owned P (NumberAtom at number) ty fits each n wire sized inside = absurd inside
    atom_owned P (TrueAtom at) ty fits each n wire sized inside = absurd inside
    atom_owned P (FalseAtom at) ty fits each n wire sized inside = absurd inside
    atom_owned P (UnitAtom at) ty fits each n wire sized inside = absurd inside
    atom_owned P (NullAtom at to) ty fits each n wire sized inside = absurd inside
    atom_owned P (ZeroAtom at written) ty fits each n wire sized inside = absurd inside

module _ (setting : Setting) (layout : WireLayout) (fun : FunTree) (frame : Frame) (good : IsFrame setting layout fun frame) (regions : HasRegions setting layout) where
  -- the bits of an operand are those of the value
  pub atom_reads : (state : State) → IsTypedIn setting frame.types state → (atom : AtomTree) (ty : Ty) (value : Value) (n : ℕ) → n ≡ size setting.widths ty → AtomFits setting frame.types atom ty
      → atom_value setting state.store atom ≡ Some value → operand_bits (operand_of setting frame atom) n (state_bits setting frame state) ≡ value_bits setting.widths value
  atom_reads state typed (PlaceAtom at path) ty value n sized fits found =
      ap (λ k. read (path_wire setting frame path) k (state_bits setting frame state)) sized ∙ path_reads setting layout fun frame good regions state typed path ty value fits found
  atom_reads state typed (NumberAtom at number) ty value n sized fits found = ap (found_bits setting.widths) found
  atom_reads state typed (TrueAtom at) ty value n sized fits found = ap (found_bits setting.widths) found
  atom_reads state typed (FalseAtom at) ty value n sized fits found = ap (found_bits setting.widths) found
  atom_reads state typed (UnitAtom at) ty value n sized fits found = ap (found_bits setting.widths) found
  atom_reads state typed (NullAtom at to) ty value n sized fits found = ap (found_bits setting.widths) found
  atom_reads state typed (ZeroAtom at written) ty value n sized fits found = ap (found_bits setting.widths) found
