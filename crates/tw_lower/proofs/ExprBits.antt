-- The code of an expression XORs the bits of its value into the wires of the target.
use Rattle.std.proofs.Common.{◌≡◌, ◌∙◌, ◌≤◌, ◌<◌, ap, sym, subst, refl, arith, ℕ, ◌+◌, false, ◌++◌, Option, Some, None}
use Rattle.std.proofs.lemmas.Option.{none-some}
use Rattle.tw_syntax.specs.declared.term.OpKind.TheVariants as op
use Rattle.tw_syntax.specs.Names.{NameTree}
use Rattle.tw_syntax.specs.Programs.{FunTree}
use Rattle.tw_syntax.specs.Terms.{AtomTree, ExprTree, ExprRhs}
use Rattle.tw_types.specs.Types.{Widths, Ty, size}
use Rattle.tw_types.specs.Values.{Value, UnitValue, Number, Truth, Address, PairValue, value_bits}
use Rattle.tw_code.specs.Trees.{CodeTree}
use Rattle.tw_code.specs.Functions.{changed, placed, IsIn, AreZero, mean_wires}
use Rattle.tw_code.proofs.Wires.{each_weaker}
use Rattle.tw_resolve.proofs.Each.{each_always}
use Rattle.tw_resolve.specs.Setting.{Setting}
use Rattle.tw_check.specs.Liveness.{atom_names}
use Rattle.tw_state.specs.States.{Name, State}
use Rattle.tw_state.specs.Evaluation.{atom_value, op_value, both, expr_value}
use Rattle.tw_state.specs.Results.{IsTypedIn}
use Rattle.tw_state.specs.Steps.{Adds}
use Rattle.tw_state.proofs.Basics.{some_value}
use Rattle.tw_state.proofs.TypedTrees.{AtomFits, ExprFits}
use Rattle.tw_arith.specs.Operands.{IsOfOperand, operand_bits}
use Rattle.tw_arith.specs.Xors.{Regions, AreApart, IsOf, InX, InY, InOut, InScratch, copy_value, pair_value, and_value, result_bits, XorsWires, copy_regions, pair_regions, and_regions}
use Rattle.tw_arith.specs.Xors as xors
use Rattle.tw_arith.proofs.Placing.{takes, copy_wires, pair_wires}
use Rattle.tw_arith.proofs.Operations.{and_wires}
use Rattle.tw_frames.specs.declared.regions.WireLayout.{WireLayout}
use Rattle.tw_frames.specs.Frames.{Frame}
use Rattle.tw_frames.specs.Regions.{IsFrame}
use Rattle.tw_frames.specs.Scratch.{rhs_scratch}
use Rattle.tw_frames.specs.Sizes.{type_size, atom_size}
use Rattle.tw_lower.specs.Operands.{operand_of, IsExprCode, CodeOne, CodeTwo, CodeAnd}
use Rattle.tw_lower.specs.Lowering.{CanLowerRhs}
use Rattle.tw_lower.specs.StateBits.{state_bits}
use Rattle.tw_lower.proofs.AtomBits.{atom_sized, atom_owned, atom_reads}
use Rattle.tw_lower.proofs.ExprCodes.{IsOfFrame, OfName, OfScratch, AddValues}
use Rattle.tw_lower.proofs.StateBits.{HasRegions, adds_bits, scratch_zero}

-- two values that have a function's result
record BothFound (f : Value → Value → Option Value) (o q : Option Value) (value : Value) : Type 0 where
  pub first : Value
  pub second : Value
  pub one : o ≡ Some first
  pub two : q ≡ Some second
  pub is : f first second ≡ Some value

both_found : (f : Value → Value → Option Value) (o q : Option Value) (value : Value) → both f o q ≡ Some value → BothFound f o q value
both_found f (Some x) (Some y) value is = record { first = x; second = y; one = refl; two = refl; is = is }
both_found f None (Some y) value is = absurd (none-some value is)
both_found f None None value is = absurd (none-some value is)
both_found f (Some x) None value is = absurd (none-some value is)

-- the bit of a conjunction
and_bits : (widths : Widths) (x y value : Value) → op_value widths op.And x y ≡ Some value → and_value (value_bits widths x) (value_bits widths y) ≡ value_bits widths value
and_bits widths (Truth p) (Truth q) value is = ap (value_bits widths) (some_value is)
and_bits widths (Truth p) UnitValue value is = absurd (none-some value is)
and_bits widths (Truth p) (Number n) value is = absurd (none-some value is)
and_bits widths (Truth p) (Address block) value is = absurd (none-some value is)
and_bits widths (Truth p) (PairValue a b) value is = absurd (none-some value is)
and_bits widths UnitValue y value is = absurd (none-some value is)
and_bits widths (Number n) y value is = absurd (none-some value is)
and_bits widths (Address block) y value is = absurd (none-some value is)
and_bits widths (PairValue a b) y value is = absurd (none-some value is)

module _ (setting : Setting) (layout : WireLayout) (fun : FunTree) (frame : Frame) (good : IsFrame setting layout fun frame) (regions : HasRegions setting layout) where
  -- the code XORs the bits of the expression's value into the wires of the target
  record ComputesExpr (target : Name) (expr : ExprTree) (code : CodeTree) : Type 0 where
    pub at : Regions
    pub value : xors.Value
    pub out : at.out ≡ frame.wire target
    pub apart : AreApart at
    pub xors : XorsWires at value code
    pub scratch : (wire : ℕ) → IsIn at.scratch at.room wire → layout.scratch ≤ wire
    pub owned : (wire : ℕ) → IsOf at wire → IsOfFrame setting layout frame 0 0 wire
    pub computes : (state : State) → IsTypedIn setting frame.types state → (result : Value) → expr_value setting state.store expr ≡ Some result
        → value (operand_bits at.x at.left (state_bits setting frame state)) (operand_bits at.y at.right (state_bits setting frame state)) ≡ value_bits setting.widths result

  -- an operand's wires are those of a name
  of_atom : (atom : AtomTree) (ty : Ty) (n : ℕ) → n ≡ size setting.widths ty → AtomFits setting frame.types atom ty → (wire : ℕ) → IsOfOperand (operand_of setting frame atom) n wire → IsOfFrame setting layout frame 0 0 wire
  of_atom atom ty n sized fits wire inside =
      let owner = atom_owned setting frame (λ name. Unit {0}) atom ty fits (each_always (λ (name : NameTree). Unit {0}) (λ name. tt) (atom_names atom)) n wire sized inside in OfName owner.0 owner.2

  -- so are the wires of the target
  of_target : (target : Name) (ty : Ty) (n : ℕ) → n ≡ size setting.widths ty → frame.types target ≡ Some ty → (wire : ℕ) → IsIn (frame.wire target) n wire → IsOfFrame setting layout frame 0 0 wire
  of_target target ty n sized is wire inside =
      let all = ap (type_size setting.widths) is in OfName target (record { from_start = inside.from_start; before_end = omega (arith, inside.before_end, sized, all) })

  wire_of : (target : Name) (ty : Ty) (at : Regions) → at.out ≡ frame.wire target → frame.types target ≡ Some ty → at.width ≡ size setting.widths ty
      → ((wire : ℕ) → IsOfOperand at.x at.left wire → IsOfFrame setting layout frame 0 0 wire) → ((wire : ℕ) → IsOfOperand at.y at.right wire → IsOfFrame setting layout frame 0 0 wire)
      → ((wire : ℕ) → IsIn at.scratch at.room wire → (layout.scratch ≤ wire) × (wire < layout.flags)) → (wire : ℕ) → IsOf at wire → IsOfFrame setting layout frame 0 0 wire
  wire_of target ty at out is sized x y scratch wire (InX _ inside) = x wire inside
  wire_of target ty at out is sized x y scratch wire (InY _ inside) = y wire inside
  wire_of target ty at out is sized x y scratch wire (InOut _ inside) = of_target target ty at.width sized is wire (subst (λ n. IsIn n at.width wire) out inside)
  wire_of target ty at out is sized x y scratch wire (InScratch _ inside) = let there = scratch wire inside in OfScratch there.0 there.1

  no_room : (wire : ℕ) → IsIn 0 0 wire → (layout.scratch ≤ wire) × (wire < layout.flags)
  no_room wire inside = absurd (omega (arith, inside.before_end))

  computed : (target : NameTree) (expr : ExprTree) (code : CodeTree) (ty : Ty) → IsExprCode setting frame layout.scratch (frame.wire target.text) expr code → frame.types target.text ≡ Some ty
      → ExprFits setting frame.types expr ty → CanLowerRhs setting layout frame (frame.wire target.text) (ExprRhs expr) → layout.scratch + rhs_scratch setting frame.types (ExprRhs expr) ≤ layout.flags
      → ComputesExpr target.text expr code
  computed target _ _ ty (CodeOne {x = x}) is fits can room =
      let out = frame.wire target.text in
      let n = atom_size setting frame.types x in
      let sized = atom_sized setting frame x ty fits in
      record {
        at = copy_regions (operand_of setting frame x) out n;
        value = copy_value;
        out = refl;
        apart = can.0.apart;
        xors = copy_wires (operand_of setting frame x) out n can.0.x can.0.apart;
        scratch = λ wire inside. (no_room wire inside).0;
        owned = wire_of target.text ty (copy_regions (operand_of setting frame x) out n) refl is sized (of_atom x ty n sized fits) (of_atom x ty n sized fits) no_room;
        computes = λ state typed result found. atom_reads setting layout fun frame good regions state typed x ty result n sized fits found;
      }
  computed target _ _ ty (CodeTwo {x = x} {y = y}) is fits can room =
      let out = frame.wire target.text in
      let m = atom_size setting frame.types x in
      let n = atom_size setting frame.types y in
      let first = atom_sized setting frame x fits.0 fits.2 in
      let second = atom_sized setting frame y fits.1 fits.3 in
      let both_sized : m + n ≡ size setting.widths ty = (λ i. first i + second i) ∙ ap (size setting.widths) (sym fits.4) in
      record {
        at = pair_regions (operand_of setting frame x) (operand_of setting frame y) out m n;
        value = pair_value;
        out = refl;
        apart = can.0.apart;
        xors = pair_wires (operand_of setting frame x) (operand_of setting frame y) out m n can.0.x can.0.y can.0.apart;
        scratch = λ wire inside. (no_room wire inside).0;
        owned = wire_of target.text ty (pair_regions (operand_of setting frame x) (operand_of setting frame y) out m n) refl is both_sized (of_atom x fits.0 m first fits.2) (of_atom y fits.1 n second fits.3) no_room;
        computes = λ state typed result found.
            let parts = both_found (λ a b. Some (PairValue a b)) (atom_value setting state.store x) (atom_value setting state.store y) result found in
            let one = atom_reads setting layout fun frame good regions state typed x fits.0 parts.first m first fits.2 parts.one in
            let two = atom_reads setting layout fun frame good regions state typed y fits.1 parts.second n second fits.3 parts.two in
            (λ i. one i ++ two i) ∙ ap (value_bits setting.widths) (some_value parts.is);
      }
  computed target _ _ ty (CodeAnd {x = x} {y = y}) is fits can room =
      let out = frame.wire target.text in
      let first : 1 ≡ size setting.widths fits.0 = ap (size setting.widths) (sym fits.4.0) in
      let second : 1 ≡ size setting.widths fits.1 = ap (size setting.widths) (sym fits.4.1) in
      let sized : 1 ≡ size setting.widths ty = ap (size setting.widths) (sym fits.4.2) in
      record {
        at = and_regions (operand_of setting frame x) (operand_of setting frame y) out layout.scratch;
        value = and_value;
        out = refl;
        apart = can.0.apart;
        xors = and_wires (operand_of setting frame x) (operand_of setting frame y) out layout.scratch can.0.x can.0.y can.0.apart;
        scratch = λ wire inside. inside.from_start;
        owned = wire_of target.text ty (and_regions (operand_of setting frame x) (operand_of setting frame y) out layout.scratch) refl is sized (of_atom x fits.0 1 first fits.2) (of_atom y fits.1 1 second fits.3)
            (λ wire inside. (inside.from_start, omega (arith, room, inside.before_end)));
        computes = λ state typed result found.
            let parts = both_found (op_value setting.widths op.And) (atom_value setting state.store x) (atom_value setting state.store y) result found in
            let one = atom_reads setting layout fun frame good regions state typed x fits.0 parts.first 1 first fits.2 parts.one in
            let two = atom_reads setting layout fun frame good regions state typed y fits.1 parts.second 1 second fits.3 parts.two in
            (λ i. and_value (one i) (two i)) ∙ and_bits setting.widths parts.first parts.second result parts.is;
      }

  -- so it adds the target with the value, and removes it
  pub add_values : AddValues setting layout frame
  add_values target expr code ty is_code is fits can room = record {
    uses = each_weaker (IsOf c.at) (IsOfFrame setting layout frame 0 0) c.owned code c.xors.uses;
    proper = c.xors.proper;
    adds = λ value bare full typed found adds. c.xors.does (state_bits setting frame bare) (clear bare typed) ∙ sym (full_bits value bare full typed found adds);
    removes = λ value bare full typed found adds. ap (mean_wires code false) (full_bits value bare full typed found adds) ∙ takes c.at c.value code c.apart c.xors (state_bits setting frame bare) (clear bare typed);
  }
    where
      c : ComputesExpr target.text expr code
      c = computed target expr code ty is_code is fits can room

      clear : (bare : State) → IsTypedIn setting frame.types bare → AreZero (IsIn c.at.scratch c.at.room) (state_bits setting frame bare)
      clear bare typed wire inside = scratch_zero setting layout fun frame good regions bare typed wire (c.scratch wire inside)

      full_bits : (value : Value) (bare full : State) → IsTypedIn setting frame.types bare → expr_value setting bare.store expr ≡ Some value → Adds target.text value bare full
          → state_bits setting frame full ≡ changed (state_bits setting frame bare) (result_bits c.at c.value (state_bits setting frame bare))
      full_bits value bare full typed found adds =
          let computes = c.computes bare typed value found in
          adds_bits setting layout fun frame good ty is adds ∙ sym (λ i. changed (state_bits setting frame bare) (placed (c.out i) (computes i)))
