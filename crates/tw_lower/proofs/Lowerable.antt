-- Statements that can be lowered: the operands of each expression differ from its target, and the regions of a frame are apart.
use Rattle.std.proofs.Common.{◌≡◌, ◌∙◌, ◌≤◌, ap, sym, refl, arith, ℕ, zero, suc, ◌+◌, false, List, [], ◌∷◌, Some, bytes_eq}
use Rattle.std.specs.List.{AllByRecursion}
use Rattle.tw_text.specs.declared.limits.TheConstants.{WIRES_LIMIT}
use Rattle.tw_syntax.specs.declared.term.OpKind.TheVariants as op
use Rattle.tw_syntax.specs.Names.{NameTree}
use Rattle.tw_syntax.specs.Programs.{FunTree}
use Rattle.tw_syntax.specs.Statements.{StmtTree, Nothing, Then, Else, LetStmt, SwapStmt, MemSwapStmt, IfStmt, WithStmt, BlockStmt, SkipStmt}
use Rattle.tw_syntax.specs.Terms.{AtomTree, PlaceAtom, NumberAtom, TrueAtom, FalseAtom, UnitAtom, NullAtom, ZeroAtom, ExprTree, OneExpr, TwoExpr, OpExpr, ExprRhs}
use Rattle.tw_types.specs.Types.{Ty, size}
use Rattle.tw_code.specs.Functions.{IsIn}
use Rattle.tw_resolve.specs.Setting.{Setting}
use Rattle.tw_resolve.proofs.Each.{each_first, each_rest}
use Rattle.tw_check.specs.Liveness.{atom_names, expr_names, rhs_names}
use Rattle.tw_check.specs.Names.{Names}
use Rattle.tw_check.specs.Right.{IsOperand, Right, RightNothing, RightThen, RightLet, RightUnlet, RightSwap, RightMemSwap, RightIf, RightIfElse, RightWith, RightBlock, RightSkip}
use Rattle.tw_state.specs.States.{Name}
use Rattle.tw_state.proofs.TypedTrees.{AtomFits, ExprFits, StmtFits}
use Rattle.tw_arith.specs.Operands.{IsOfOperand, HasWidth}
use Rattle.tw_arith.specs.Xors.{Regions, copy_regions, pair_regions, and_regions}
use Rattle.tw_frames.specs.declared.regions.WireLayout.{WireLayout}
use Rattle.tw_frames.specs.Frames.{Frame}
use Rattle.tw_frames.specs.Regions.{Owns, IsFrame, AreInOrder}
use Rattle.tw_frames.specs.Scratch.{rhs_scratch, stmt_scratch}
use Rattle.tw_frames.specs.Sizes.{name_size, type_size, atom_size}
use Rattle.tw_lower.specs.Operands.{operand_of, AreUsable}
use Rattle.tw_lower.specs.Lowering.{IsBuiltExpr, IsBuilt, CanLowerRhs, CanLower}
use Rattle.tw_lower.proofs.AtomBits.{atom_sized, constant_wide, atom_owned}
use Rattle.tw_lower.proofs.PathBits.{path_ends}

-- the operands of each right side differ from the target
abbrev pub OperandsDiffer : StmtTree → Type 0
OperandsDiffer Nothing = Unit {0}
OperandsDiffer (Then first rest) = OperandsDiffer first × OperandsDiffer rest
OperandsDiffer (Else at stmts) = OperandsDiffer stmts
OperandsDiffer (LetStmt at forward target rhs) = AllByRecursion (λ name. bytes_eq target.text name.text ≡ false) (rhs_names rhs)
OperandsDiffer (SwapStmt at left right) = Unit {0}
OperandsDiffer (MemSwapStmt at pointer value) = Unit {0}
OperandsDiffer (IfStmt at cond first other) = OperandsDiffer first × OperandsDiffer other
OperandsDiffer (WithStmt at setup work) = OperandsDiffer setup × OperandsDiffer work
OperandsDiffer (BlockStmt at body) = OperandsDiffer body
OperandsDiffer (SkipStmt at) = Unit {0}

operands_differ : (held bare : Names) (target : NameTree) (written : _) (names : List NameTree) → AllByRecursion (IsOperand held bare target written) names → AllByRecursion (λ name. bytes_eq target.text name.text ≡ false) names
operands_differ held bare target written [] operands = tt
operands_differ held bare target written (name ∷ names) operands = (operands.0.other, operands_differ held bare target written names operands.1)

-- so it is in right statements
pub right_differ : {held before after : Names} {s : StmtTree} → Right held s before after → OperandsDiffer s
right_differ RightNothing = tt
right_differ (RightThen middle first rest) = (right_differ first, right_differ rest)
right_differ {held} {before} (RightLet {target = target} {rhs = rhs} assigns) = operands_differ held before target _ (rhs_names rhs) assigns.operands
right_differ {held} {before} {after} (RightUnlet {target = target} {rhs = rhs} assigns) = operands_differ held after target _ (rhs_names rhs) assigns.operands
right_differ (RightSwap a b c d e) = tt
right_differ (RightMemSwap a b c d) = tt
right_differ (RightIf live first) = (right_differ first, tt)
right_differ (RightIfElse live first other) = (right_differ first, right_differ other)
right_differ (RightWith ready done setup work back) = (right_differ setup, right_differ work)
right_differ (RightBlock body) = right_differ body
right_differ RightSkip = tt

module _ (setting : Setting) (layout : WireLayout) (fun : FunTree) (frame : Frame) (good : IsFrame setting layout fun frame) (in_order : AreInOrder setting.widths layout) (within : layout.wires ≤ WIRES_LIMIT)
    (placed : (name : Name) → frame.wire name ≤ layout.wires) where
  -- the wires of a name end within all wires
  name_ends : (name : Name) → frame.wire name + name_size setting.widths frame.types name ≤ layout.wires
  name_ends name = by (name_size setting.widths frame.types name) refl
    where
      by : (n : ℕ) → name_size setting.widths frame.types name ≡ n → frame.wire name + n ≤ layout.wires
      by zero is = let at = placed name in omega (arith, at)
      by (suc n) is =
          let last = good.before_next name (frame.wire name + n) (record { from_start = omega arith; before_end = omega (arith, is) }) in
          omega (arith, last, good.next_before_scratch, in_order.scratch, in_order.flags, in_order.ladder)

  -- an atom has its width
  atom_wide : (atom : AtomTree) (ty : Ty) → AtomFits setting frame.types atom ty → (n : ℕ) → n ≡ size setting.widths ty → HasWidth (operand_of setting frame atom) n
  atom_wide (PlaceAtom at path) ty fits n sized =
      let ends = path_ends setting frame path ty fits in let whole = name_ends path.root.text in omega (arith, ends, whole, within, sized)
  atom_wide (NumberAtom at number) ty fits n sized = constant_wide setting frame (NumberAtom at number) ty fits ∙ atom_sized setting frame (NumberAtom at number) ty fits ∙ sym sized
  atom_wide (TrueAtom at) ty fits n sized = constant_wide setting frame (TrueAtom at) ty fits ∙ atom_sized setting frame (TrueAtom at) ty fits ∙ sym sized
  atom_wide (FalseAtom at) ty fits n sized = constant_wide setting frame (FalseAtom at) ty fits ∙ atom_sized setting frame (FalseAtom at) ty fits ∙ sym sized
  atom_wide (UnitAtom at) ty fits n sized = constant_wide setting frame (UnitAtom at) ty fits ∙ atom_sized setting frame (UnitAtom at) ty fits ∙ sym sized
  atom_wide (NullAtom at to) ty fits n sized = constant_wide setting frame (NullAtom at to) ty fits ∙ atom_sized setting frame (NullAtom at to) ty fits ∙ sym sized
  atom_wide (ZeroAtom at written) ty fits n sized = constant_wide setting frame (ZeroAtom at written) ty fits ∙ atom_sized setting frame (ZeroAtom at written) ty fits ∙ sym sized

  -- the wire is one of a name that is not the target
  record OfOther (target : Name) (wire : ℕ) : Type 0 where
    pub name : Name
    pub other : bytes_eq target name ≡ false
    pub owns : Owns setting.widths frame name wire

  of_other : (target : NameTree) (atom : AtomTree) (ty : Ty) → AtomFits setting frame.types atom ty → AllByRecursion (λ name. bytes_eq target.text name.text ≡ false) (atom_names atom) → (n : ℕ) → n ≡ size setting.widths ty
      → (wire : ℕ) → IsOfOperand (operand_of setting frame atom) n wire → OfOther target.text wire
  of_other target atom ty fits differ n sized wire inside =
      let owner = atom_owned setting frame (λ name. bytes_eq target.text name ≡ false) atom ty fits differ n wire sized inside in record { name = owner.0; other = owner.1; owns = owner.2 }

  -- regions are usable if the operands have their widths and wires of other names than the target
  usable : (target : Name) (ty : Ty) → frame.types target ≡ Some ty → (at : Regions) → at.out ≡ frame.wire target → at.width ≡ size setting.widths ty → HasWidth at.x at.left → HasWidth at.y at.right
      → ((wire : ℕ) → IsOfOperand at.x at.left wire → OfOther target wire) → ((wire : ℕ) → IsOfOperand at.y at.right wire → OfOther target wire)
      → at.scratch + at.room ≤ layout.wires → ((wire : ℕ) → IsIn at.scratch at.room wire → layout.scratch ≤ wire) → AreUsable at
  usable target ty is at out sized x y of_x of_y room scratch = record {
    x = x;
    y = y;
    out = let ends = name_ends target in let all = ap (type_size setting.widths) is in omega (arith, ends, all, out, sized, within);
    scratch = omega (arith, room, within);
    apart = record {
      x_out = λ wire inside result. off_target wire (of_x wire inside) result;
      y_out = λ wire inside result. off_target wire (of_y wire inside) result;
      x_scratch = λ wire inside spare. let o = of_x wire inside in off_scratch o.name wire o.owns spare;
      y_scratch = λ wire inside spare. let o = of_y wire inside in off_scratch o.name wire o.owns spare;
      out_scratch = λ wire result spare. off_scratch target wire (of_target wire result) spare;
    };
  }
    where
      of_target : (wire : ℕ) → IsIn at.out at.width wire → Owns setting.widths frame target wire
      of_target wire result = let all = ap (type_size setting.widths) is in record { from_start = omega (arith, out, result.from_start); before_end = omega (arith, out, all, sized, result.before_end) }

      off_target : (wire : ℕ) → OfOther target wire → IsIn at.out at.width wire → ⊥
      off_target wire o result = good.apart target o.name o.other wire (of_target wire result) o.owns

      off_scratch : (name : Name) (wire : ℕ) → Owns setting.widths frame name wire → IsIn at.scratch at.room wire → ⊥
      off_scratch name wire owns spare = let before = good.before_next name wire owns in let after = scratch wire spare in omega (arith, before, after, good.next_before_scratch)

  -- a built expression can be lowered
  can_expr : (target : NameTree) (expr : ExprTree) (ty : Ty) → IsBuiltExpr expr → frame.types target.text ≡ Some ty → ExprFits setting frame.types expr ty → AllByRecursion (λ name. bytes_eq target.text name.text ≡ false) (expr_names expr)
      → layout.scratch + rhs_scratch setting frame.types (ExprRhs expr) ≤ layout.flags → CanLowerRhs setting layout frame (frame.wire target.text) (ExprRhs expr)
  can_expr target (OneExpr at x) ty built is fits differ room =
      let sized = atom_sized setting frame x ty fits in
      let wide = atom_wide x ty fits (atom_size setting frame.types x) sized in
      let of_x = of_other target x ty fits differ (atom_size setting frame.types x) sized in (
        usable target.text ty is (copy_regions (operand_of setting frame x) (frame.wire target.text) (atom_size setting frame.types x)) refl sized wide wide of_x of_x (omega arith) (λ wire spare. absurd (omega (arith, spare.before_end))),
        built,
      )
  can_expr target (TwoExpr at x y) ty built is fits differ room =
      let first = atom_sized setting frame x fits.0 fits.2 in
      let second = atom_sized setting frame y fits.1 fits.3 in
      let m = atom_size setting frame.types x in
      let n = atom_size setting frame.types y in (
        usable target.text ty is (pair_regions (operand_of setting frame x) (operand_of setting frame y) (frame.wire target.text) m n) refl ((λ i. first i + second i) ∙ ap (size setting.widths) (sym fits.4))
            (atom_wide x fits.0 fits.2 m first) (atom_wide y fits.1 fits.3 n second)
            (of_other target x fits.0 fits.2 (each_first (λ name. bytes_eq target.text name.text ≡ false) (atom_names x) (atom_names y) differ) m first)
            (of_other target y fits.1 fits.3 (each_rest (λ name. bytes_eq target.text name.text ≡ false) (atom_names x) (atom_names y) differ) n second)
            (omega arith) (λ wire spare. absurd (omega (arith, spare.before_end))),
        built,
      )
  can_expr target (OpExpr at op.And x y) ty built is fits differ room =
      let first : 1 ≡ size setting.widths fits.0 = ap (size setting.widths) (sym fits.4.0) in
      let second : 1 ≡ size setting.widths fits.1 = ap (size setting.widths) (sym fits.4.1) in (
        usable target.text ty is (and_regions (operand_of setting frame x) (operand_of setting frame y) (frame.wire target.text) layout.scratch) refl (ap (size setting.widths) (sym fits.4.2))
            (atom_wide x fits.0 fits.2 1 first) (atom_wide y fits.1 fits.3 1 second)
            (of_other target x fits.0 fits.2 (each_first (λ name. bytes_eq target.text name.text ≡ false) (atom_names x) (atom_names y) differ) 1 first)
            (of_other target y fits.1 fits.3 (each_rest (λ name. bytes_eq target.text name.text ≡ false) (atom_names x) (atom_names y) differ) 1 second)
            (omega (arith, room, in_order.flags, in_order.ladder)) (λ wire spare. spare.from_start),
        built,
      )
  can_expr target other ty built is fits differ room = absurd built

  -- so can a built statement
  pub can_lower : (s : StmtTree) → IsBuilt s → StmtFits setting frame.types s → OperandsDiffer s → layout.scratch + stmt_scratch setting frame.types s ≤ layout.flags → CanLower setting layout frame s
  can_lower Nothing built fits differ room = tt
  can_lower (Then first rest) built fits differ room =
      (can_lower first built.0 fits.0 differ.0 (omega (arith, room)), can_lower rest built.1 fits.1 differ.1 (omega (arith, room)))
  can_lower (Else at stmts) built fits differ room = can_lower stmts built fits differ room
  can_lower (LetStmt at forward target (ExprRhs expr)) built fits differ room = can_expr target expr fits.0 built fits.1 fits.2 differ room
  can_lower (LetStmt at forward target rhs) built fits differ room = absurd built
  can_lower (SwapStmt at left right) built fits differ room = absurd built
  can_lower (MemSwapStmt at pointer value) built fits differ room = absurd built
  can_lower (IfStmt at cond first other) built fits differ room = (can_lower first built.0 fits.1 differ.0 (omega (arith, room)), can_lower other built.1 fits.2 differ.1 (omega (arith, room)))
  can_lower (WithStmt at setup work) built fits differ room = (can_lower setup built.0 fits.0 differ.0 (omega (arith, room)), can_lower work built.1 fits.1 differ.1 (omega (arith, room)))
  can_lower (BlockStmt at body) built fits differ room = can_lower body built fits differ room
  can_lower (SkipStmt at) built fits differ room = tt
