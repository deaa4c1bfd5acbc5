-- Paths, atoms and expressions on the wires of a frame.
use Rattle.std.specs.Prelude.{ℕ, zero, suc, ◌+◌, List, [], ◌∷◌, Option, Some, None, option_map, unwrap_or}
use Rattle.tw_syntax.specs.declared.term.OpKind.TheVariants as op
use Rattle.tw_syntax.specs.Names.{PathTree}
use Rattle.tw_syntax.specs.Terms.{AtomTree, PlaceAtom, ExprTree, OneExpr, TwoExpr, OpExpr}
use Rattle.tw_types.specs.Types.{Widths, Ty, PairTy, size}
use Rattle.tw_types.specs.Values.{value_bits}
use Rattle.tw_resolve.specs.Setting.{Setting}
use Rattle.tw_state.specs.States.{empty}
use Rattle.tw_state.specs.Evaluation.{atom_value}
use Rattle.tw_arith.specs.Operands.{PlainOperand, Wires, Fixed, HasWidth, EndsWithin}
use Rattle.tw_arith.specs.Circuits.{copy_tree, pair_tree, and_tree}
use Rattle.tw_arith.specs.Xors.{Regions, AreApart, copy_regions, pair_regions, and_regions}
use Rattle.tw_code.specs.Trees.{CodeTree}
use Rattle.tw_frames.specs.Sizes.{atom_size}
use Rattle.tw_frames.specs.Frames.{Frame}

-- the bits before the part that steps lead to, in a value of this type
abbrev pub part_offset : Widths → List ℕ → Ty → ℕ
part_offset widths [] ty = 0
part_offset widths (suc zero ∷ steps) (PairTy first second) = part_offset widths steps first
part_offset widths (suc (suc zero) ∷ steps) (PairTy first second) = size widths first + part_offset widths steps second
part_offset widths steps ty = 0

-- the first wire of a path
abbrev pub path_wire : Setting → Frame → PathTree → ℕ
path_wire setting frame path =
    frame.wire path.root.text + unwrap_or (option_map (part_offset setting.widths path.steps) (frame.types path.root.text)) 0

-- an atom as an operand: a path by its wires, and a constant by the bits of its value
abbrev pub operand_of : Setting → Frame → AtomTree → PlainOperand
operand_of setting frame (PlaceAtom at path) = Wires (path_wire setting frame path)
operand_of setting frame constant = Fixed (unwrap_or (option_map (value_bits setting.widths) (atom_value setting empty constant)) [])

-- the code of an expression, with its result from the wire `out` on. Operators other than `&&` are not compiled yet
pub data IsExprCode (setting : Setting) (frame : Frame) (scratch out : ℕ) : ExprTree → CodeTree → Type 0 where
  CodeOne : {at x : _} → IsExprCode setting frame scratch out (OneExpr at x) (copy_tree (operand_of setting frame x) out (atom_size setting frame.types x))
  CodeTwo : {at x y : _}
      → IsExprCode setting frame scratch out (TwoExpr at x y)
      (pair_tree (operand_of setting frame x) (operand_of setting frame y) out (atom_size setting frame.types x) (atom_size setting frame.types y))
  CodeAnd : {at x y : _} → IsExprCode setting frame scratch out (OpExpr at op.And x y) (and_tree (operand_of setting frame x) (operand_of setting frame y) out scratch)

-- the regions of operands, result and scratch of an expression; none of an operator that is not compiled yet
abbrev pub expr_regions : Setting → Frame → (scratch out : ℕ) → ExprTree → Option Regions
expr_regions setting frame scratch out (OneExpr at x) = Some (copy_regions (operand_of setting frame x) out (atom_size setting frame.types x))
expr_regions setting frame scratch out (TwoExpr at x y) =
    Some (pair_regions (operand_of setting frame x) (operand_of setting frame y) out (atom_size setting frame.types x) (atom_size setting frame.types y))
expr_regions setting frame scratch out (OpExpr at op.And x y) = Some (and_regions (operand_of setting frame x) (operand_of setting frame y) out scratch)
expr_regions setting frame scratch out other = None

-- regions that a code can be made for: the operands have their widths, all wires have numbers, and the regions are apart
pub record AreUsable (at : Regions) : Type 0 where
  pub x : HasWidth at.x at.left
  pub y : HasWidth at.y at.right
  pub out : EndsWithin at.out at.width
  pub scratch : EndsWithin at.scratch at.room
  pub apart : AreApart at
