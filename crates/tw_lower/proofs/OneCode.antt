-- On a layout, an entry has one code.
use Rattle.std.proofs.Common.{◌≡◌, ◌∙◌, ap, ap₂, sym, subst, refl, ℕ, Option, Some, None}
use Rattle.tw_syntax.specs.Programs.{FunTree}
use Rattle.tw_syntax.specs.Statements.{StmtTree}
use Rattle.tw_syntax.specs.Terms.{ExprTree}
use Rattle.tw_code.specs.Trees.{CodeTree, WithCode}
use Rattle.tw_code.specs.Trees as code
use Rattle.tw_resolve.specs.Setting.{Setting}
use Rattle.tw_state.proofs.Basics.{same_some, not_both}
use Rattle.tw_frames.specs.declared.regions.WireLayout.{WireLayout}
use Rattle.tw_frames.specs.Frames.{Frame, if_wire}
use Rattle.tw_frames.specs.Layout.{entry_frame}
use Rattle.tw_lower.specs.Operands.{path_wire, IsExprCode, CodeOne, CodeTwo, CodeAnd}
use Rattle.tw_lower.specs.Lowering.{if_tree, if_else_tree, Lowers, LowersNothing, LowersThen, LowersLet, LowersIf, LowersIfElse, LowersWith, LowersBlock, LowersSkip, LowersEntry, LowersBody, LowersNoBody}

module _ (setting : Setting) where
  one_expr : {frame : Frame} {scratch out : ℕ} {expr : ExprTree} {a b : CodeTree} → IsExprCode setting frame scratch out expr a → IsExprCode setting frame scratch out expr b → a ≡ b
  one_expr CodeOne CodeOne = refl
  one_expr CodeTwo CodeTwo = refl
  one_expr CodeAnd CodeAnd = refl

  module _ (layout : WireLayout) where
    one_stmt : {frame : Frame} {own number : ℕ} {s : StmtTree} {a b : CodeTree} → Lowers setting layout frame own number s a → Lowers setting layout frame own number s b → a ≡ b
    one_stmt LowersNothing LowersNothing = refl
    one_stmt (LowersThen a b) (LowersThen c d) = ap₂ code.Then (one_stmt a c) (one_stmt b d)
    one_stmt (LowersLet a) (LowersLet b) = one_expr a b
    one_stmt {frame = frame} {number = number} (LowersIf {cond = cond} a) (LowersIf b) = ap (if_tree (path_wire setting frame cond) (if_wire frame number)) (one_stmt a b)
    one_stmt {frame = frame} {number = number} (LowersIfElse {cond = cond} a b) (LowersIfElse c d) = ap₂ (if_else_tree (path_wire setting frame cond) (if_wire frame number)) (one_stmt a c) (one_stmt b d)
    one_stmt (LowersWith a b) (LowersWith c d) = ap₂ WithCode (one_stmt a c) (one_stmt b d)
    one_stmt (LowersBlock a) (LowersBlock b) = one_stmt a b
    one_stmt LowersSkip LowersSkip = refl

    pub one_code : {fun : FunTree} {bound : Option ℕ} {a b : CodeTree} → LowersEntry setting layout fun bound a → LowersEntry setting layout fun bound b → a ≡ b
    one_code {fun} {b = b} (LowersBody n is first) (LowersBody m same second) =
        one_stmt first (subst (λ k. Lowers setting layout (entry_frame setting fun layout) k 0 fun.body b) (same_some same is) second)
    one_code (LowersBody n is first) (LowersNoBody none) = not_both none is
    one_code (LowersNoBody none) (LowersBody n is second) = not_both none is
    one_code (LowersNoBody none) (LowersNoBody same) = refl
