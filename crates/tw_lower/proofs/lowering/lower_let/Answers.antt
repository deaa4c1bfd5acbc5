use Rattle.std.proofs.Common.{◌≡◌, ap, subst}
use Rattle.tw_syntax.specs.Terms.{ExprRhs, expr_tree, rhs_tree}
use Rattle.tw_code.specs.Trees.{code_tree}
use Rattle.tw_frames.specs.Found.{setting_of}
use Rattle.tw_lower.specs.FrameWires.{plain_frame}
use Rattle.tw_lower.specs.Operands.{IsExprCode}
use Rattle.tw_lower.specs.Lowering.{LowersLet}
use Rattle.tw_lower.proofs.lowering.lower_let.Goals as goal

pub returns : goal.returns
returns c = λ at forward number.
    let is : rhs_tree c.args.rhs.now ≡ ExprRhs (expr_tree c.in-Expr.expr) = ap rhs_tree c.in-Expr.is in
    rw is
    (LowersLet
    (subst (λ out. IsExprCode (setting_of c.args.frame.now.body) (plain_frame c.args.frame.now) c.args.frame.now.layout.scratch out (expr_tree c.in-Expr.expr) (code_tree c.in_ok-lower_expr-in-Expr.field-0.now)) c.wire.ensures
    c.in_ok-lower_expr-in-Expr.ensures))
