use Rattle.std.proofs.Common.{◌≡◌, ◌∙◌, ap, subst₂, sym}
use Rattle.std.proofs.lemmas.Result.{IfOk-weaker}
use Rattle.tw_syntax.specs.Terms.{ExprTree, OpExpr, atom_tree, expr_kind_tree, expr_tree}
use Rattle.tw_syntax.specs.declared.term.OpKind.{OpKind}
use Rattle.tw_code.specs.Trees.{CodeTree}
use Rattle.tw_frames.specs.Found.{setting_of}
use Rattle.tw_lower.specs.FrameWires.{plain_frame}
use Rattle.tw_lower.specs.Operands.{IsExprCode, CodeOne, CodeTwo, CodeAnd}
use Rattle.tw_lower.proofs.expression.lower_expr.Goals as goal

pub returns-in-One : goal.returns-in-One
returns-in-One c =
    let frame = c.args.frame.now in
    IfOk-weaker c.lower_atom.result _ _
    (λ code is. subst₂ (λ (e : ExprTree) (t : CodeTree). IsExprCode (setting_of frame.body) (plain_frame frame) frame.layout.scratch c.args.out e t) (sym (ap (expr_kind_tree c.args.expr.now.at) c.in-One.is)) (sym is) CodeOne)
    c.lower_atom.ensures

pub returns-in-Two : goal.returns-in-Two
returns-in-Two c =
    let frame = c.args.frame.now in
    IfOk-weaker c.lower_pair.result _ _
    (λ code is. subst₂ (λ (e : ExprTree) (t : CodeTree). IsExprCode (setting_of frame.body) (plain_frame frame) frame.layout.scratch c.args.out e t) (sym (ap (expr_kind_tree c.args.expr.now.at) c.in-Two.is)) (sym is) CodeTwo)
    c.lower_pair.ensures

pub returns-in-And : goal.returns-in-And
returns-in-And c =
    let frame = c.args.frame.now in
    let at = c.args.expr.now.at in
    let same = ap (expr_kind_tree at) c.in-Op.is ∙ ap (λ (o : OpKind). OpExpr at o (atom_tree c.in-Op.x) (atom_tree c.in-Op.y)) c.in-And.is in
    IfOk-weaker c.lower_and.result _ _
    (λ code is. subst₂ (λ (e : ExprTree) (t : CodeTree). IsExprCode (setting_of frame.body) (plain_frame frame) frame.layout.scratch c.args.out e t) (sym same) (sym is) CodeAnd)
    c.lower_and.ensures
