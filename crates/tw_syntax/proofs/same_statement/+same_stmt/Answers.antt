use Rattle.std.proofs.Common.{◌≡◌, ◌∙◌, ap, sym, refl, Bool, true, false, ◌&&◌}
use Rattle.std.proofs.lemmas.Bool.{and_left}
use Rattle.tw_syntax.specs.Statements.{StmtTree, else_tree}
use Rattle.tw_syntax.specs.Same.{same_stmt}
use Rattle.tw_syntax.proofs.Shapes.{block_is, with_is, if_is, else_is}
use Rattle.tw_syntax.proofs.same_statement.+same_stmt.Goals as goal

same_at : {r : Bool} {a b c d : StmtTree} → a ≡ b → c ≡ d → r ≡ same_stmt b d → r ≡ same_stmt a c
same_at {a = a} {d = d} left right h = h ∙ sym (ap (same_stmt a) right ∙ ap (λ x. same_stmt x d) left)

both : {r x y : Bool} → true ≡ x → r ≡ y → r ≡ (x && y)
both {y = y} e h = h ∙ ap (λ x. x && y) e

first_fails : {r x : Bool} (y : Bool) → r ≡ false → r ≡ x → r ≡ (x && y)
first_fails {x = x} y f e = f ∙ sym (and_left x y (sym e ∙ f))

pub same_else-returns-in-Some-y : goal.same_else-returns-in-Some-y
same_else-returns-in-Some-y t c = same_at (ap else_tree c.in-None.is) (else_is _ c.in-Some-y.field-0 c.in-Some-y.is) refl

pub same_else-returns-in-None-y-2 : goal.same_else-returns-in-None-y-2
same_else-returns-in-None-y-2 t c = same_at (else_is _ c.in-Some.no c.in-Some.is) (ap else_tree c.in-None-y-2.is) refl

pub same_else-returns-in-Some-y-2 : goal.same_else-returns-in-Some-y-2
same_else-returns-in-Some-y-2 t c = same_at (else_is _ c.in-Some.no c.in-Some.is) (else_is _ c.in-Some-y-2.other c.in-Some-y-2.is) c.same_stmts.ensures

pub same_stmt-returns-in-Block-kind : goal.same_stmt-returns-in-Block-kind
same_stmt-returns-in-Block-kind t c = same_at (block_is _ c.in-Block.body c.in-Block.is) (block_is _ c.in-Block-kind.other c.in-Block-kind.is) c.same_stmts-in-Block-kind.ensures

pub same_stmt-returns-then-same_stmts : goal.same_stmt-returns-then-same_stmts
same_stmt-returns-then-same_stmts t c =
    same_at (if_is _ _ c.in-If.yes _ c.in-If.is) (if_is _ _ c.in-If-kind.first _ c.in-If-kind.is)
    (both c.if-same_path-3.ensures (both c.if-same_stmts.ensures c.same_else.ensures))

pub same_stmt-returns-else-same_stmts : goal.same_stmt-returns-else-same_stmts
same_stmt-returns-else-same_stmts t c =
    same_at (if_is _ _ c.in-If.yes _ c.in-If.is) (if_is _ _ c.in-If-kind.first _ c.in-If-kind.is)
    (both c.if-same_path-3.ensures (first_fails _ c.if-same_stmts.false c.same_stmts.ensures))

pub same_stmt-returns-then-same_stmts-2 : goal.same_stmt-returns-then-same_stmts-2
same_stmt-returns-then-same_stmts-2 t c =
    same_at (with_is _ c.in-With.setup c.in-With.work c.in-With.is) (with_is _ c.in-With-kind.other c.in-With-kind.body c.in-With-kind.is)
    (both c.if-same_stmts-2.ensures c.same_stmts-then-same_stmts-2.ensures)

pub same_stmt-returns-else-same_stmts-2 : goal.same_stmt-returns-else-same_stmts-2
same_stmt-returns-else-same_stmts-2 t c =
    same_at (with_is _ c.in-With.setup c.in-With.work c.in-With.is) (with_is _ c.in-With-kind.other c.in-With-kind.body c.in-With-kind.is)
    (first_fails _ c.if-same_stmts-2.false c.same_stmts-in-With-kind.ensures)
