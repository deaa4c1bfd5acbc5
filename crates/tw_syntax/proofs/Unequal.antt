-- Lists of statements that differ in length.
use Rattle.std.proofs.Common.{◌≡◌, ◌≢◌, refl, ap, suc, false, List, [], ◌∷◌, length}
use Rattle.std.proofs.lemmas.Bool.{and_right}
use Rattle.tw_syntax.specs.declared.statement.Stmt.{Stmt}
use Rattle.tw_syntax.specs.Statements.{stmt_tree, stmts_tree}
use Rattle.tw_syntax.specs.Same.{same_stmt}

pub same_stmt-lengths : (xs ys : List Stmt) → length xs ≢ length ys → same_stmt (stmts_tree xs) (stmts_tree ys) ≡ false
same_stmt-lengths [] [] h = absurd (h refl)
same_stmt-lengths [] (y ∷ ys) h = refl
same_stmt-lengths (x ∷ xs) [] h = refl
same_stmt-lengths (x ∷ xs) (y ∷ ys) h = and_right (same_stmt (stmt_tree x) (stmt_tree y)) _ (same_stmt-lengths xs ys (λ e. h (ap suc e)))

pub ruleset chains = (same_stmt-lengths)
