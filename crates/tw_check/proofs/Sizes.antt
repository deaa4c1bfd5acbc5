-- The size of a statement, which falls at each call of the walk.
use Rattle.std.proofs.Common.{◌≡◌, ℕ, suc, ◌+◌, ◌<◌, List, [], ◌∷◌, length, get_or, arith, zero}
use Rattle.tw_syntax.specs.declared.statement.Stmt.{Stmt}
use Rattle.tw_syntax.specs.Statements.{StmtTree, Nothing, Then, Else, LetStmt, SwapStmt, MemSwapStmt, IfStmt, WithStmt, BlockStmt, SkipStmt, stmt_tree, stmts_tree}

abbrev pub size_of : StmtTree → ℕ
size_of Nothing = 0
size_of (Then first rest) = 1 + (size_of first + size_of rest)
size_of (Else at stmts) = 1 + size_of stmts
size_of (LetStmt at forward target rhs) = 1
size_of (SwapStmt at left right) = 1
size_of (MemSwapStmt at pointer value) = 1
size_of (IfStmt at cond first other) = 2 + (size_of first + size_of other)
size_of (WithStmt at setup work) = 2 + (size_of setup + size_of work)
size_of (BlockStmt at body) = 1 + size_of body
size_of (SkipStmt at) = 1

-- a statement of a list is smaller than the list
smaller_item : (stmts : List Stmt) (i : ℕ) (d : Stmt) → i < length stmts → size_of (stmt_tree (get_or stmts i d)) < size_of (stmts_tree stmts)
smaller_item [] i d inside = absurd (omega (arith, inside))
smaller_item (x ∷ xs) zero d inside = omega arith
smaller_item (x ∷ xs) (suc i) d inside =
    let later = smaller_item xs i d (omega (arith, inside)) in omega (arith, later)

pub smaller_below : (size : ℕ) (stmts : List Stmt) (i : ℕ) (d : Stmt) → i < length stmts → size_of (stmts_tree stmts) ≡ size → size_of (stmt_tree (get_or stmts i d)) < size
smaller_below size stmts i d inside is = let smaller = smaller_item stmts i d inside in omega (arith, smaller, is)
