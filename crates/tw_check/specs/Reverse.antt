-- The reverse of a statement.
use Rattle.std.specs.Prelude.{◌≡◌, Bool, true, false, not, codes, refl}
use Rattle.tw_syntax.specs.Examples.{place}
use Rattle.tw_syntax.specs.Statements.{StmtTree, Nothing, Then, Else, LetStmt, SwapStmt, MemSwapStmt, IfStmt, WithStmt, BlockStmt, SkipStmt}
use Rattle.tw_syntax.specs.Terms.{ExprRhs, OneExpr, TrueAtom}

-- the statement that undoes this one: an assignment becomes an un-assignment and the reverse, a sequence runs from its end to
-- its beginning, and a `with` keeps its setup. Here `Then` runs any two parts in order, so the first part may be a sequence
abbrev pub reverse_of : StmtTree → StmtTree
reverse_of Nothing = Nothing
reverse_of (Then first rest) = Then (reverse_of rest) (reverse_of first)
reverse_of (Else at stmts) = Else at (reverse_of stmts)
reverse_of (LetStmt at forward target rhs) = LetStmt at (not forward) target rhs
reverse_of (SwapStmt at left right) = SwapStmt at left right
reverse_of (MemSwapStmt at pointer value) = MemSwapStmt at pointer value
reverse_of (IfStmt at cond first other) = IfStmt at cond (reverse_of first) (reverse_of other)
reverse_of (WithStmt at setup work) = WithStmt at setup (reverse_of work)
reverse_of (BlockStmt at body) = BlockStmt at (reverse_of body)
reverse_of (SkipStmt at) = SkipStmt at

-- `let x <- true;` and `let x -> true;`
abbrev set_x : Bool → StmtTree
set_x forward = LetStmt (place 1 1) forward (record { text = codes "x"; at = place 1 5 }) (ExprRhs (OneExpr (place 1 10) (TrueAtom (place 1 10))))

pub reverse_of_let : reverse_of (set_x true) ≡ set_x false
reverse_of_let = refl

pub reverse_of_with : reverse_of (WithStmt (place 1 1) (set_x true) (Then (SkipStmt (place 2 1)) (set_x false))) ≡ WithStmt (place 1 1) (set_x true) (Then (set_x true) (SkipStmt (place 2 1)))
reverse_of_with = refl
