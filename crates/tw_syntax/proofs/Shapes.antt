-- The trees of statements that code builds from slices.
use denote.Bor.{Bor}
use mathlib.Core.Former.{Count}
use Rattle.std.proofs.Common.{◌≡◌, refl, sym, ap, ◌∙◌, List, Option, Some, None}
use Rattle.tw_text.specs.declared.place.Pos.{Pos}
use Rattle.tw_syntax.specs.declared.name.Path.{Path}
use Rattle.tw_syntax.specs.declared.statement.No.{No, No-F, out-No, roll-No, roll-out-No}
use Rattle.tw_syntax.specs.declared.statement.Stmt.{Stmt}
use Rattle.tw_syntax.specs.declared.statement.StmtKind.{StmtKind, Block', Row_of-Stmt, end_of-Stmt, more_of-Stmt, items-the_row-Stmt, items_hidden-the_row-Stmt-0}
use Rattle.tw_syntax.specs.declared.statement.StmtKind as kind
use Rattle.tw_syntax.specs.Names.{path_tree}
use Rattle.tw_syntax.specs.Statements.{Then, Else, IfStmt, WithStmt, BlockStmt, stmt_tree, stmt_kind_tree, row_tree, stmts_tree, no_tree, else_tree}

row_is : (n : _) (row : Row_of-Stmt n) → row_tree row ≡ stmts_tree (items-the_row-Stmt n row)
row_is n end_of-Stmt = refl
row_is n (more_of-Stmt at kind rest) = ap (Then (stmt_kind_tree at kind)) (row_is _ rest)

abbrev row_of : StmtKind → (n : Count) × Row_of-Stmt n
row_of (Block' p shape row) = (_, row)
row_of _ = (_, end_of-Stmt)

-- the rows of a statement are its slices
slice_is : (body : Bor (List Stmt)) → row_tree (row_of (kind.Block body)).1 ≡ stmts_tree body.now
slice_is body = let row = row_of (kind.Block body) in row_is row.0 row.1 ∙ ap stmts_tree (items_hidden-the_row-Stmt-0 body.now)

pub tree_of_block : (at : Pos) (body : Bor (List Stmt)) → stmt_kind_tree at (kind.Block body) ≡ BlockStmt at (stmts_tree body.now)
tree_of_block at body = ap (BlockStmt at) (slice_is body)

pub tree_of_with : (at : Pos) (setup work : Bor (List Stmt)) → stmt_kind_tree at (kind.With setup work) ≡ WithStmt at (stmts_tree setup.now) (stmts_tree work.now)
tree_of_with at setup work =
    ap (λ x. WithStmt at x (row_tree (row_of (kind.Block work)).1)) (slice_is setup) ∙ ap (WithStmt at (stmts_tree setup.now)) (slice_is work)

pub tree_of_made : (r : No-F StmtKind No Stmt) → no_tree (roll-No r) ≡ Else r.at (stmts_tree r.stmts.now)
unfolding roll-No denote.Hole.Carrier.roll
tree_of_made r = ap (Else r.at) (slice_is r.stmts)

pub tree_of_no : (other : No) → no_tree other ≡ Else (out-No other).at (stmts_tree (out-No other).stmts.now)
tree_of_no other = sym (ap no_tree (roll-out-No other)) ∙ tree_of_made (out-No other)

pub tree_of_if : (at : Pos) (cond : Path) (first : Bor (List Stmt)) (other : Option No) → stmt_kind_tree at (kind.If cond first other) ≡ IfStmt at (path_tree cond) (stmts_tree first.now) (else_tree other)
tree_of_if at cond first None = ap (λ x. IfStmt at (path_tree cond) x (else_tree None)) (slice_is first)
tree_of_if at cond first (Some other) = ap (λ x. IfStmt at (path_tree cond) x (no_tree other)) (slice_is first)

-- the same of a statement or an `else` that code has matched

pub block_is : (x : Stmt) (body : Bor (List Stmt)) → x.kind ≡ kind.Block body → stmt_tree x ≡ BlockStmt x.at (stmts_tree body.now)
block_is x body h = ap (stmt_kind_tree x.at) h ∙ tree_of_block x.at body

pub with_is : (x : Stmt) (setup work : Bor (List Stmt)) → x.kind ≡ kind.With setup work → stmt_tree x ≡ WithStmt x.at (stmts_tree setup.now) (stmts_tree work.now)
with_is x setup work h = ap (stmt_kind_tree x.at) h ∙ tree_of_with x.at setup work

pub if_is : (x : Stmt) (cond : Path) (first : Bor (List Stmt)) (other : Option No) → x.kind ≡ kind.If cond first other → stmt_tree x ≡ IfStmt x.at (path_tree cond) (stmts_tree first.now) (else_tree other)
if_is x cond first other h = ap (stmt_kind_tree x.at) h ∙ tree_of_if x.at cond first other

pub else_is : (x : Option No) (other : No) → x ≡ Some other → else_tree x ≡ Else (out-No other).at (stmts_tree (out-No other).stmts.now)
else_is x other h = ap else_tree h ∙ tree_of_no other
