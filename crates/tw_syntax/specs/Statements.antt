-- Statements without pointers.
use Rattle.std.specs.Prelude.{◌≡◌, Bool, List, [], ◌∷◌, Option, Some, None, refl}
use Rattle.tw_text.specs.declared.place.Pos.{Pos}
use Rattle.tw_syntax.specs.declared.statement.Stmt.{Stmt}
use Rattle.tw_syntax.specs.declared.statement.No.{No, No'}
use Rattle.tw_syntax.specs.declared.statement.StmtKind.{StmtKind, Row_of-Stmt, end_of-Stmt, more_of-Stmt}
use Rattle.tw_syntax.specs.declared.statement.StmtKind as kind
use Rattle.tw_syntax.specs.Examples.{place}
use Rattle.tw_syntax.specs.Names.{NameTree, PathTree, name_tree, path_tree}
use Rattle.tw_syntax.specs.Terms.{RhsTree, rhs_tree}

-- a statement and its place, a list of statements (empty, or one and then the rest), or an `else`
pub data StmtTree : Type 0 where
  Nothing : StmtTree
  Then : (first rest : StmtTree) → StmtTree
  Else : (at : Pos) (stmts : StmtTree) → StmtTree
  LetStmt : (at : Pos) (forward : Bool) (target : NameTree) (rhs : RhsTree) → StmtTree
  SwapStmt : (at : Pos) (left right : PathTree) → StmtTree
  MemSwapStmt : (at : Pos) (pointer value : PathTree) → StmtTree
  IfStmt : (at : Pos) (cond : PathTree) (first other : StmtTree) → StmtTree
  WithStmt : (at : Pos) (setup work : StmtTree) → StmtTree
  BlockStmt : (at : Pos) (body : StmtTree) → StmtTree
  SkipStmt : (at : Pos) → StmtTree
  deriving IsSet as StmtTree-set

abbrev mutual
  -- the tree of a form of statements at a place
  pub stmt_kind_tree : Pos → StmtKind → StmtTree
  stmt_kind_tree at (kind.Let forward target rhs) = LetStmt at forward (name_tree target) (rhs_tree rhs)
  stmt_kind_tree at (kind.Swap left right) = SwapStmt at (path_tree left) (path_tree right)
  stmt_kind_tree at (kind.MemSwap pointer value) = MemSwapStmt at (path_tree pointer) (path_tree value)
  stmt_kind_tree at (kind.If' cond p shape row other) = IfStmt at (path_tree cond) (row_tree row) (held_tree other)
  stmt_kind_tree at (kind.With' p shape row q shape2 row2) = WithStmt at (row_tree row) (row_tree row2)
  stmt_kind_tree at (kind.Block' p shape row) = BlockStmt at (row_tree row)
  stmt_kind_tree at kind.Skip = SkipStmt at

  -- the tree of the statements of a slice in a statement
  pub row_tree : {n : _} → Row_of-Stmt n → StmtTree
  row_tree end_of-Stmt = Nothing
  row_tree (more_of-Stmt at kind rest) = Then (stmt_kind_tree at kind) (row_tree rest)

  -- the tree of an `else` in a statement
  pub held_tree : kind.Held-StmtKind-If-2 → StmtTree
  held_tree kind.None' = Nothing
  held_tree (kind.Some' n) = no_tree n

  -- the tree of an `else`
  pub no_tree : No → StmtTree
  no_tree (No' at p shape row) = Else at (row_tree row)

-- the tree of a statement
abbrev pub stmt_tree : Stmt → StmtTree
stmt_tree x = stmt_kind_tree x.at x.kind

-- the tree of statements
abbrev pub stmts_tree : List Stmt → StmtTree
stmts_tree [] = Nothing
stmts_tree (x ∷ xs) = Then (stmt_tree x) (stmts_tree xs)

-- the tree of an `else`; empty if there is none
abbrev pub else_tree : Option No → StmtTree
else_tree None = Nothing
else_tree (Some other) = no_tree other

pub stmts_tree-two : stmts_tree (record { at = place 1 1; kind = kind.Skip } ∷ record { at = place 2 1; kind = kind.Skip } ∷ [])
    ≡ Then (SkipStmt (place 1 1)) (Then (SkipStmt (place 2 1)) Nothing)
stmts_tree-two = refl

pub else_tree-none : else_tree None ≡ Nothing
else_tree-none = refl
