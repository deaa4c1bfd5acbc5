-- The trees of programs: what follows the first branch of an `if` is an `else`, or nothing.
use Rattle.std.proofs.Common.{◌≡◌, subst, ℕ, zero, suc, List, [], ◌∷◌, map, slice_get, Some}
use Rattle.std.proofs.lemmas.Option.{none-some}
use Rattle.tw_text.specs.declared.place.Pos.{Pos}
use Rattle.tw_syntax.specs.declared.program.Decl.{Decl}
use Rattle.tw_syntax.specs.declared.program.Decl.TheVariants as decl
use Rattle.tw_syntax.specs.declared.statement.No.{No'}
use Rattle.tw_syntax.specs.declared.statement.Stmt.{Stmt}
use Rattle.tw_syntax.specs.declared.statement.StmtKind.{StmtKind, Row_of-Stmt, end_of-Stmt, more_of-Stmt}
use Rattle.tw_syntax.specs.declared.statement.StmtKind as kind
use Rattle.tw_syntax.specs.Programs.{FunTree, decl_tree}
use Rattle.tw_syntax.specs.Statements.{StmtTree, Nothing, Then, Else, LetStmt, SwapStmt, MemSwapStmt, IfStmt, WithStmt, BlockStmt, SkipStmt, stmt_kind_tree, row_tree, stmts_tree}
use Rattle.tw_resolve.specs.Declarations.{funs_of}
use Rattle.tw_state.proofs.Basics.{some_value}

pub data Shape : StmtTree → Type 0 where
  ShapeNothing : Shape Nothing
  ShapeThen : {first rest : StmtTree} → Shape first → Shape rest → Shape (Then first rest)
  ShapeLet : {at forward target rhs : _} → Shape (LetStmt at forward target rhs)
  ShapeSwap : {at left right : _} → Shape (SwapStmt at left right)
  ShapeMemSwap : {at pointer value : _} → Shape (MemSwapStmt at pointer value)
  ShapeIf : {at cond : _} {first : StmtTree} → Shape first → Shape (IfStmt at cond first Nothing)
  ShapeIfElse : {at cond else_at : _} {first other : StmtTree} → Shape first → Shape other → Shape (IfStmt at cond first (Else else_at other))
  ShapeWith : {at : _} {setup work : StmtTree} → Shape setup → Shape work → Shape (WithStmt at setup work)
  ShapeBlock : {at : _} {body : StmtTree} → Shape body → Shape (BlockStmt at body)
  ShapeSkip : {at : _} → Shape (SkipStmt at)

mutual
  kind_shape : (at : Pos) (k : StmtKind) → Shape (stmt_kind_tree at k)
  kind_shape at (kind.Let forward target rhs) = ShapeLet
  kind_shape at (kind.Swap left right) = ShapeSwap
  kind_shape at (kind.MemSwap pointer value) = ShapeMemSwap
  kind_shape at (kind.If' cond p shape row kind.None') = ShapeIf (row_shape row)
  kind_shape at (kind.If' cond p shape row (kind.Some' (No' else_at q other_shape other))) = ShapeIfElse (row_shape row) (row_shape other)
  kind_shape at (kind.With' p shape row q shape2 row2) = ShapeWith (row_shape row) (row_shape row2)
  kind_shape at (kind.Block' p shape row) = ShapeBlock (row_shape row)
  kind_shape at kind.Skip = ShapeSkip

  row_shape : {n : _} (row : Row_of-Stmt n) → Shape (row_tree row)
  row_shape end_of-Stmt = ShapeNothing
  row_shape (more_of-Stmt at k rest) = ShapeThen (kind_shape at k) (row_shape rest)

stmts_shape : (stmts : List Stmt) → Shape (stmts_tree stmts)
stmts_shape [] = ShapeNothing
stmts_shape (x ∷ xs) = ShapeThen (kind_shape x.at x.kind) (stmts_shape xs)

-- the bodies of the functions of a program
pub bodies_shape : (decls : List Decl) (k : ℕ) (fun : FunTree) → slice_get (funs_of (map decl_tree decls)) k ≡ Some fun → Shape fun.body
bodies_shape [] k fun found = absurd (none-some fun found)
bodies_shape (decl.Alias x ∷ decls) k fun found = bodies_shape decls k fun found
bodies_shape (decl.Fun x ∷ decls) zero fun found = subst (λ (f : FunTree). Shape f.body) (some_value found) (stmts_shape x.body.now)
bodies_shape (decl.Fun x ∷ decls) (suc k) fun found = bodies_shape decls k fun found
