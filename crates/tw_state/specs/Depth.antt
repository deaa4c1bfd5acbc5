-- How deeply statements nest while they run, calls included.
use Rattle.std.specs.Prelude.{◌≡◌, ℕ, suc, slice_get, Option, Some, None}
use Rattle.tw_syntax.specs.Examples.{place}
use Rattle.tw_syntax.specs.Names.{NameTree}
use Rattle.tw_syntax.specs.Programs.{FunTree}
use Rattle.tw_syntax.specs.Statements.{StmtTree, Nothing, Then, Else, LetStmt, SwapStmt, MemSwapStmt, IfStmt, WithStmt, BlockStmt, SkipStmt}
use Rattle.tw_syntax.specs.Terms.{ExprRhs, CallRhs, AllocRhs}
use Rattle.tw_resolve.specs.Expressions.{fun_named}
use Rattle.tw_resolve.specs.Setting.{Setting}
use Rattle.tw_state.specs.Steps.{callee_bound, running_bound}

-- the depth of a statement is at most this number, in a function whose bound has this number. A block, and the body of a function, is
-- one deeper than its deepest statement; `if` and `with` are as deep as their deepest block, and a call is as deep as the body that it
-- runs; all other statements have depth 0
pub data IsWithin (setting : Setting) : ℕ → ℕ → StmtTree → Type 0 where
  WithinNothing : {depth own : ℕ} → IsWithin setting depth own Nothing
  WithinThen : {depth own : ℕ} {first rest : StmtTree} → IsWithin setting depth own first → IsWithin setting depth own rest → IsWithin setting depth own (Then first rest)
  WithinElse : {depth own : ℕ} {at : _} {stmts : StmtTree} → IsWithin setting depth own stmts → IsWithin setting depth own (Else at stmts)
  WithinExpr : {depth own : ℕ} {at forward target expr : _} → IsWithin setting depth own (LetStmt at forward target (ExprRhs expr))
  WithinAlloc : {depth own : ℕ} {at forward target to : _} → IsWithin setting depth own (LetStmt at forward target (AllocRhs to))
  WithinCall : {depth own : ℕ} {callee : NameTree} {at forward target bound args : _} (fun : FunTree) (n : ℕ)
      → fun_named setting callee.text ≡ Some fun → callee_bound own bound ≡ Some n → IsWithin setting depth n fun.body
      → IsWithin setting (suc depth) own (LetStmt at forward target (CallRhs callee bound args))
  WithinCallZero : {depth own : ℕ} {callee : NameTree} {at forward target bound args : _}
      → callee_bound own bound ≡ None → IsWithin setting depth own (LetStmt at forward target (CallRhs callee bound args))
  WithinSwap : {depth own : ℕ} {at left right : _} → IsWithin setting depth own (SwapStmt at left right)
  WithinMemSwap : {depth own : ℕ} {at pointer value : _} → IsWithin setting depth own (MemSwapStmt at pointer value)
  WithinIf : {depth own : ℕ} {at cond first other : _} → IsWithin setting depth own first → IsWithin setting depth own other
      → IsWithin setting (suc depth) own (IfStmt at cond first other)
  WithinWith : {depth own : ℕ} {at setup work : _} → IsWithin setting depth own setup → IsWithin setting depth own work
      → IsWithin setting (suc depth) own (WithStmt at setup work)
  WithinBlock : {depth own : ℕ} {at body : _} → IsWithin setting depth own body → IsWithin setting (suc depth) own (BlockStmt at body)
  WithinSkip : {depth own : ℕ} {at : _} → IsWithin setting depth own (SkipStmt at)

-- the depth of an entry with this bound is at most this number: its body is a block
pub data EntryIsWithin (setting : Setting) (depth : ℕ) (fun : FunTree) (bound : Option ℕ) : Type 0 where
  WithinBody : (inner n : ℕ) → depth ≡ suc inner → running_bound bound ≡ Some n → IsWithin setting inner n fun.body → EntryIsWithin setting depth fun bound
  WithinNoBody : running_bound bound ≡ None → EntryIsWithin setting depth fun bound

-- the same, for the function of this number
abbrev pub EntryWithin : Setting → ℕ → ℕ → Option ℕ → Type 0
EntryWithin setting depth number bound = (fun : FunTree) × (slice_get setting.funs number ≡ Some fun) × EntryIsWithin setting depth fun bound

-- `{ skip; }` has depth 1, and no less
abbrev block_of_skip : StmtTree
block_of_skip = BlockStmt (place 1 1) (Then (SkipStmt (place 1 3)) Nothing)

pub within_1 : (setting : Setting) → IsWithin setting 1 0 block_of_skip
within_1 setting = WithinBlock (WithinThen WithinSkip WithinNothing)

pub not_within_0 : (setting : Setting) → IsWithin setting 0 0 block_of_skip → ⊥
not_within_0 setting within = elim within [ ]
