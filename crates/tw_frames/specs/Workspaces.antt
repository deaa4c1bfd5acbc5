-- The wires that functions share while they run: the frames of the longest chain of calls, and the scratch.
use Rattle.std.specs.Prelude.{◌≡◌, ℕ, ◌+◌, max, Option, Some, None}
use Rattle.tw_syntax.specs.Names.{NameTree}
use Rattle.tw_syntax.specs.Programs.{FunTree}
use Rattle.tw_syntax.specs.Statements.{StmtTree, Nothing, Then, Else, LetStmt, SwapStmt, MemSwapStmt, IfStmt, WithStmt, BlockStmt, SkipStmt}
use Rattle.tw_syntax.specs.Terms.{ExprRhs, CallRhs, AllocRhs}
use Rattle.tw_resolve.specs.Expressions.{fun_named}
use Rattle.tw_resolve.specs.Setting.{Setting, reported}
use Rattle.tw_state.specs.Steps.{running_bound, callee_bound}
use Rattle.tw_frames.specs.declared.workspace.Workspace.{Workspace}
use Rattle.tw_frames.specs.Frames.{frame_size}
use Rattle.tw_frames.specs.Scratch.{fun_scratch}

-- no function is entered
abbrev pub no_workspace : Workspace
no_workspace = record { frames = 0; scratch = 0 }

-- two parts, one after the other, use the same wires
abbrev pub shared : Workspace → Workspace → Workspace
shared first rest = record { frames = max first.frames rest.frames; scratch = max first.scratch rest.scratch }

-- a function that is entered has its frame before those of its callees, and the same scratch
abbrev pub entered : Setting → FunTree → Workspace → Workspace
entered setting fun callees = record { frames = frame_size setting fun + callees.frames; scratch = max (fun_scratch setting fun) callees.scratch }

-- what the calls in a statement need, in a function whose bound has this number
pub data Needs (setting : Setting) : ℕ → StmtTree → Workspace → Type 0 where
  -- no statements, and a statement and then the rest
  NeedsNothing : {own : ℕ} → Needs setting own Nothing no_workspace
  NeedsThen : {own first rest : _} {a b : Workspace} → Needs setting own first a → Needs setting own rest b → Needs setting own (Then first rest) (shared a b)
  -- statements without calls
  NeedsExpr : {own at forward target expr : _} → Needs setting own (LetStmt at forward target (ExprRhs expr)) no_workspace
  NeedsAlloc : {own at forward target to : _} → Needs setting own (LetStmt at forward target (AllocRhs to)) no_workspace
  NeedsSwap : {own at left right : _} → Needs setting own (SwapStmt at left right) no_workspace
  NeedsMemSwap : {own at pointer place : _} → Needs setting own (MemSwapStmt at pointer place) no_workspace
  NeedsSkip : {own at : _} → Needs setting own (SkipStmt at) no_workspace
  -- statements of parts
  NeedsBlock : {own at body : _} {a : Workspace} → Needs setting own body a → Needs setting own (BlockStmt at body) a
  NeedsElse : {own at stmts : _} {a : Workspace} → Needs setting own stmts a → Needs setting own (Else at stmts) a
  NeedsIf : {own at cond first other : _} {a b : Workspace} → Needs setting own first a → Needs setting own other b → Needs setting own (IfStmt at cond first other) (shared a b)
  NeedsWith : {own at setup work : _} {a b : Workspace} → Needs setting own setup a → Needs setting own work b → Needs setting own (WithStmt at setup work) (shared a b)
  -- a call and an un-call enter the callee; with the bound 0 no function is entered
  NeedsCall : {callee : NameTree} {own : ℕ} {at forward target bound args : _} {a : Workspace} (fun : FunTree) (n : ℕ)
      → fun_named setting callee.text ≡ Some fun → callee_bound own bound ≡ Some n → Needs setting n fun.body a
      → Needs setting own (LetStmt at forward target (CallRhs callee bound args)) (entered setting fun a)
  NeedsCallZero : {callee : NameTree} {own : ℕ} {at forward target bound args : _}
      → callee_bound own bound ≡ None → Needs setting own (LetStmt at forward target (CallRhs callee bound args)) no_workspace

-- what a function needs as the entry, with this bound; with the bound 0 it is not entered
pub data NeedsEntry (setting : Setting) (fun : FunTree) (bound : Option ℕ) : Workspace → Type 0 where
  NeedsBody : {a : Workspace} (n : ℕ) → running_bound bound ≡ Some n → Needs setting n fun.body a → NeedsEntry setting fun bound (entered setting fun a)
  NeedsNoBody : running_bound bound ≡ None → NeedsEntry setting fun bound no_workspace

-- the counts that are reported: a greater one than a `u64` holds is the greatest `u64`
abbrev pub capped_workspace : Workspace → Workspace
capped_workspace needed = record { frames = reported needed.frames; scratch = reported needed.scratch }
