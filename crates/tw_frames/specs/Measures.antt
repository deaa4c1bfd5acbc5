-- How much statements run: their number, and how deep blocks, bodies and `if`s are nested across calls.
use Rattle.std.specs.Prelude.{◌≡◌, ℕ, ◌+◌, max, List, [], ◌∷◌, slice_get, Option, Some, None}
use Rattle.tw_text.specs.declared.refusal.Counted.{Counted}
use Rattle.tw_text.specs.declared.refusal.Counted.TheVariants as counted
use Rattle.tw_text.specs.declared.refusal.Rule.TheVariants as rule
use Rattle.tw_text.specs.Limits.{limit_of}
use Rattle.tw_text.specs.Places.{first_place}
use Rattle.tw_syntax.specs.Names.{NameTree}
use Rattle.tw_syntax.specs.Programs.{FunTree}
use Rattle.tw_syntax.specs.Statements.{StmtTree, Nothing, Then, Else, LetStmt, SwapStmt, MemSwapStmt, IfStmt, WithStmt, BlockStmt, SkipStmt}
use Rattle.tw_syntax.specs.Terms.{ExprRhs, CallRhs, AllocRhs}
use Rattle.tw_resolve.specs.Demands.{Demand, demand_within}
use Rattle.tw_resolve.specs.Expressions.{fun_named}
use Rattle.tw_resolve.specs.Setting.{Setting, reported}
use Rattle.tw_check.specs.declared.entry.Entry.{Entry}
use Rattle.tw_state.specs.Steps.{running_bound, callee_bound}
use Rattle.tw_frames.specs.declared.measured.Measured.{Measured}

-- nothing runs
abbrev pub no_steps : Measured
no_steps = record { statements = 0; depth = 0; if_depth = 0 }

-- one part runs, and then another
abbrev pub in_turn : Measured → Measured → Measured
in_turn first rest = record {
  statements = first.statements + rest.statements;
  depth = max first.depth rest.depth;
  if_depth = max first.if_depth rest.if_depth;
}

-- a block, or the body of a function, is one deeper than what it encloses; two blocks are as deep as one block of both
abbrev pub enclosed : Measured → Measured
enclosed inner = record inner { depth = 1 + inner.depth }

-- an `if` is one deeper than its branches
abbrev pub under_if : Measured → Measured
under_if branches = record branches { if_depth = 1 + branches.if_depth }

-- a statement is one more than its parts
abbrev pub one_more : Measured → Measured
one_more parts = record parts { statements = 1 + parts.statements }

-- how much a statement runs, in a function whose bound has this number
pub data Measures (setting : Setting) : ℕ → StmtTree → Measured → Type 0 where
  -- no statements, and a statement and then the rest
  MeasuresNothing : {own : ℕ} → Measures setting own Nothing no_steps
  MeasuresThen : {own first rest : _} {a b : Measured}
      → Measures setting own first a → Measures setting own rest b → Measures setting own (Then first rest) (in_turn a b)
  -- single statements
  MeasuresExpr : {own at forward target expr : _} → Measures setting own (LetStmt at forward target (ExprRhs expr)) (one_more no_steps)
  MeasuresAlloc : {own at forward target to : _} → Measures setting own (LetStmt at forward target (AllocRhs to)) (one_more no_steps)
  MeasuresSwap : {own at left right : _} → Measures setting own (SwapStmt at left right) (one_more no_steps)
  MeasuresMemSwap : {own at pointer place : _} → Measures setting own (MemSwapStmt at pointer place) (one_more no_steps)
  MeasuresSkip : {own at : _} → Measures setting own (SkipStmt at) (one_more no_steps)
  -- a block
  MeasuresBlock : {own at body : _} {a : Measured} → Measures setting own body a → Measures setting own (BlockStmt at body) (one_more (enclosed a))
  -- an `if`: both branches count, and each is a block
  MeasuresElse : {own at stmts : _} {a : Measured} → Measures setting own stmts a → Measures setting own (Else at stmts) a
  MeasuresIf : {own at cond first other : _} {a b : Measured}
      → Measures setting own first a → Measures setting own other b
      → Measures setting own (IfStmt at cond first other) (one_more (under_if (enclosed (in_turn a b))))
  -- `with S do R`: S, then R, then the reverse of S, which runs as much as S; each is a block
  MeasuresWith : {own at setup work : _} {a b : Measured}
      → Measures setting own setup a → Measures setting own work b
      → Measures setting own (WithStmt at setup work) (one_more (enclosed (in_turn (in_turn a b) a)))
  -- a call and an un-call run the body of the callee; with the bound 0 no body runs
  MeasuresCall : {callee : NameTree} {own : ℕ} {at forward target bound args : _} {a : Measured} (fun : FunTree) (n : ℕ)
      → fun_named setting callee.text ≡ Some fun → callee_bound own bound ≡ Some n → Measures setting n fun.body a
      → Measures setting own (LetStmt at forward target (CallRhs callee bound args)) (one_more (enclosed a))
  MeasuresCallZero : {callee : NameTree} {own : ℕ} {at forward target bound args : _}
      → callee_bound own bound ≡ None → Measures setting own (LetStmt at forward target (CallRhs callee bound args)) (one_more no_steps)

-- how much a function runs with this bound; with the bound 0 no body runs
pub data MeasuresEntry (setting : Setting) (fun : FunTree) (bound : Option ℕ) : Measured → Type 0 where
  MeasuresBody : {a : Measured} (n : ℕ)
      → running_bound bound ≡ Some n → Measures setting n fun.body a → MeasuresEntry setting fun bound (enclosed a)
  MeasuresNoBody : running_bound bound ≡ None → MeasuresEntry setting fun bound no_steps

-- the counts that are reported: a greater one than a `u64` holds is the greatest `u64`
abbrev pub capped : Measured → Measured
capped measured = record { statements = reported measured.statements; depth = reported measured.depth; if_depth = reported measured.if_depth }

-- how much an entry of the program runs
pub record IsMeasured (setting : Setting) (entry : Entry) (measured : Measured) : Type 0 where
  pub fun : FunTree
  pub at : slice_get setting.funs entry.fun ≡ Some fun
  pub measures : MeasuresEntry setting fun entry.bound measured

-- an entry has one measure
pub record HasOneMeasure (setting : Setting) (entry : Entry) : Type 0 where
  pub measured : Measured
  pub is : IsMeasured setting entry measured
  pub only : (other : Measured) → IsMeasured setting entry other → measured ≡ other

-- a count is within its limit
abbrev pub within_limit : Counted → ℕ → Demand
within_limit what found = demand_within (rule.Limit what) first_place (reported found) (limit_of what)

-- the demands on the measure of an entry: its statements are within their limit, and then its depth
abbrev pub limit_rules : Measured → List Demand
limit_rules measured = within_limit counted.Statements measured.statements ∷ within_limit counted.Depth measured.depth ∷ []
