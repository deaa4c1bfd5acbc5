-- The big-step semantics of statements.
use Rattle.std.specs.Prelude.{◌≡◌, ℕ, true, false, Some, None}
use Rattle.tw_syntax.specs.Names.{NameTree}
use Rattle.tw_syntax.specs.Programs.{FunTree}
use Rattle.tw_syntax.specs.Statements.{StmtTree, Nothing, Then, Else, LetStmt, SwapStmt, MemSwapStmt, IfStmt, WithStmt, BlockStmt, SkipStmt}
use Rattle.tw_syntax.specs.Terms.{ExprRhs, CallRhs, AllocRhs}
use Rattle.tw_types.specs.Values.{Value, Truth, Address}
use Rattle.tw_resolve.specs.Expressions.{fun_named}
use Rattle.tw_resolve.specs.Setting.{Setting}
use Rattle.tw_check.specs.Reverse.{reverse_of}
use Rattle.tw_state.specs.States.{State}
use Rattle.tw_state.specs.Parts.{value_at}
use Rattle.tw_state.specs.Evaluation.{zero_of, expr_value}
use Rattle.tw_state.specs.Steps.{Activation, activation_of, Adds, Swaps, SwapsMemory, Takes, Pads, callee_bound, links, seen_by, KeepsOthers}

-- the statement, in this function of the program, takes the old state to the new one
pub data Runs (setting : Setting) : Activation → StmtTree → State → State → Type 0 where
  -- no statements, and `skip;`: nothing changes
  RunsNothing : {act : _} {state : State} → Runs setting act Nothing state state
  RunsSkip : {act at : _} {state : State} → Runs setting act (SkipStmt at) state state
  -- a statement and then the rest, and the statements of a block
  RunsThen : {act first rest : _} {old between new : State}
      → Runs setting act first old between → Runs setting act rest between new → Runs setting act (Then first rest) old new
  RunsBlock : {act at body : _} {old new : State} → Runs setting act body old new → Runs setting act (BlockStmt at body) old new
  -- `let x <- e;` adds x with the value of e, and `let x -> e;` removes x, which has the value of e
  RunsLet : {target : NameTree} {act at expr : _} {old new : State} (value : Value)
      → expr_value setting old.store expr ≡ Some value → Adds target.text value old new
      → Runs setting act (LetStmt at true target (ExprRhs expr)) old new
  RunsUnlet : {target : NameTree} {act at expr : _} {old new : State} (value : Value)
      → expr_value setting new.store expr ≡ Some value → Adds target.text value new old
      → Runs setting act (LetStmt at false target (ExprRhs expr)) old new
  -- `p <-> q;` exchanges the values at two paths
  RunsSwap : {act at left right : _} {old new : State} → Swaps left right old new → Runs setting act (SwapStmt at left right) old new
  -- `*p <-> q;` does nothing if p is null, and else exchanges the value of p's block with the value at q
  RunsMemSwapNull : {act at pointer place : _} {state : State}
      → value_at state.store pointer ≡ Some (Address 0) → Runs setting act (MemSwapStmt at pointer place) state state
  RunsMemSwap : {act : Activation} {at pointer place : _} {old new : State}
      → SwapsMemory act.types pointer place old new → Runs setting act (MemSwapStmt at pointer place) old new
  -- `if p S` and `if p S else R`: S if p is true; if p is false, R, or the padding of the names of S. Afterwards p is what it was
  RunsIf : {act at cond first other : _} {old new : State}
      → value_at old.store cond ≡ Some (Truth true) → Runs setting act first old new → value_at new.store cond ≡ Some (Truth true)
      → Runs setting act (IfStmt at cond first other) old new
  RunsIfElse : {act at else_at cond first other : _} {old new : State}
      → value_at old.store cond ≡ Some (Truth false) → Runs setting act other old new → value_at new.store cond ≡ Some (Truth false)
      → Runs setting act (IfStmt at cond first (Else else_at other)) old new
  RunsIfNot : {act : Activation} {at cond first : _} {old new : State}
      → value_at old.store cond ≡ Some (Truth false) → Pads act.types first old new → value_at new.store cond ≡ Some (Truth false)
      → Runs setting act (IfStmt at cond first Nothing) old new
  -- `with S do R`: S, then R, then the reverse of S
  RunsWith : {act at setup work : _} {old ready done new : State}
      → Runs setting act setup old ready → Runs setting act work ready done → Runs setting act (reverse_of setup) done new
      → Runs setting act (WithStmt at setup work) old new
  -- `let x <- f[b](y, z);` runs the body of f on what f sees of the caller: y and z as its parameters, and in the end x as its result
  RunsCall : {target callee : NameTree} {act : Activation} {at bound args : _} {old new : State} (fun : FunTree) (n : ℕ)
      → fun_named setting callee.text ≡ Some fun → callee_bound act.bound bound ≡ Some n
      → old.store target.text ≡ None
      → Runs setting (activation_of setting fun n) fun.body (seen_by (links fun target args) old) (seen_by (links fun target args) new)
      → KeepsOthers (links fun target args) old.store new.store
      → Runs setting act (LetStmt at true target (CallRhs callee bound args)) old new
  -- `let x -> f[b](y, z);` runs the reverse of that body, which begins with x as the result
  RunsUncall : {target callee : NameTree} {act : Activation} {at bound args : _} {old new : State} (fun : FunTree) (n : ℕ)
      → fun_named setting callee.text ≡ Some fun → callee_bound act.bound bound ≡ Some n
      → new.store target.text ≡ None
      → Runs setting (activation_of setting fun n) (reverse_of fun.body) (seen_by (links fun target args) old) (seen_by (links fun target args) new)
      → KeepsOthers (links fun target args) old.store new.store
      → Runs setting act (LetStmt at false target (CallRhs callee bound args)) old new
  -- with the bound 0 the result is the zero of its type, and no body runs
  RunsCallZero : {target callee : NameTree} {act : Activation} {at bound args : _} {old new : State} (fun : FunTree) (result : Value)
      → fun_named setting callee.text ≡ Some fun → callee_bound act.bound bound ≡ None
      → zero_of setting fun.result ≡ Some result → Adds target.text result old new
      → Runs setting act (LetStmt at true target (CallRhs callee bound args)) old new
  RunsUncallZero : {target callee : NameTree} {act : Activation} {at bound args : _} {old new : State} (fun : FunTree) (result : Value)
      → fun_named setting callee.text ≡ Some fun → callee_bound act.bound bound ≡ None
      → zero_of setting fun.result ≡ Some result → Adds target.text result new old
      → Runs setting act (LetStmt at false target (CallRhs callee bound args)) old new
  -- `let x <- alloc<T>;` takes the first free block, and x is its address; x is null if no block is free
  RunsAlloc : {target : NameTree} {act at to : _} {old taken new : State} (block : ℕ)
      → Takes setting to block old taken → Adds target.text (Address block) taken new
      → Runs setting act (LetStmt at true target (AllocRhs to)) old new
  RunsAllocNone : {target : NameTree} {act at to : _} {old new : State}
      → old.head ≡ 0 → Adds target.text (Address 0) old new
      → Runs setting act (LetStmt at true target (AllocRhs to)) old new
  -- `let x -> alloc<T>;` frees the block of x, whose value is the zero of T; x is null only if no block is free
  RunsFree : {target : NameTree} {act at to : _} {old taken new : State} (block : ℕ)
      → Adds target.text (Address block) taken old → Takes setting to block new taken
      → Runs setting act (LetStmt at false target (AllocRhs to)) old new
  RunsFreeNone : {target : NameTree} {act at to : _} {old new : State}
      → new.head ≡ 0 → Adds target.text (Address 0) new old
      → Runs setting act (LetStmt at false target (AllocRhs to)) old new
