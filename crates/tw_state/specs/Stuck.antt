-- Statements without a result: the first one in running order to which no rule of the semantics applies, and the reason.
use Rattle.std.specs.Prelude.{◌≡◌, ◌≢◌, ℕ, true, false, Some, None}
use Rattle.tw_text.specs.declared.place.Pos.{Pos}
use Rattle.tw_syntax.specs.Names.{NameTree}
use Rattle.tw_syntax.specs.Programs.{FunTree}
use Rattle.tw_syntax.specs.Statements.{StmtTree, Nothing, Then, Else, LetStmt, MemSwapStmt, IfStmt, WithStmt, BlockStmt}
use Rattle.tw_syntax.specs.Terms.{ExprRhs, CallRhs, AllocRhs}
use Rattle.tw_types.specs.Types.{Pointer, Ty}
use Rattle.tw_types.specs.Values.{Value, Truth, Address, zero_value}
use Rattle.tw_resolve.specs.Declarations.{target_number}
use Rattle.tw_resolve.specs.Expressions.{fun_named, type_at_path, Types}
use Rattle.tw_resolve.specs.Setting.{Setting}
use Rattle.tw_check.specs.Liveness.{live_after}
use Rattle.tw_check.specs.Reverse.{reverse_of}
use Rattle.tw_state.specs.States.{Name, Live, State, cell_at}
use Rattle.tw_state.specs.Parts.{value_at}
use Rattle.tw_state.specs.Evaluation.{zero_of, zero_of_target, expr_value}
use Rattle.tw_state.specs.Steps.{Activation, activation_of, live_names, Adds, callee_bound, links, seen_by}
use Rattle.tw_state.specs.Semantics.{Runs}

-- why a statement is stuck: an un-assigned name has another value, or the null of a free block was freed; a pointer leads to no live block
-- of its target; a freed block is not zero; a name that a branch un-assigns is not zero where the branch is not taken
pub data Reason : Type 0 where
  Unmet : Reason
  Wild : Reason
  Dirty : Reason
  Pad : Reason
  deriving IsSet as Reason-set

-- the block is no live block of this target
abbrev pub IsNotLive : State → ℕ → ℕ → Type 0
IsNotLive state block target = (value : Value) → cell_at state.cells block ≢ Some (Live target value)

-- a name that statements un-assign does not have the zero of its type
pub record LacksPad (types : Types) (stmts : StmtTree) (old : State) : Type 0 where
  pub name : Name
  pub value : Value
  pub ty : Ty
  pub is : old.store name ≡ Some value
  pub removed : live_after true stmts (live_names old.store) name ≡ false
  pub typed : types name ≡ Some ty
  pub not_zero : value ≢ zero_value ty

-- from this state the statement is stuck for this reason at this place, which is that of the first stuck statement in running order
pub data Sticks (setting : Setting) : Activation → StmtTree → State → Reason → Pos → Type 0 where
  -- a sequence: its first part is stuck, or the first part runs and the rest is stuck; a block: its statements are stuck
  StuckFirst : {act first rest : _} {old : State} {reason : Reason} {place : Pos}
      → Sticks setting act first old reason place → Sticks setting act (Then first rest) old reason place
  StuckRest : {act first rest : _} {old between : State} {reason : Reason} {place : Pos}
      → Runs setting act first old between → Sticks setting act rest between reason place
      → Sticks setting act (Then first rest) old reason place
  StuckBlock : {act at body : _} {old : State} {reason : Reason} {place : Pos}
      → Sticks setting act body old reason place → Sticks setting act (BlockStmt at body) old reason place
  -- `let x -> e;`: x has another value than e has without x
  StuckUnlet : {target : NameTree} {act at expr : _} {old bare : State} (held value : Value)
      → Adds target.text held bare old → expr_value setting bare.store expr ≡ Some value → held ≢ value
      → Sticks setting act (LetStmt at false target (ExprRhs expr)) old Unmet at
  -- `*p <-> q;`: p is not null, and does not lead to a live block of its target
  StuckMemSwap : {act : Activation} {at pointer value : _} {old : State} (block target : ℕ)
      → value_at old.store pointer ≡ Some (Address block) → block ≢ 0
      → type_at_path act.types pointer ≡ Some (Pointer target) → IsNotLive old block target
      → Sticks setting act (MemSwapStmt at pointer value) old Wild at
  -- `if p S` and `if p S else R`: the branch that is taken is stuck; or none is, and a name that S un-assigns is not zero
  StuckIf : {act at cond first other : _} {old : State} {reason : Reason} {place : Pos}
      → value_at old.store cond ≡ Some (Truth true) → Sticks setting act first old reason place
      → Sticks setting act (IfStmt at cond first other) old reason place
  StuckIfElse : {act at else_at cond first other : _} {old : State} {reason : Reason} {place : Pos}
      → value_at old.store cond ≡ Some (Truth false) → Sticks setting act other old reason place
      → Sticks setting act (IfStmt at cond first (Else else_at other)) old reason place
  StuckPad : {act : Activation} {at cond first : _} {old : State}
      → value_at old.store cond ≡ Some (Truth false) → LacksPad act.types first old
      → Sticks setting act (IfStmt at cond first Nothing) old Pad at
  -- `with S do R`: S, or R after it, or the reverse of S after both
  StuckSetup : {act at setup work : _} {old : State} {reason : Reason} {place : Pos}
      → Sticks setting act setup old reason place → Sticks setting act (WithStmt at setup work) old reason place
  StuckWork : {act at setup work : _} {old ready : State} {reason : Reason} {place : Pos}
      → Runs setting act setup old ready → Sticks setting act work ready reason place
      → Sticks setting act (WithStmt at setup work) old reason place
  StuckUndo : {act at setup work : _} {old ready done : State} {reason : Reason} {place : Pos}
      → Runs setting act setup old ready → Runs setting act work ready done → Sticks setting act (reverse_of setup) done reason place
      → Sticks setting act (WithStmt at setup work) old reason place
  -- a call: the body of the callee, or its reverse, is stuck
  StuckCall : {target callee : NameTree} {act : Activation} {at bound args : _} {old : State} {reason : Reason} {place : Pos} (fun : FunTree) (n : ℕ)
      → fun_named setting callee.text ≡ Some fun → callee_bound act.bound bound ≡ Some n
      → Sticks setting (activation_of setting fun n) fun.body (seen_by (links fun target args) old) reason place
      → Sticks setting act (LetStmt at true target (CallRhs callee bound args)) old reason place
  StuckUncall : {target callee : NameTree} {act : Activation} {at bound args : _} {old : State} {reason : Reason} {place : Pos} (fun : FunTree) (n : ℕ)
      → fun_named setting callee.text ≡ Some fun → callee_bound act.bound bound ≡ Some n
      → Sticks setting (activation_of setting fun n) (reverse_of fun.body) (seen_by (links fun target args) old) reason place
      → Sticks setting act (LetStmt at false target (CallRhs callee bound args)) old reason place
  -- `let x -> f[b](y, z);` with the bound 0: x is not zero
  StuckUncallZero : {target callee : NameTree} {act : Activation} {at bound args : _} {old bare : State} (fun : FunTree) (held result : Value)
      → fun_named setting callee.text ≡ Some fun → callee_bound act.bound bound ≡ None
      → Adds target.text held bare old → zero_of setting fun.result ≡ Some result → held ≢ result
      → Sticks setting act (LetStmt at false target (CallRhs callee bound args)) old Unmet at
  -- `let x -> alloc<T>;`: x is null although a block is free; or x is not null and no live block of T; or the value of that block is not zero
  StuckFreeNull : {target : NameTree} {act at to : _} {old bare : State}
      → Adds target.text (Address 0) bare old → bare.head ≢ 0
      → Sticks setting act (LetStmt at false target (AllocRhs to)) old Unmet at
  StuckFreeWild : {target : NameTree} {act at to : _} {old bare : State} (block number : ℕ)
      → Adds target.text (Address block) bare old → block ≢ 0
      → target_number setting.scope.targets to ≡ Some number → IsNotLive bare block number
      → Sticks setting act (LetStmt at false target (AllocRhs to)) old Wild at
  StuckFreeDirty : {target : NameTree} {act at to : _} {old bare : State} (block number : ℕ) (value cleared : Value)
      → Adds target.text (Address block) bare old
      → target_number setting.scope.targets to ≡ Some number → cell_at bare.cells block ≡ Some (Live number value)
      → zero_of_target setting number ≡ Some cleared → value ≢ cleared
      → Sticks setting act (LetStmt at false target (AllocRhs to)) old Dirty at
