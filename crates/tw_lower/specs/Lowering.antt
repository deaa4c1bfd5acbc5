-- The code of statements on the wires of a frame.
use Rattle.std.specs.Prelude.{◌≡◌, ◌≤◌, ℕ, suc, ◌+◌, List, [], ◌∷◌, Option, Some, None, IfSome}
use Rattle.std.specs.List.{AllByRecursion}
use Rattle.tw_text.specs.declared.limits.TheConstants.{WIRES_LIMIT}
use Rattle.tw_syntax.specs.declared.term.OpKind.TheVariants as op
use Rattle.tw_syntax.specs.Names.{NameTree}
use Rattle.tw_syntax.specs.Programs.{FunTree}
use Rattle.tw_syntax.specs.Statements.{StmtTree, Nothing, Then, Else, LetStmt, SwapStmt, MemSwapStmt, IfStmt, WithStmt, BlockStmt, SkipStmt}
use Rattle.tw_syntax.specs.Terms.{ExprTree, OneExpr, TwoExpr, OpExpr, RhsTree, ExprRhs}
use Rattle.tw_gate.specs.declared.gate.Level.{Level}
use Rattle.tw_code.specs.declared.code.Options.{Options}
use Rattle.tw_code.specs.Trees.{CodeTree, FlipCode, IfCode, WithCode, ConjCode, sequence}
use Rattle.tw_code.specs.Trees as code
use Rattle.tw_resolve.specs.Setting.{Setting}
use Rattle.tw_check.specs.declared.entry.Entry.{Entry}
use Rattle.tw_state.specs.Steps.{running_bound}
use Rattle.tw_frames.specs.declared.regions.WireLayout.{WireLayout}
use Rattle.tw_frames.specs.Frames.{Frame, if_count, if_wire}
use Rattle.tw_frames.specs.Layout.{IsLaidOut, entry_frame}
use Rattle.tw_frames.specs.Regions.{AreInOrder, AreFrames}
use Rattle.tw_lower.specs.Operands.{path_wire, IsExprCode, expr_regions, AreUsable}

-- the condition is copied to the wire of the `if`, which controls the branch, and back
abbrev pub if_tree : (cond own : ℕ) → CodeTree → CodeTree
if_tree cond own taken = ConjCode (FlipCode (cond ∷ []) own) (sequence (IfCode own taken ∷ []))

-- with an `else`: while that branch is under control, the wire of the `if` is flipped
abbrev pub if_else_tree : (cond own : ℕ) → CodeTree → CodeTree → CodeTree
if_else_tree cond own taken skipped = ConjCode (FlipCode (cond ∷ []) own) (sequence (IfCode own taken ∷ ConjCode (FlipCode [] own) (IfCode own skipped) ∷ []))

-- the code of a statement in a frame of a function whose bound has this number; the next `if` has this number
pub data Lowers (setting : Setting) (layout : WireLayout) : Frame → ℕ → ℕ → StmtTree → CodeTree → Type 0 where
  -- no statements, and a statement and then the rest
  LowersNothing : {frame own number : _} → Lowers setting layout frame own number Nothing code.Nothing
  LowersThen : {frame own number first rest : _} {a b : CodeTree}
      → Lowers setting layout frame own number first a → Lowers setting layout frame own (number + if_count first) rest b
      → Lowers setting layout frame own number (Then first rest) (code.Then a b)
  -- the value of an expression is XORed into the wires of the target, which adds the target or removes it
  LowersLet : {frame : Frame} {target : NameTree} {own number at forward expr : _} {c : CodeTree}
      → IsExprCode setting frame layout.scratch (frame.wire target.text) expr c
      → Lowers setting layout frame own number (LetStmt at forward target (ExprRhs expr)) c
  -- an `if`
  LowersIf : {frame own number at cond first : _} {taken : CodeTree}
      → Lowers setting layout frame own (suc number) first taken
      → Lowers setting layout frame own number (IfStmt at cond first Nothing) (if_tree (path_wire setting frame cond) (if_wire frame number) taken)
  LowersIfElse : {frame own number at else_at cond first other : _} {taken skipped : CodeTree}
      → Lowers setting layout frame own (suc number) first taken → Lowers setting layout frame own (suc number + if_count first) other skipped
      → Lowers setting layout frame own number (IfStmt at cond first (Else else_at other)) (if_else_tree (path_wire setting frame cond) (if_wire frame number) taken skipped)
  -- `with S do R`: S, R, and S undone
  LowersWith : {frame own number at setup work : _} {a b : CodeTree}
      → Lowers setting layout frame own number setup a → Lowers setting layout frame own (number + if_count setup) work b
      → Lowers setting layout frame own number (WithStmt at setup work) (WithCode a b)
  -- a block, and `skip;`, which has no code
  LowersBlock : {frame own number at body : _} {c : CodeTree} → Lowers setting layout frame own number body c → Lowers setting layout frame own number (BlockStmt at body) c
  LowersSkip : {frame own number at : _} → Lowers setting layout frame own number (SkipStmt at) code.Nothing

-- the code of a function with this bound as the entry; none with the bound 0
pub data LowersEntry (setting : Setting) (layout : WireLayout) (fun : FunTree) (bound : Option ℕ) : CodeTree → Type 0 where
  LowersBody : {c : CodeTree} (n : ℕ)
      → running_bound bound ≡ Some n → Lowers setting layout (entry_frame setting fun layout) n 0 fun.body c → LowersEntry setting layout fun bound c
  LowersNoBody : running_bound bound ≡ None → LowersEntry setting layout fun bound code.Nothing

-- expressions that are compiled: atoms, pairs and `&&`
abbrev pub IsBuiltExpr : ExprTree → Type 0
IsBuiltExpr (OneExpr at x) = Unit {0}
IsBuiltExpr (TwoExpr at x y) = Unit {0}
IsBuiltExpr (OpExpr at op.And x y) = Unit {0}
IsBuiltExpr other = ⊥

abbrev pub IsBuiltRhs : RhsTree → Type 0
IsBuiltRhs (ExprRhs expr) = IsBuiltExpr expr
IsBuiltRhs other = ⊥

-- statements that are compiled: `let` with these expressions, `if`, `with`, blocks and `skip`
abbrev pub IsBuilt : StmtTree → Type 0
IsBuilt Nothing = Unit {0}
IsBuilt (Then first rest) = IsBuilt first × IsBuilt rest
IsBuilt (Else at stmts) = IsBuilt stmts
IsBuilt (LetStmt at forward target rhs) = IsBuiltRhs rhs
IsBuilt (SwapStmt at left right) = ⊥
IsBuilt (MemSwapStmt at pointer value) = ⊥
IsBuilt (IfStmt at cond first other) = IsBuilt first × IsBuilt other
IsBuilt (WithStmt at setup work) = IsBuilt setup × IsBuilt work
IsBuilt (BlockStmt at body) = IsBuilt body
IsBuilt (SkipStmt at) = Unit {0}

-- a function that declares no bound and whose statements are compiled
pub record IsBuiltFun (fun : FunTree) : Type 0 where
  pub no_bound : fun.bound ≡ None
  pub body : IsBuilt fun.body

-- all functions of a program are compiled
abbrev pub IsBuiltProgram : List FunTree → Type 0
IsBuiltProgram funs = AllByRecursion IsBuiltFun funs

-- the right side can be lowered with its result from this wire on
abbrev pub CanLowerRhs : Setting → WireLayout → Frame → ℕ → RhsTree → Type 0
CanLowerRhs setting layout frame out (ExprRhs expr) = IfSome (expr_regions setting frame layout.scratch out expr) AreUsable × IsBuiltExpr expr
CanLowerRhs setting layout frame out other = ⊥

-- the statement can be lowered in the frame: the regions of each expression are usable
abbrev pub CanLower : Setting → WireLayout → Frame → StmtTree → Type 0
CanLower setting layout frame Nothing = Unit {0}
CanLower setting layout frame (Then first rest) = CanLower setting layout frame first × CanLower setting layout frame rest
CanLower setting layout frame (Else at stmts) = CanLower setting layout frame stmts
CanLower setting layout frame (LetStmt at forward target rhs) = CanLowerRhs setting layout frame (frame.wire target.text) rhs
CanLower setting layout frame (SwapStmt at left right) = ⊥
CanLower setting layout frame (MemSwapStmt at pointer value) = ⊥
CanLower setting layout frame (IfStmt at cond first other) = CanLower setting layout frame first × CanLower setting layout frame other
CanLower setting layout frame (WithStmt at setup work) = CanLower setting layout frame setup × CanLower setting layout frame work
CanLower setting layout frame (BlockStmt at body) = CanLower setting layout frame body
CanLower setting layout frame (SkipStmt at) = Unit {0}

-- an answer of `layout` for the entry, with any options, level and most controls
pub record IsLayout (setting : Setting) (entry : Entry) (layout : WireLayout) : Type 0 where
  pub options : Options
  pub level : Level
  pub most_controls : ℕ
  pub laid_out : IsLaidOut setting entry options level most_controls layout
  pub within : layout.wires ≤ WIRES_LIMIT
  pub regions : AreInOrder setting.widths layout
  pub frames : AreFrames setting entry layout
