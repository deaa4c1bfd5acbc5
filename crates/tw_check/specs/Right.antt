-- Reversible statements and functions: which statements are right, from which live names, and with which they end.
use Rattle.std.specs.Prelude.{◌≡◌, ℕ, Bool, true, false, ◌&&◌, ◌||◌, ◌==◌, List, [], ◌∷◌}
use Rattle.std.specs.List.{AllByRecursion}
use Rattle.std.specs.Str.{bytes_eq}
use Rattle.tw_text.specs.declared.place.Pos.{Pos}
use Rattle.tw_syntax.specs.Names.{NameTree, PathTree}
use Rattle.tw_syntax.specs.Programs.{FunTree}
use Rattle.tw_syntax.specs.Statements.{StmtTree, Nothing, Then, Else, LetStmt, SwapStmt, MemSwapStmt, IfStmt, WithStmt, BlockStmt, SkipStmt}
use Rattle.tw_syntax.specs.Terms.{RhsTree, CallRhs}
use Rattle.tw_check.specs.Names.{Names, no_names, with_name}
use Rattle.tw_check.specs.Reverse.{reverse_of}
use Rattle.tw_check.specs.Liveness.{rhs_names, live_at_start, live_at_end}

-- whether one list of steps is a prefix of the other
abbrev pub is_prefix : List ℕ → List ℕ → Bool
is_prefix [] steps = true
is_prefix (step ∷ steps) [] = false
is_prefix (x ∷ xs) (y ∷ ys) = (x == y) && is_prefix xs ys

-- whether one of two paths leads to a part of the other: `x.1` overlaps `x` and `x.1.2`, but not `x.2`
abbrev pub overlap : PathTree → PathTree → Bool
overlap left right = bytes_eq left.root.text right.root.text && (is_prefix left.steps right.steps || is_prefix right.steps left.steps)

-- a call writes its arguments; an expression only reads
abbrev pub writes : RhsTree → Bool
writes (CallRhs callee bound args) = true
writes other = false

-- a variable of a right side: not the target, live, and not held if the right side writes it
pub record IsOperand (held bare : Names) (target : NameTree) (written : Bool) (name : NameTree) : Type 0 where
  pub other : bytes_eq target.text name.text ≡ false
  pub live : bare name.text ≡ true
  pub free : (written && held name.text) ≡ false

-- the target joins the live names, or leaves them; `bare` are the live names without it
pub record Assigns (held : Names) (target : NameTree) (rhs : RhsTree) (bare full : Names) : Type 0 where
  pub dead : bare target.text ≡ false
  pub free : held target.text ≡ false
  pub operands : AllByRecursion (IsOperand held bare target (writes rhs)) (rhs_names rhs)
  pub after : full ≡ with_name bare target.text true

-- under these held names, which are the roots of the conditions around it, the statement is right from the first live names, and
-- ends with the second
pub data Right : Names → StmtTree → Names → Names → Type 0 where
  RightNothing : {held live : Names} → Right held Nothing live live
  RightThen : {held : Names} {first rest : StmtTree} {before after : Names} (middle : Names)
      → Right held first before middle → Right held rest middle after → Right held (Then first rest) before after
  RightLet : {held : Names} {at : Pos} {target : NameTree} {rhs : RhsTree} {before after : Names}
      → Assigns held target rhs before after → Right held (LetStmt at true target rhs) before after
  RightUnlet : {held : Names} {at : Pos} {target : NameTree} {rhs : RhsTree} {before after : Names}
      → Assigns held target rhs after before → Right held (LetStmt at false target rhs) before after
  RightSwap : {held live : Names} {at : Pos} {left right : PathTree}
      → live left.root.text ≡ true → held left.root.text ≡ false
      → live right.root.text ≡ true → held right.root.text ≡ false
      → overlap left right ≡ false → Right held (SwapStmt at left right) live live
  RightMemSwap : {held live : Names} {at : Pos} {pointer value : PathTree}
      → live pointer.root.text ≡ true → live value.root.text ≡ true → held value.root.text ≡ false
      → overlap pointer value ≡ false → Right held (MemSwapStmt at pointer value) live live
  RightIf : {held : Names} {at : Pos} {cond : PathTree} {first : StmtTree} {before after : Names}
      → before cond.root.text ≡ true
      → Right (with_name held cond.root.text true) first before after
      → Right held (IfStmt at cond first Nothing) before after
  RightIfElse : {held : Names} {at else_at : Pos} {cond : PathTree} {first other : StmtTree} {before after : Names}
      → before cond.root.text ≡ true
      → Right (with_name held cond.root.text true) first before after
      → Right (with_name held cond.root.text true) other before after
      → Right held (IfStmt at cond first (Else else_at other)) before after
  RightWith : {held : Names} {at : Pos} {setup work : StmtTree} {before after : Names} (ready done : Names)
      → Right held setup before ready → Right held work ready done → Right held (reverse_of setup) done after
      → Right held (WithStmt at setup work) before after
  RightBlock : {held : Names} {at : Pos} {body : StmtTree} {before after : Names}
      → Right held body before after → Right held (BlockStmt at body) before after
  RightSkip : {held live : Names} {at : Pos} → Right held (SkipStmt at) live live

-- a function is right if its body leads from its parameters to its parameters and its result
abbrev pub IsRight : FunTree → Type 0
IsRight fun = Right no_names fun.body (live_at_start fun) (live_at_end fun)
