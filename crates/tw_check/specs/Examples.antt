-- Worked examples of the rules: a function, and the first rule that it breaks. Each function stands on one line, as in its comment.
use Rattle.std.specs.Prelude.{◌≡◌, ℕ, true, false, List, [], ◌∷◌, Some, None, map, codes, refl}
use Rattle.tw_text.specs.declared.refusal.Rule.TheVariants as rule
use Rattle.tw_text.specs.Refusals.{broken}
use Rattle.tw_syntax.specs.Examples.{place}
use Rattle.tw_syntax.specs.Names.{NameTree, PathTree}
use Rattle.tw_syntax.specs.Programs.{FunTree}
use Rattle.tw_syntax.specs.Statements.{StmtTree, Nothing, Then, Else, LetStmt, SwapStmt, MemSwapStmt, IfStmt, WithStmt, SkipStmt}
use Rattle.tw_syntax.specs.Terms.{AtomTree, PlaceAtom, TrueAtom, RhsTree, OneExpr, NotExpr, ExprRhs, CallRhs}
use Rattle.tw_syntax.specs.Types.{BoolType}
use Rattle.tw_resolve.specs.Demands.{first_broken}
use Rattle.tw_check.specs.Rules.{fun_rules}

-- a name at a column
abbrev named : List ℕ → ℕ → NameTree
named text col = record { text = text; at = place 1 col }

abbrev a : ℕ → NameTree
a = named (codes "a")

abbrev b : ℕ → NameTree
b = named (codes "b")

abbrev c : ℕ → NameTree
c = named (codes "c")

abbrev d : ℕ → NameTree
d = named (codes "d")

abbrev g : ℕ → NameTree
g = named (codes "g")

abbrev t : ℕ → NameTree
t = named (codes "t")

abbrev whole : NameTree → PathTree
whole name = record { root = name; steps = [] }

abbrev part : NameTree → ℕ → PathTree
part name step = record { root = name; steps = step ∷ [] }

-- right sides: `true`, a name, `not` of a name, and a call with one argument
abbrev literal : ℕ → RhsTree
literal col = ExprRhs (OneExpr (place 1 col) (TrueAtom (place 1 col)))

abbrev variable : NameTree → AtomTree
variable name = PlaceAtom name.at (whole name)

abbrev copied : NameTree → RhsTree
copied name = ExprRhs (OneExpr name.at (variable name))

abbrev negated : ℕ → NameTree → RhsTree
negated col name = ExprRhs (NotExpr (place 1 col) (variable name))

abbrev called : NameTree → NameTree → RhsTree
called callee argument = CallRhs callee None (argument ∷ [])

-- statements: each begins at a column
abbrev run : List StmtTree → StmtTree
run [] = Nothing
run (first ∷ rest) = Then first (run rest)

abbrev assign : ℕ → NameTree → RhsTree → StmtTree
assign col target rhs = LetStmt (place 1 col) true target rhs

abbrev unassign : ℕ → NameTree → RhsTree → StmtTree
unassign col target rhs = LetStmt (place 1 col) false target rhs

abbrev swap : PathTree → PathTree → StmtTree
swap left right = SwapStmt left.root.at left right

abbrev memory_swap : ℕ → PathTree → PathTree → StmtTree
memory_swap col pointer value = MemSwapStmt (place 1 col) pointer value

abbrev when : ℕ → PathTree → List StmtTree → StmtTree
when col cond first = IfStmt (place 1 col) cond (run first) Nothing

abbrev choose : ℕ → PathTree → List StmtTree → ℕ → List StmtTree → StmtTree
choose col cond first else_col other = IfStmt (place 1 col) cond (run first) (Else (place 1 else_col) (run other))

abbrev within : ℕ → List StmtTree → List StmtTree → StmtTree
within col setup work = WithStmt (place 1 col) (run setup) (run work)

abbrev skip : ℕ → StmtTree
skip col = SkipStmt (place 1 col)

-- a function; the rules read no types, so each is `bool` here
abbrev function : List NameTree → List StmtTree → ℕ → NameTree → FunTree
function params body return_col returned = record {
  name = named (codes "f") 5;
  bound = None;
  params = map (λ param. record { name = param; ty = BoolType param.at }) params;
  result = BoolType returned.at;
  body = run body;
  return_at = place 1 return_col;
  returned = returned;
}

-- `fun f(a: bool, b: bool) -> bool { with { let t <- not a; } do { if t { let c <- g(b); } else { let c <- b; } } return c; }`
abbrev pub undoable : FunTree
undoable = function (a 7 ∷ b 16 ∷ []) (within 35 (assign 42 (t 46) (negated 51 (a 55)) ∷ []) (choose 65 (whole (t 68)) (assign 72 (c 76) (called (g 81) (b 83)) ∷ []) 89 (assign 96 (c 100) (copied (b 105)) ∷ []) ∷ []) ∷ []) 112 (c 119)

pub undoable-accepted : first_broken (fun_rules undoable) ≡ None
undoable-accepted = refl

-- `fun f(a: bool, b: bool) -> bool { if a { let c <- b; } return c; }`
abbrev without_else : FunTree
without_else = function (a 7 ∷ b 16 ∷ []) (when 35 (whole (a 38)) (assign 42 (c 46) (copied (b 51)) ∷ []) ∷ []) 56 (c 63)

-- an `if` without `else` ends with the live names of its branch
pub without_else-accepted : first_broken (fun_rules without_else) ≡ None
without_else-accepted = refl

-- `fun f(a: bool) -> bool { let t <- a; let t -> a; let c <- t; return c; }`
abbrev used_dead : FunTree
used_dead = function (a 7 ∷ []) (assign 26 (t 30) (copied (a 35)) ∷ unassign 38 (t 42) (copied (a 47)) ∷ assign 50 (c 54) (copied (t 59)) ∷ []) 62 (c 69)

pub used_dead-refused : first_broken (fun_rules used_dead) ≡ Some (broken rule.NotDeclared (place 1 59))
used_dead-refused = refl

-- `fun f(a: bool) -> bool { let c <- a; let c -> a; return c; }`
abbrev returned_dead : FunTree
returned_dead = function (a 7 ∷ []) (assign 26 (c 30) (copied (a 35)) ∷ unassign 38 (c 42) (copied (a 47)) ∷ []) 50 (c 57)

-- the result is not live
pub returned_dead-refused : first_broken (fun_rules returned_dead) ≡ Some (broken rule.NotDeclared (place 1 57))
returned_dead-refused = refl

-- `fun f(a: bool, b: bool) -> bool { let a <- b; return a; }`
abbrev declared_again : FunTree
declared_again = function (a 7 ∷ b 16 ∷ []) (assign 35 (a 39) (copied (b 44)) ∷ []) 47 (a 54)

pub declared_again-refused : first_broken (fun_rules declared_again) ≡ Some (broken rule.Redeclared (place 1 39))
declared_again-refused = refl

-- `fun f(a: bool) -> bool { let a <- a; return a; }`
abbrev target_on_right : FunTree
target_on_right = function (a 7 ∷ []) (assign 26 (a 30) (copied (a 35)) ∷ []) 38 (a 45)

-- `a` is used in its own `let` too, but the target is tried first
pub target_on_right-refused : first_broken (fun_rules target_on_right) ≡ Some (broken rule.Redeclared (place 1 30))
target_on_right-refused = refl

-- `fun f(a: bool, b: bool, d: bool) -> bool { let c <- d; if a { if b { if d { a <-> c; } } } return c; }`
abbrev condition_written : FunTree
condition_written = function (a 7 ∷ b 16 ∷ d 25 ∷ []) (assign 44 (c 48) (copied (d 53)) ∷ when 56 (whole (a 59)) (when 63 (whole (b 66)) (when 70 (whole (d 73)) (swap (whole (a 77)) (whole (c 83)) ∷ []) ∷ []) ∷ []) ∷ []) 92 (c 99)

-- `a` is the condition of an `if` two levels further out
pub condition_written-refused : first_broken (fun_rules condition_written) ≡ Some (broken rule.ConditionWritten (place 1 77))
condition_written-refused = refl

-- `fun f(a: bool, b: bool) -> bool { let c <- a; if c { c <-> b; } return c; }`
abbrev condition_swapped : FunTree
condition_swapped = function (a 7 ∷ b 16 ∷ []) (assign 35 (c 39) (copied (a 44)) ∷ when 47 (whole (c 50)) (swap (whole (c 54)) (whole (b 60)) ∷ []) ∷ []) 65 (c 72)

pub condition_swapped-refused : first_broken (fun_rules condition_swapped) ≡ Some (broken rule.ConditionWritten (place 1 54))
condition_swapped-refused = refl

-- `fun f(a: (bool, ptr<bool>)) -> bool { let c <- true; if a.1 { *a.2 <-> c; } return c; }`
abbrev pointer_held : FunTree
pointer_held = function (a 7 ∷ []) (assign 39 (c 43) (literal 48) ∷ when 54 (part (a 57) 1) (memory_swap 63 (part (a 64) 2) (whole (c 72)) ∷ []) ∷ []) 77 (c 84)

-- a memory swap reads its pointer and writes its value
pub pointer_held-accepted : first_broken (fun_rules pointer_held) ≡ None
pointer_held-accepted = refl

-- `fun f(a: bool, b: ptr<bool>) -> bool { let c <- true; if a { *b <-> a; } return c; }`
abbrev value_held : FunTree
value_held = function (a 7 ∷ b 16 ∷ []) (assign 40 (c 44) (literal 49) ∷ when 55 (whole (a 58)) (memory_swap 62 (whole (b 63)) (whole (a 69)) ∷ []) ∷ []) 74 (c 81)

pub value_held-refused : first_broken (fun_rules value_held) ≡ Some (broken rule.ConditionWritten (place 1 69))
value_held-refused = refl

-- `fun f(a: bool) -> bool { let t <- a; let t -> a; let t <- t; return t; }`
abbrev uses_itself : FunTree
uses_itself = function (a 7 ∷ []) (assign 26 (t 30) (copied (a 35)) ∷ unassign 38 (t 42) (copied (a 47)) ∷ assign 50 (t 54) (copied (t 59)) ∷ []) 62 (t 69)

-- `t` is not live either, but a use of the target is tried first
pub uses_itself-refused : first_broken (fun_rules uses_itself) ≡ Some (broken rule.SelfUse (place 1 59))
uses_itself-refused = refl

-- `fun f(a: (bool, bool)) -> bool { let c <- true; a <-> a.1; return c; }`
abbrev overlapping : FunTree
overlapping = function (a 7 ∷ []) (assign 34 (c 38) (literal 43) ∷ swap (whole (a 49)) (part (a 55) 1) ∷ []) 60 (c 67)

pub overlapping-refused : first_broken (fun_rules overlapping) ≡ Some (broken rule.Overlap (place 1 55))
overlapping-refused = refl

-- `fun f(a: (bool, bool)) -> bool { let c <- true; a.1 <-> a.2; return c; }`
abbrev apart : FunTree
apart = function (a 7 ∷ []) (assign 34 (c 38) (literal 43) ∷ swap (part (a 49) 1) (part (a 57) 2) ∷ []) 62 (c 69)

-- two parts of one value do not overlap
pub apart-accepted : first_broken (fun_rules apart) ≡ None
apart-accepted = refl

-- `fun f(a: bool, b: bool) -> bool { if a { let c <- b; } else { skip; } return c; }`
abbrev branches_differ : FunTree
branches_differ = function (a 7 ∷ b 16 ∷ []) (choose 35 (whole (a 38)) (assign 42 (c 46) (copied (b 51)) ∷ []) 56 (skip 63 ∷ []) ∷ []) 71 (c 78)

pub branches_differ-refused : first_broken (fun_rules branches_differ) ≡ Some (broken rule.BranchesDiffer (place 1 56))
branches_differ-refused = refl

-- `fun f(a: bool, b: bool) -> bool { with { let t <- a; } do { let t -> a; let c <- b; } return c; }`
abbrev not_undone : FunTree
not_undone = function (a 7 ∷ b 16 ∷ []) (within 35 (assign 42 (t 46) (copied (a 51)) ∷ []) (unassign 61 (t 65) (copied (a 70)) ∷ assign 73 (c 77) (copied (b 82)) ∷ []) ∷ []) 87 (c 94)

pub not_undone-refused : first_broken (fun_rules not_undone) ≡ Some (broken rule.WithNotUndone (place 1 35))
not_undone-refused = refl

-- `fun f(a: bool) -> bool { let t <- a; let c <- a; return c; }`
abbrev pub temporary_left : FunTree
temporary_left = function (a 7 ∷ []) (assign 26 (t 30) (copied (a 35)) ∷ assign 38 (c 42) (copied (a 47)) ∷ []) 50 (c 57)

pub temporary_left-refused : first_broken (fun_rules temporary_left) ≡ Some (broken rule.Left (place 1 50))
temporary_left-refused = refl
