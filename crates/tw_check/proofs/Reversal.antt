-- The reverse of a statement: reversing twice gives it back, and running it is running the statement backwards.
use Rattle.std.proofs.Common.{◌≡◌, refl, ap, ap₂, ◌∙◌, ℕ, Bool, true, false, not, List}
use Rattle.std.specs.List.{AllByRecursion}
use Rattle.tw_resolve.proofs.Each.{each_first, each_rest, each-append}
use Rattle.tw_syntax.specs.Statements.{StmtTree, Nothing, Then, Else, LetStmt, SwapStmt, MemSwapStmt, IfStmt, WithStmt, BlockStmt, SkipStmt}
use Rattle.tw_check.specs.Names.{Names}
use Rattle.tw_check.specs.Liveness.{names_of, live_after}
use Rattle.tw_check.specs.Reverse.{reverse_of}

not-not : (b : Bool) → not (not b) ≡ b
not-not true = refl
not-not false = refl

pub reverse_of-reverse_of : (s : StmtTree) → reverse_of (reverse_of s) ≡ s
reverse_of-reverse_of Nothing = refl
reverse_of-reverse_of (Then first rest) = ap₂ Then (reverse_of-reverse_of first) (reverse_of-reverse_of rest)
reverse_of-reverse_of (Else at stmts) = ap (Else at) (reverse_of-reverse_of stmts)
reverse_of-reverse_of (LetStmt at forward target rhs) = ap (λ f. LetStmt at f target rhs) (not-not forward)
reverse_of-reverse_of (SwapStmt at left right) = refl
reverse_of-reverse_of (MemSwapStmt at pointer value) = refl
reverse_of-reverse_of (IfStmt at cond first other) = ap₂ (IfStmt at cond) (reverse_of-reverse_of first) (reverse_of-reverse_of other)
reverse_of-reverse_of (WithStmt at setup work) = ap (WithStmt at setup) (reverse_of-reverse_of work)
reverse_of-reverse_of (BlockStmt at body) = ap (BlockStmt at) (reverse_of-reverse_of body)
reverse_of-reverse_of (SkipStmt at) = refl

pub live_after-reverse_of : (forward : Bool) (s : StmtTree) (live : Names) → live_after forward (reverse_of s) live ≡ live_after (not forward) s live
live_after-reverse_of forward Nothing live = refl
live_after-reverse_of true (Then first rest) live =
    ap (live_after true (reverse_of first)) (live_after-reverse_of true rest live) ∙ live_after-reverse_of true first (live_after false rest live)
live_after-reverse_of false (Then first rest) live =
    ap (live_after false (reverse_of rest)) (live_after-reverse_of false first live) ∙ live_after-reverse_of false rest (live_after true first live)
live_after-reverse_of forward (Else at stmts) live = live_after-reverse_of forward stmts live
live_after-reverse_of true (LetStmt at true target rhs) live = refl
live_after-reverse_of true (LetStmt at false target rhs) live = refl
live_after-reverse_of false (LetStmt at true target rhs) live = refl
live_after-reverse_of false (LetStmt at false target rhs) live = refl
live_after-reverse_of forward (SwapStmt at left right) live = refl
live_after-reverse_of forward (MemSwapStmt at pointer value) live = refl
live_after-reverse_of forward (IfStmt at cond first other) live = live_after-reverse_of forward first live
live_after-reverse_of forward (WithStmt at setup work) live =
    ap (live_after false setup) (live_after-reverse_of forward work (live_after true setup live))
live_after-reverse_of forward (BlockStmt at body) live = live_after-reverse_of forward body live
live_after-reverse_of forward (SkipStmt at) live = refl

-- a statement mentions the same names as its reverse, in another order
pub names_of-reverse_of : (P : List ℕ → Type 0) (s : StmtTree) → AllByRecursion P (names_of s) → AllByRecursion P (names_of (reverse_of s))
names_of-reverse_of P Nothing each = each
names_of-reverse_of P (Then first rest) each =
    each-append P (names_of (reverse_of rest)) (names_of (reverse_of first))
    (names_of-reverse_of P rest (each_rest P (names_of first) (names_of rest) each))
    (names_of-reverse_of P first (each_first P (names_of first) (names_of rest) each))
names_of-reverse_of P (Else at stmts) each = names_of-reverse_of P stmts each
names_of-reverse_of P (LetStmt at forward target rhs) each = each
names_of-reverse_of P (SwapStmt at left right) each = each
names_of-reverse_of P (MemSwapStmt at pointer value) each = each
names_of-reverse_of P (IfStmt at cond first other) each = (
  each.0,
  each-append P (names_of (reverse_of first)) (names_of (reverse_of other))
      (names_of-reverse_of P first (each_first P (names_of first) (names_of other) each.1))
      (names_of-reverse_of P other (each_rest P (names_of first) (names_of other) each.1)),
)
names_of-reverse_of P (WithStmt at setup work) each =
    each-append P (names_of setup) (names_of (reverse_of work))
    (each_first P (names_of setup) (names_of work) each)
    (names_of-reverse_of P work (each_rest P (names_of setup) (names_of work) each))
names_of-reverse_of P (BlockStmt at body) each = names_of-reverse_of P body each
names_of-reverse_of P (SkipStmt at) each = each
