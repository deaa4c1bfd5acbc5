-- Statements with their numbers, one after another.
use Rattle.std.proofs.Common.{◌≡◌, ◌∙◌, ◌+◌, ◌<◌, ap, ap₂, arith, sym, subst, refl, ℕ, zero, suc, List, [], ◌∷◌, ◌++◌, get_or, length, map, take, Some, slice_get}
use Rattle.std.proofs.Math.Seq.{take-suc}
use Rattle.std.proofs.lemmas.List.{map_push}
use Rattle.std.proofs.lemmas.Option.{none-some}
use Rattle.tw_syntax.specs.declared.statement.Stmt.{Stmt}
use Rattle.tw_syntax.specs.Statements.{StmtTree, Nothing, Then, stmt_tree, stmts_tree}
use Rattle.tw_resolve.proofs.Each.{each_first, each_rest}
use Rattle.tw_check.specs.Liveness.{names_of}
use Rattle.tw_state.specs.States.{Name}
use Rattle.tw_state.proofs.Basics.{some_value}
use Rattle.tw_interp.specs.declared.numbered.Step.{Step}
use Rattle.tw_interp.specs.Numbered.{AreKnown, IsKnown}
use Rattle.tw_interp.specs.NumberedTrees.{step_tree, steps_tree}

-- statements in order
abbrev chain : List StmtTree → StmtTree
chain [] = Nothing
chain (x ∷ xs) = Then x (chain xs)

chain_of_steps : (steps : List Step) → steps_tree steps ≡ chain (map step_tree steps)
chain_of_steps [] = refl
chain_of_steps (x ∷ xs) = ap (Then (step_tree x)) (chain_of_steps xs)

chain_of_stmts : (stmts : List Stmt) → stmts_tree stmts ≡ chain (map stmt_tree stmts)
chain_of_stmts [] = refl
chain_of_stmts (x ∷ xs) = ap (Then (stmt_tree x)) (chain_of_stmts xs)

pub trees_are : (steps : List Step) (stmts : List Stmt) → map step_tree steps ≡ map stmt_tree stmts → steps_tree steps ≡ stmts_tree stmts
trees_are steps stmts same = chain_of_steps steps ∙ ap chain same ∙ sym (chain_of_stmts stmts)

-- the names in one of some statements are known if all are
pub known_at : (names : List Name) (stmts : List Stmt) (i : ℕ) (x : Stmt) → slice_get stmts i ≡ Some x → AreKnown names (stmts_tree stmts) → AreKnown names (stmt_tree x)
known_at names [] i x is known = absurd (none-some x is)
known_at names (y ∷ ys) zero x is known =
    subst (λ z. AreKnown names (stmt_tree z)) (some_value is) (each_first (IsKnown names) (names_of (stmt_tree y)) (names_of (stmts_tree ys)) known)
known_at names (y ∷ ys) (suc i) x is known = known_at names ys i x is (each_rest (IsKnown names) (names_of (stmt_tree y)) (names_of (stmts_tree ys)) known)

-- one more statement
pub one_more : (steps more : List Step) (step : Step) (stmts : List Stmt) (i : ℕ) (d : Stmt) → more ≡ steps ++ step ∷ [] → map step_tree steps ≡ map stmt_tree (take i stmts) → i < length stmts
    → step_tree step ≡ stmt_tree (get_or stmts i d) → map step_tree more ≡ map stmt_tree (take (i + 1) stmts)
one_more steps more step stmts i d pushed so_far inside same =
    let next : i + 1 ≡ suc i = omega arith in
    ap (λ (xs : List Step). map step_tree xs) pushed
    ∙ map_push step_tree steps step
    ∙ ap₂ (λ (xs : List StmtTree) (x : StmtTree). xs ++ x ∷ []) so_far same
    ∙ sym (map_push stmt_tree (take i stmts) (get_or stmts i d))
    ∙ ap (λ (xs : List Stmt). map stmt_tree xs) (sym (ap (λ (n : ℕ). take n stmts) next ∙ take-suc stmts i d inside))
