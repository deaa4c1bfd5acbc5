-- Worked examples of inventories and of their sums. Each program stands on one line, as in its comment.
use Rattle.std.specs.Prelude.{◌≡◌, ℕ, true, false, List, [], ◌∷◌, ◌++◌, Some, None, codes, refl}
use Rattle.tw_syntax.specs.declared.term.OpKind.TheVariants as op
use Rattle.tw_syntax.specs.Examples.{place}
use Rattle.tw_syntax.specs.Programs.{FunTree}
use Rattle.tw_syntax.specs.Statements.{StmtTree, Nothing, Else, LetStmt, IfStmt, WithStmt}
use Rattle.tw_syntax.specs.Terms.{NumberAtom, LessBound, ExprRhs, CallRhs, OpExpr}
use Rattle.tw_syntax.specs.Types.{UintType}
use Rattle.tw_gate.specs.declared.gate.Level.TheVariants as levels
use Rattle.tw_code.specs.declared.code.Options.{Options}
use Rattle.tw_code.specs.Rows.{Row, row, twice, most_controls}
use Rattle.tw_resolve.specs.Setting.{Setting}
use Rattle.tw_state.specs.Derivations.{named, path, variable, copied, assign}
use Rattle.tw_state.specs.Examples.{one_bit}
use Rattle.tw_state.specs.Steps.{activation_of}
use Rattle.tw_frames.specs.Inventory.{Inventory, InventoryNothing, InventoryThen, InventoryExpr, InventorySwap, InventoryIf, InventoryIfElse, InventoryWith, InventoryCall, InventoryCallZero, InventoryOf, InventoryBody, InventoryNoBody, t_total, line_total}
use Rattle.tw_frames.specs.LayoutExamples.{plain_program, truth_type, fun_of, all_options, unflattened, conjoin, under_if, if_program, nested_ifs, nested_program}
use Rattle.tw_frames.specs.MeasureExamples.{only}

-- all rewritings but narrowing, and none
abbrev pub unnarrowed : Options
unnarrowed = record { flatten = true; narrow = false }

abbrev pub no_options : Options
no_options = record { flatten = false; narrow = false }

-- the gates of `let t <- x && y;` under controls: the flip of the target has this number of controls
abbrev conjunction : ℕ → List Row
conjunction controls = row 1 1 ∷ row 1 1 ∷ row 1 1 ∷ row 1 1 ∷ row 1 controls ∷ []

-- `fun main(a: bool, b: bool, d: bool) -> bool { if a { let c <- b && d; } return c; }`
abbrev under_if_rows : List Row
under_if_rows = row 2 1 ∷ conjunction 3

pub inventory_under_if : InventoryOf if_program all_options under_if None under_if_rows
inventory_under_if = InventoryBody 0 refl (InventoryThen (InventoryIf (InventoryThen InventoryExpr InventoryNothing)) InventoryNothing)

-- 7, 9 and 51 lines at the levels, and a T-count of 21; the greatest gate has three controls
pub sums_under_if : (line_total levels.Mcx under_if_rows ≡ 7) × (line_total levels.Tof under_if_rows ≡ 9) × (line_total levels.T under_if_rows ≡ 51) × (t_total under_if_rows ≡ 21) × (most_controls under_if_rows ≡ 3)
sums_under_if = (refl, refl, refl, refl, refl)

-- `fun main(a: bool, b: bool, d: bool, e: bool) -> (bool, bool) { if b { if a { let c <- d && e; let g <- e && d; } }
-- let r <- default<(bool, bool)>; r.1 <-> c; r.2 <-> g; let c -> false; let g -> false; return r; }`: after the `if`, three loads of
-- zeros and two exchanges of a bit
abbrev after_ifs : List Row
after_ifs = row 0 0 ∷ row 2 1 ∷ row 1 1 ∷ row 2 1 ∷ row 1 1 ∷ row 0 0 ∷ row 0 0 ∷ []

-- without flattening, the conjunctions have two controls more; with it, one more, and the inner `if` collects its controls
abbrev nested_rows : List Row
nested_rows = row 2 1 ∷ row 2 1 ∷ conjunction 4 ++ conjunction 4 ++ after_ifs

abbrev flat_rows : List Row
flat_rows = row 2 1 ∷ row 2 1 ∷ row 2 2 ∷ conjunction 3 ++ conjunction 3 ++ after_ifs

pub inventory_of_nested_ifs : InventoryOf nested_program unflattened nested_ifs None nested_rows
inventory_of_nested_ifs =
    InventoryBody 0 refl
    (InventoryThen (InventoryIf (InventoryThen (InventoryIf (InventoryThen InventoryExpr (InventoryThen InventoryExpr InventoryNothing))) InventoryNothing))
    (InventoryThen InventoryExpr (InventoryThen InventorySwap (InventoryThen InventorySwap (InventoryThen InventoryExpr (InventoryThen InventoryExpr InventoryNothing))))))

pub inventory_of_flat_ifs : InventoryOf nested_program all_options nested_ifs None flat_rows
inventory_of_flat_ifs =
    InventoryBody 0 refl
    (InventoryThen (InventoryIf (InventoryThen (InventoryIf (InventoryThen InventoryExpr (InventoryThen InventoryExpr InventoryNothing))) InventoryNothing))
    (InventoryThen InventoryExpr (InventoryThen InventorySwap (InventoryThen InventorySwap (InventoryThen InventoryExpr (InventoryThen InventoryExpr InventoryNothing))))))

pub sums_of_nested_ifs : (line_total levels.Mcx nested_rows ≡ 20) × (t_total nested_rows ≡ 70)
sums_of_nested_ifs = (refl, refl)

pub sums_of_flat_ifs : (line_total levels.Mcx flat_rows ≡ 22) × (t_total flat_rows ≡ 56)
sums_of_flat_ifs = (refl, refl)

-- `fun main(a: bool, b: bool, c: bool, e: bool) -> bool { if a { with { let t <- b && c; } do { let d <- t && e; } } return d; }`
abbrev setup_in_if : FunTree
setup_in_if = fun_of (codes "main") (codes "a" ∷ codes "b" ∷ codes "c" ∷ codes "e" ∷ []) truth_type
    (only (IfStmt (place 1 56) (path (codes "a") 59)
    (only (WithStmt (place 1 63) (only (conjoin (codes "t") (codes "b") (codes "c"))) (only (conjoin (codes "d") (codes "t") (codes "e"))))) Nothing)) (codes "d")

abbrev setup_program : Setting
setup_program = plain_program one_bit (setup_in_if ∷ [])

-- with narrowing the setup has no control
abbrev setup_rows : ℕ → List Row
setup_rows controls = row 2 1 ∷ twice (conjunction controls) ++ conjunction 3

pub inventory_unnarrowed : InventoryOf setup_program unnarrowed setup_in_if None (setup_rows 3)
inventory_unnarrowed =
    InventoryBody 0 refl (InventoryThen (InventoryIf (InventoryThen (InventoryWith (InventoryThen InventoryExpr InventoryNothing) (InventoryThen InventoryExpr InventoryNothing)) InventoryNothing)) InventoryNothing)

pub inventory_narrowed : InventoryOf setup_program all_options setup_in_if None (setup_rows 2)
inventory_narrowed =
    InventoryBody 0 refl (InventoryThen (InventoryIf (InventoryThen (InventoryWith (InventoryThen InventoryExpr InventoryNothing) (InventoryThen InventoryExpr InventoryNothing)) InventoryNothing)) InventoryNothing)

pub sums_unnarrowed : (line_total levels.Mcx (setup_rows 3) ≡ 17) × (t_total (setup_rows 3) ≡ 63)
sums_unnarrowed = (refl, refl)

pub sums_narrowed : (line_total levels.Mcx (setup_rows 2) ≡ 17) × (t_total (setup_rows 2) ≡ 35)
sums_narrowed = (refl, refl)

-- `fun main(c: bool, x: bool) -> bool { if c { let y <- x; } else { let y <- c; } return y; }`
abbrev choice : FunTree
choice = fun_of (codes "main") (codes "c" ∷ codes "x" ∷ []) truth_type
    (only (IfStmt (place 1 38) (path (codes "c") 41) (only (assign 45 (codes "y") (copied (codes "x") 54))) (Else (place 1 59) (only (assign 66 (codes "y") (copied (codes "c") 75)))))) (codes "y")

abbrev choice_rows : List Row
choice_rows = row 2 1 ∷ row 2 0 ∷ row 1 2 ∷ row 1 2 ∷ []

pub inventory_of_choice : InventoryOf (plain_program one_bit (choice ∷ [])) all_options choice None choice_rows
inventory_of_choice = InventoryBody 0 refl (InventoryThen (InventoryIfElse (InventoryThen InventoryExpr InventoryNothing) (InventoryThen InventoryExpr InventoryNothing)) InventoryNothing)

pub sums_of_choice : (line_total levels.Mcx choice_rows ≡ 6) × (t_total choice_rows ≡ 14)
sums_of_choice = (refl, refl)

-- in words of two bits: `fun f[n](x: uint) -> uint { with { let y <- x + 1; } do { let r <- f[n - 1](y); } return r; }`
abbrev add_one : StmtTree
add_one = only (assign 36 (codes "y") (ExprRhs (OpExpr (place 1 45) op.Add (variable (codes "x") 45) (NumberAtom (place 1 49) 1))))

abbrev call_less : StmtTree
call_less = only (LetStmt (place 1 59) true (named (codes "r") 63) (CallRhs (named (codes "f") 68) (Some (LessBound (named (codes "n") 70) 1)) (named (codes "y") 77 ∷ [])))

abbrev recursive : FunTree
recursive = record {
  name = named (codes "f") 5;
  bound = Some (named (codes "n") 7);
  params = record { name = named (codes "x") 10; ty = UintType (place 1 13) } ∷ [];
  result = UintType (place 1 22);
  body = only (WithStmt (place 1 29) add_one call_less);
  return_at = place 1 83;
  returned = named (codes "r") 90;
}

abbrev recursive_program : Setting
recursive_program = plain_program (record { word = 2; addr = 1 }) (recursive ∷ [])

-- a sum that is computed and uncomputed
abbrev sum_rows : List Row
sum_rows = twice (row 2 1 ∷ row 1 0 ∷ row 2 1 ∷ row 1 0 ∷ row 2 2 ∷ row 6 1 ∷ row 2 1 ∷ [])

body_with_bound_1 : Inventory recursive_program no_options (activation_of recursive_program recursive 1) 0 recursive.body sum_rows
body_with_bound_1 = InventoryThen (InventoryWith (InventoryThen InventoryExpr InventoryNothing) (InventoryThen (InventoryCallZero refl) InventoryNothing)) InventoryNothing

-- with the bound 2 there are two sums, with 64 gates, and with the bound 0 none
pub inventory_with_bound_2 : InventoryOf recursive_program no_options recursive (Some 2) (sum_rows ++ sum_rows)
inventory_with_bound_2 =
    InventoryBody 2 refl (InventoryThen (InventoryWith (InventoryThen InventoryExpr InventoryNothing) (InventoryThen (InventoryCall recursive 1 refl refl body_with_bound_1) InventoryNothing)) InventoryNothing)

pub sums_with_bound_2 : (line_total levels.Mcx (sum_rows ++ sum_rows) ≡ 64) × (t_total (sum_rows ++ sum_rows) ≡ 56)
sums_with_bound_2 = (refl, refl)

pub inventory_with_bound_0 : InventoryOf recursive_program no_options recursive (Some 0) []
inventory_with_bound_0 = InventoryNoBody refl
