-- A worked program, its states, and the values of its expressions.
use Rattle.std.specs.Prelude.{◌≡◌, ℕ, Bool, true, false, List, [], ◌∷◌, Some, None, codes, refl}
use Rattle.tw_syntax.specs.declared.term.OpKind.TheVariants as op
use Rattle.tw_syntax.specs.Examples.{place}
use Rattle.tw_syntax.specs.Programs.{FunTree, FunDecl, ProgramTree}
use Rattle.tw_syntax.specs.Statements.{Nothing, Then, LetStmt}
use Rattle.tw_syntax.specs.Terms.{ExprTree, OpExpr, ExprRhs}
use Rattle.tw_syntax.specs.Types.{BoolType}
use Rattle.tw_types.specs.Types.{Widths}
use Rattle.tw_types.specs.Values.{Truth}
use Rattle.tw_resolve.specs.Programs.{setting_of}
use Rattle.tw_resolve.specs.Setting.{Setting}
use Rattle.tw_state.specs.States.{Free, Store, State, empty, with_value, cell_at}
use Rattle.tw_state.specs.Evaluation.{expr_value}
use Rattle.tw_state.specs.Derivations.{named, variable}

-- words and addresses of one bit
abbrev pub one_bit : Widths
one_bit = record { word = 1; addr = 1 }

-- `left && right` from column 47 on
abbrev pub conjunction : List ℕ → List ℕ → ExprTree
conjunction left right = OpExpr (place 1 47) op.And (variable left 47) (variable right 52)

-- `fun main(a: bool, b: bool) -> bool { let c <- left && right; return c; }`
abbrev pub main_of : List ℕ → List ℕ → FunTree
main_of left right = record {
  name = named (codes "main") 5;
  bound = None;
  params = record { name = named (codes "a") 10; ty = BoolType (place 1 13) } ∷ record { name = named (codes "b") 19; ty = BoolType (place 1 22) } ∷ [];
  result = BoolType (place 1 31);
  body = Then (LetStmt (place 1 38) true (named (codes "c") 42) (ExprRhs (conjunction left right))) Nothing;
  return_at = place 1 55;
  returned = named (codes "c") 62;
}

-- `fun main(a: bool, b: bool) -> bool { let c <- a && b; return c; }`
abbrev pub main : FunTree
main = main_of (codes "a") (codes "b")

abbrev pub program : ProgramTree
program = record { decls = FunDecl main ∷ [] }

-- the setting of this program, which declares no names of types
abbrev pub setting_at : Widths → Setting
setting_at widths = setting_of widths program (λ name. None)

abbrev pub main_setting : Setting
main_setting = setting_at one_bit

-- the values of a and b
abbrev pub operands : Bool → Bool → Store
operands a b = with_value (with_value empty (codes "a") (Truth a)) (codes "b") (Truth b)

-- `free 1; 1 free 0; a true; b true`
abbrev pub start : State
start = record { head = 1; cells = Free 0 ∷ []; store = operands true true }

-- `free 1; 1 free 0; a true; b true; c true`
abbrev pub end : State
end = record { head = 1; cells = Free 0 ∷ []; store = with_value (operands true true) (codes "c") (Truth true) }

pub value_of_a : operands true false (codes "a") ≡ Some (Truth true)
value_of_a = refl

pub value_of_b : operands true false (codes "b") ≡ Some (Truth false)
value_of_b = refl

pub no_value_of_d : operands true false (codes "d") ≡ None
no_value_of_d = refl

pub cell_of_block_1 : cell_at start.cells 1 ≡ Some (Free 0)
cell_of_block_1 = refl

pub no_cell_of_null : cell_at start.cells 0 ≡ None
no_cell_of_null = refl

pub no_cell_past_the_end : cell_at start.cells 2 ≡ None
no_cell_past_the_end = refl

pub both_true : expr_value main_setting (operands true true) (conjunction (codes "a") (codes "b")) ≡ Some (Truth true)
both_true = refl

pub one_false : expr_value main_setting (operands true false) (conjunction (codes "a") (codes "b")) ≡ Some (Truth false)
one_false = refl

pub no_value_without_operand : expr_value main_setting (operands true true) (conjunction (codes "a") (codes "d")) ≡ None
no_value_without_operand = refl
