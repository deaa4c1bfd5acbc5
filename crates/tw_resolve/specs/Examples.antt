-- The variables of a function, worked out.
use Rattle.std.specs.Prelude.{◌≡◌, true, false, [], ◌∷◌, Some, None, codes, refl}
use Rattle.tw_text.specs.Places.{first_place}
use Rattle.tw_syntax.specs.Names.{NameTree}
use Rattle.tw_syntax.specs.Programs.{FunTree}
use Rattle.tw_syntax.specs.Statements.{StmtTree, Nothing, Then, LetStmt}
use Rattle.tw_syntax.specs.Terms.{AtomTree, PlaceAtom, TrueAtom, OneExpr, ExprRhs}
use Rattle.tw_syntax.specs.Types.{UintType, BoolType, PairType}
use Rattle.tw_types.specs.Types.{Word, Boolean, PairTy}
use Rattle.tw_resolve.specs.Declarations.{Name}
use Rattle.tw_resolve.specs.Demands.{first_broken}
use Rattle.tw_resolve.specs.Setting.{Setting}
use Rattle.tw_resolve.specs.Expressions.{variable_type}
use Rattle.tw_resolve.specs.Statements.{with_variable}
use Rattle.tw_resolve.specs.Programs.{end_variables, fun_rules, local_variables, variable_names}

abbrev named : Name → NameTree
named text = record { text = text; at = first_place }

-- nothing is declared but this function
abbrev alone : FunTree → Setting
alone fun = record {
  widths = record { word = 32; addr = 8 };
  scope = record { declared = λ name. None; targets = [] };
  types = λ name. None;
  funs = fun ∷ [];
}

-- `let target <- atom;`
abbrev assigns : Name → AtomTree → StmtTree
assigns target atom = LetStmt first_place true (named target) (ExprRhs (OneExpr first_place atom))

-- `fun f(i: (uint, bool)) -> uint { let t <- true; let y <- i.1; let t -> true; return y; }`
abbrev first_half : FunTree
first_half = record {
  name = named (codes "f");
  bound = None;
  params = record { name = named (codes "i"); ty = PairType first_place (UintType first_place) (BoolType first_place) } ∷ [];
  result = UintType first_place;
  body = Then (assigns (codes "t") (TrueAtom first_place))
      (Then (assigns (codes "y") (PlaceAtom first_place (record { root = named (codes "i"); steps = 1 ∷ [] })))
      (Then (LetStmt first_place false (named (codes "t")) (ExprRhs (OneExpr first_place (TrueAtom first_place)))) Nothing));
  return_at = first_place;
  returned = named (codes "y");
}

-- it keeps its rules
pub first_half_kept : first_broken (fun_rules (alone first_half) 0 first_half) ≡ None
first_half_kept = refl

-- its variables are `i`, `t` and `y`, of which `t` is local
pub variables_of_first_half : end_variables (alone first_half) first_half
    ≡ (codes "i", PairTy Word Boolean) ∷ (codes "t", Boolean) ∷ (codes "y", Word) ∷ []
variables_of_first_half = refl

pub names_of_first_half : variable_names first_half ≡ codes "i" ∷ codes "t" ∷ codes "y" ∷ []
names_of_first_half = refl

pub locals_of_first_half : local_variables (alone first_half) first_half ≡ (codes "t", Boolean) ∷ []
locals_of_first_half = refl

-- a variable keeps its first type
pub first_type_stays : with_variable ((codes "x", Word) ∷ []) (codes "x") (Some Boolean) ≡ (codes "x", Word) ∷ []
first_type_stays = refl

pub no_such_variable : variable_type ((codes "x", Word) ∷ []) (codes "y") ≡ None
no_such_variable = refl
