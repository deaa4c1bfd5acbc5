-- Worked examples of how much statements run.
use Rattle.std.specs.Prelude.{◌≡◌, ℕ, true, List, [], ◌∷◌, Option, Some, None, option_map, codes, refl}
use Rattle.tw_text.specs.declared.refusal.Counted.TheVariants as counted
use Rattle.tw_text.specs.Places.{first_place}
use Rattle.tw_text.specs.Refusals.{passed}
use Rattle.tw_syntax.specs.Examples.{place}
use Rattle.tw_syntax.specs.Programs.{FunTree}
use Rattle.tw_syntax.specs.Statements.{StmtTree, Nothing, Then, Else, LetStmt, IfStmt, WithStmt, BlockStmt, SkipStmt}
use Rattle.tw_syntax.specs.Terms.{BoundTree, LessBound, CallRhs}
use Rattle.tw_syntax.specs.Types.{BoolType}
use Rattle.tw_resolve.specs.Demands.{first_broken}
use Rattle.tw_state.specs.Derivations.{named, path, assign, copied, program}
use Rattle.tw_frames.specs.declared.measured.Measured.{Measured}
use Rattle.tw_frames.specs.Measures.{Measures, MeasuresNothing, MeasuresThen, MeasuresExpr, MeasuresSkip, MeasuresBlock, MeasuresElse, MeasuresIf, MeasuresWith, MeasuresCall, MeasuresCallZero, MeasuresEntry, MeasuresBody, MeasuresNoBody, limit_rules}

-- this number of statements, this depth, and this depth of `if`s
abbrev pub measure : (statements depth if_depth : ℕ) → Measured
measure statements depth if_depth = record { statements = statements; depth = depth; if_depth = if_depth }

-- `skip;`
abbrev pub skip : StmtTree
skip = SkipStmt (place 1 1)

-- one statement
abbrev pub only : StmtTree → StmtTree
only stmt = Then stmt Nothing

-- `skip; skip;`
abbrev pub two_skips : StmtTree
two_skips = Then skip (only skip)

-- `let y <- f[..](x);`
abbrev pub call : List ℕ → Option BoundTree → StmtTree
call callee bound = LetStmt (place 1 1) true (named (codes "y") 5) (CallRhs (named callee 10) bound (named (codes "x") 20 ∷ []))

-- `fun f[n](x: bool) -> bool { .. return y; }`
abbrev pub fun_with : List ℕ → Option (List ℕ) → StmtTree → FunTree
fun_with name bound body = record {
  name = named name 5;
  bound = option_map (λ text. named text 7) bound;
  params = record { name = named (codes "x") 10; ty = BoolType (place 1 13) } ∷ [];
  result = BoolType (place 1 22);
  body = body;
  return_at = place 1 40;
  returned = named (codes "y") 47;
}

-- one and two single statements
pub one_statement : Measures (program []) 0 (only skip) (measure 1 0 0)
one_statement = MeasuresThen MeasuresSkip MeasuresNothing

pub two_statements : Measures (program []) 0 two_skips (measure 2 0 0)
two_statements = MeasuresThen MeasuresSkip one_statement

-- `{ skip; skip; }`: the block and its two statements
pub block_of_two : Measures (program []) 0 (BlockStmt (place 1 1) two_skips) (measure 3 1 0)
block_of_two = MeasuresBlock two_statements

-- an empty block has the depth 1
pub empty_block : Measures (program []) 0 (BlockStmt (place 1 1) Nothing) (measure 1 1 0)
empty_block = MeasuresBlock MeasuresNothing

-- `with { skip; } do { skip; skip; }`: itself, the setup twice, and the work
pub setup_counts_twice : Measures (program []) 0 (WithStmt (place 1 1) (only skip) two_skips) (measure 5 1 0)
setup_counts_twice = MeasuresWith one_statement two_statements

-- `if c { .. }`
abbrev pub branch : StmtTree → StmtTree → StmtTree
branch first other = IfStmt (place 1 1) (path (codes "c") 4) first other

-- `if c { skip; }`, and `if c { skip; } else { skip; skip; }`, of which both branches count
pub one_branch : Measures (program []) 0 (branch (only skip) Nothing) (measure 2 1 1)
one_branch = MeasuresIf one_statement MeasuresNothing

pub both_branches_count : Measures (program []) 0 (branch (only skip) (Else (place 1 10) two_skips)) (measure 4 1 1)
both_branches_count = MeasuresIf one_statement (MeasuresElse two_statements)

-- `if c { if c { skip; } }` has both depths 2, and `if c { skip; } if c { skip; }` has both 1
pub nested_ifs : Measures (program []) 0 (branch (only (branch (only skip) Nothing)) Nothing) (measure 3 2 2)
nested_ifs = MeasuresIf (MeasuresThen one_branch MeasuresNothing) MeasuresNothing

pub ifs_in_turn : Measures (program []) 0 (Then (branch (only skip) Nothing) (only (branch (only skip) Nothing))) (measure 4 1 1)
ifs_in_turn = MeasuresThen one_branch (MeasuresThen one_branch MeasuresNothing)

-- `fun f(x: bool) -> bool { let y <- x; return y; } fun g(x: bool) -> bool { let y <- f(x); return y; }`
abbrev pub copy : FunTree
copy = fun_with (codes "f") None (only (assign 27 (codes "y") (copied (codes "x") 36)))

abbrev pub caller : FunTree
caller = fun_with (codes "g") None (only (call (codes "f") None))

pub copy_runs : MeasuresEntry (program (copy ∷ [])) copy None (measure 1 1 0)
copy_runs = MeasuresBody 0 refl (MeasuresThen MeasuresExpr MeasuresNothing)

-- the call and the statement of its callee
pub caller_runs : MeasuresEntry (program (copy ∷ caller ∷ [])) caller None (measure 2 2 0)
caller_runs = MeasuresBody 0 refl (MeasuresThen (MeasuresCall copy 0 refl refl (MeasuresThen MeasuresExpr MeasuresNothing)) MeasuresNothing)

-- `fun h[n](x: bool) -> bool { if x { let y <- h[n - 1](x); } return y; }`
abbrev pub recursive : FunTree
recursive = fun_with (codes "h") (Some (codes "n")) (only (IfStmt (place 1 30) (path (codes "x") 33) (only (call (codes "h") (Some (LessBound (named (codes "n") 12) 1)))) Nothing))

-- with the bound 0 it runs nothing; with 1 its own call runs no body; and so on
pub bound_0 : MeasuresEntry (program (recursive ∷ [])) recursive (Some 0) (measure 0 0 0)
bound_0 = MeasuresNoBody refl

pub body_1 : Measures (program (recursive ∷ [])) 1 recursive.body (measure 2 1 1)
body_1 = MeasuresThen (MeasuresIf (MeasuresThen (MeasuresCallZero refl) MeasuresNothing) MeasuresNothing) MeasuresNothing

pub bound_1 : MeasuresEntry (program (recursive ∷ [])) recursive (Some 1) (measure 2 2 1)
bound_1 = MeasuresBody 1 refl body_1

pub bound_2 : MeasuresEntry (program (recursive ∷ [])) recursive (Some 2) (measure 4 4 2)
bound_2 = MeasuresBody 2 refl (MeasuresThen (MeasuresIf (MeasuresThen (MeasuresCall recursive 1 refl refl body_1) MeasuresNothing) MeasuresNothing) MeasuresNothing)

-- the greatest measure that is accepted, and the refusals of greater ones: statements come first
pub limits_are_accepted : first_broken (limit_rules (measure 1000000 1000 1000)) ≡ None
limits_are_accepted = refl

pub depth_is_refused : first_broken (limit_rules (measure 1000000 1004 0)) ≡ Some (passed counted.Depth 1004 first_place)
depth_is_refused = refl

pub statements_are_refused_first : first_broken (limit_rules (measure 1000001 1004 0)) ≡ Some (passed counted.Statements 1000001 first_place)
statements_are_refused_first = refl
