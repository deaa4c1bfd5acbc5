-- The printed form of statements, functions and programs: each statement is on its own lines, two spaces deeper per brace.
use Rattle.std.specs.Prelude.{◌≡◌, ℕ, zero, suc, ◌+◌, ◌-◌, ◌^◌, min, Bool, true, if◌then◌else◌, List, [], ◌∷◌, ◌++◌, Option, Some, None, codes, refl}
use Rattle.tw_text.specs.declared.place.Pos.{Pos}
use Rattle.tw_syntax.specs.Names.{NameTree, PathTree}
use Rattle.tw_syntax.specs.Terms.{RhsTree, AllocRhs}
use Rattle.tw_syntax.specs.Statements.{StmtTree, Nothing, Then, Else, LetStmt, SwapStmt, MemSwapStmt, IfStmt, WithStmt, BlockStmt, SkipStmt}
use Rattle.tw_syntax.specs.Types.{UnitType}
use Rattle.tw_syntax.specs.Programs.{ParamTree, FunTree, AliasTree, DeclTree, AliasDecl, FunDecl, ProgramTree}
use Rattle.tw_print.specs.Terms.{type_print, path_print, rhs_print}

-- one brace deeper; the depth saturates at the greatest number of 64 bits
abbrev pub deeper : ℕ → ℕ
deeper depth = min (depth + 1) (2 ^ 64 - 1)

-- two spaces for each open brace
abbrev pub indent : ℕ → List ℕ
indent zero = []
indent (suc n) = codes "  " ++ indent n

-- a line at a depth
abbrev pub line : ℕ → List ℕ → List ℕ
line depth text = indent depth ++ (text ++ codes "\n")

-- the arrow of a `let`
abbrev pub arrow_print : Bool → List ℕ
arrow_print forward = if forward then codes " <- " else codes " -> "

abbrev pub let_print : Bool → NameTree → RhsTree → List ℕ
let_print forward target rhs = codes "let " ++ (target.text ++ (arrow_print forward ++ (rhs_print rhs ++ codes ";")))

abbrev pub swap_print : PathTree → PathTree → List ℕ
swap_print left right = path_print left ++ (codes " <-> " ++ (path_print right ++ codes ";"))

-- statements at a depth; an `else` closes the branch before it
abbrev pub stmt_print : ℕ → StmtTree → List ℕ
stmt_print depth Nothing = []
stmt_print depth (Then first rest) = stmt_print depth first ++ stmt_print depth rest
stmt_print depth (Else at stmts) = line depth (codes "} else {") ++ stmt_print (deeper depth) stmts
stmt_print depth (LetStmt at forward target rhs) = line depth (let_print forward target rhs)
stmt_print depth (SwapStmt at left right) = line depth (swap_print left right)
stmt_print depth (MemSwapStmt at pointer value) = line depth (codes "*" ++ swap_print pointer value)
stmt_print depth (IfStmt at cond first other) =
    line depth (codes "if " ++ (path_print cond ++ codes " {")) ++ (stmt_print (deeper depth) first ++ (stmt_print depth other ++ line depth (codes "}")))
stmt_print depth (WithStmt at setup work) =
    line depth (codes "with {") ++ (stmt_print (deeper depth) setup ++ (line depth (codes "} do {") ++ (stmt_print (deeper depth) work ++ line depth (codes "}"))))
stmt_print depth (BlockStmt at body) = line depth (codes "{") ++ (stmt_print (deeper depth) body ++ line depth (codes "}"))
stmt_print depth (SkipStmt at) = line depth (codes "skip;")

-- a parameter
abbrev pub param_print : ParamTree → List ℕ
param_print param = param.name.text ++ (codes ": " ++ type_print param.ty)

abbrev pub more_params_print : List ParamTree → List ℕ
more_params_print [] = []
more_params_print (param ∷ params) = codes ", " ++ (param_print param ++ more_params_print params)

abbrev pub params_print : List ParamTree → List ℕ
params_print [] = []
params_print (param ∷ params) = param_print param ++ more_params_print params

-- the bound of a function
abbrev pub fun_bound_print : Option NameTree → List ℕ
fun_bound_print None = []
fun_bound_print (Some name) = codes "[" ++ (name.text ++ codes "]")

-- the first line of a function
abbrev pub head_print : FunTree → List ℕ
head_print fun =
    codes "fun " ++ (fun.name.text ++ (fun_bound_print fun.bound ++ (codes "(" ++ (params_print fun.params ++ (codes ") -> " ++ (type_print fun.result ++ codes " {\n"))))))

-- the last two lines of a function
abbrev pub return_print : NameTree → List ℕ
return_print returned = codes "  return " ++ (returned.text ++ codes ";\n}\n")

abbrev pub fun_print : FunTree → List ℕ
fun_print fun = head_print fun ++ (stmt_print 1 fun.body ++ return_print fun.returned)

abbrev pub alias_print : AliasTree → List ℕ
alias_print alias = codes "type " ++ (alias.name.text ++ (codes " = " ++ (type_print alias.body ++ codes ";\n")))

-- a declaration
abbrev pub decl_print : DeclTree → List ℕ
decl_print (AliasDecl alias) = alias_print alias
decl_print (FunDecl fun) = fun_print fun

abbrev pub decls_print : List DeclTree → List ℕ
decls_print [] = []
decls_print (decl ∷ decls) = decl_print decl ++ decls_print decls

-- the printed form of a program
abbrev pub program_print : ProgramTree → List ℕ
program_print program = decls_print program.decls

pub stmt_print-else : (at : Pos) → stmt_print 1 (IfStmt at (record { root = record { text = codes "x"; at = at }; steps = [] }) (Then (SkipStmt at) Nothing) (Else at Nothing))
    ≡ codes "  if x {\n    skip;\n  } else {\n  }\n"
stmt_print-else at = refl

pub fun_print-small : (at : Pos) → fun_print (record {
  name = record { text = codes "f"; at = at };
  bound = None;
  params = record { name = record { text = codes "x"; at = at }; ty = UnitType at } ∷ [];
  result = UnitType at;
  body = Then (LetStmt at true (record { text = codes "y"; at = at }) (AllocRhs (UnitType at))) Nothing;
  return_at = at;
  returned = record { text = codes "y"; at = at };
}) ≡ codes "fun f(x: ()) -> () {\n  let y <- alloc<()>;\n  return y;\n}\n"
fun_print-small at = refl
