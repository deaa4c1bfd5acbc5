-- The rules of types in statements, and the variables that statements declare.
use Rattle.std.specs.Prelude.{ℕ, Bool, true, false, if◌then◌else◌, List, [], ◌∷◌, ◌++◌, Option, Some, None, is_some}
use Rattle.tw_text.specs.declared.refusal.Rule.TheVariants as rule
use Rattle.tw_syntax.specs.Names.{NameTree, PathTree}
use Rattle.tw_syntax.specs.Terms.{RhsTree}
use Rattle.tw_syntax.specs.Programs.{FunTree}
use Rattle.tw_syntax.specs.Statements.{StmtTree, Nothing, Then, Else, LetStmt, SwapStmt, MemSwapStmt, IfStmt, WithStmt, BlockStmt, SkipStmt}
use Rattle.tw_types.specs.Types.{Ty, Boolean, Pointer}
use Rattle.tw_resolve.specs.Demands.{Demand, demand}
use Rattle.tw_resolve.specs.Declarations.{Name}
use Rattle.tw_resolve.specs.Setting.{Setting, pointee, fits}
use Rattle.tw_resolve.specs.Expressions.{Variables, variable_type, path_type, path_rules, rhs_rules, rhs_type, if_there}

-- the variables with one more, if its type is known; one that is there keeps its type
abbrev pub with_variable : Variables → Name → Option Ty → Variables
with_variable variables name None = variables
with_variable variables name (Some ty) = if is_some (variable_type variables name) then variables else variables ++ (name, ty) ∷ []

-- the variables after a statement, from those before it: every assignment declares its target, in text order
abbrev pub variables_after : Setting → Variables → StmtTree → Variables
variables_after setting variables Nothing = variables
variables_after setting variables (Then first rest) = variables_after setting (variables_after setting variables first) rest
variables_after setting variables (Else at stmts) = variables_after setting variables stmts
variables_after setting variables (LetStmt at true target rhs) = with_variable variables target.text (rhs_type setting variables rhs)
variables_after setting variables (LetStmt at false target rhs) = variables
variables_after setting variables (SwapStmt at left right) = variables
variables_after setting variables (MemSwapStmt at pointer value) = variables
variables_after setting variables (IfStmt at cond first other) = variables_after setting (variables_after setting variables first) other
variables_after setting variables (WithStmt at setup work) = variables_after setting (variables_after setting variables setup) work
variables_after setting variables (BlockStmt at body) = variables_after setting variables body
variables_after setting variables (SkipStmt at) = variables

-- the targets of the assignments in a statement, in text order
abbrev pub assigned : StmtTree → List Name
assigned Nothing = []
assigned (Then first rest) = assigned first ++ assigned rest
assigned (Else at stmts) = assigned stmts
assigned (LetStmt at true target rhs) = target.text ∷ []
assigned (LetStmt at false target rhs) = []
assigned (SwapStmt at left right) = []
assigned (MemSwapStmt at pointer value) = []
assigned (IfStmt at cond first other) = assigned first ++ assigned other
assigned (WithStmt at setup work) = assigned setup ++ assigned work
assigned (BlockStmt at body) = assigned body
assigned (SkipStmt at) = []

-- whether a type is that of pointers
abbrev pub is_pointer : Ty → Bool
is_pointer (Pointer target) = true
is_pointer ty = false

-- the target of an un-assignment is a variable
abbrev pub target_rules : Variables → Bool → NameTree → List Demand
target_rules variables true target = []
target_rules variables false target = demand rule.UnknownName target.at (is_some (variable_type variables target.text)) ∷ []

-- the target, the right side, and then whether the target keeps its type
abbrev pub let_rules : Setting → ℕ → FunTree → Variables → Bool → NameTree → RhsTree → List Demand
let_rules setting number fun variables forward target rhs =
    target_rules variables forward target
    ++ (rhs_rules setting number fun variables rhs
    ++ demand rule.TypeChanged target.at (fits (variable_type variables target.text) (rhs_type setting variables rhs)) ∷ [])

-- two paths have one type
abbrev pub swap_rules : Variables → PathTree → PathTree → List Demand
swap_rules variables left right = path_rules variables None left ++ path_rules variables (path_type variables left) right

-- a path leads to a pointer, and another one has the type that it points to
abbrev pub mem_swap_rules : Setting → Variables → PathTree → PathTree → List Demand
mem_swap_rules setting variables pointer value =
    path_rules variables None pointer
    ++ (demand rule.TypeMismatch pointer.root.at (if_there (path_type variables pointer) is_pointer)
    ∷ path_rules variables (pointee setting (path_type variables pointer)) value)

-- the rules of a statement in the function of this number, from variables
abbrev pub stmt_rules : Setting → ℕ → FunTree → Variables → StmtTree → List Demand
stmt_rules setting number fun variables Nothing = []
stmt_rules setting number fun variables (Then first rest) =
    stmt_rules setting number fun variables first
    ++ stmt_rules setting number fun (variables_after setting variables first) rest
stmt_rules setting number fun variables (Else at stmts) = stmt_rules setting number fun variables stmts
stmt_rules setting number fun variables (LetStmt at forward target rhs) = let_rules setting number fun variables forward target rhs
stmt_rules setting number fun variables (SwapStmt at left right) = swap_rules variables left right
stmt_rules setting number fun variables (MemSwapStmt at pointer value) = mem_swap_rules setting variables pointer value
stmt_rules setting number fun variables (IfStmt at cond first other) =
    path_rules variables (Some Boolean) cond
    ++ (stmt_rules setting number fun variables first
    ++ stmt_rules setting number fun (variables_after setting variables first) other)
stmt_rules setting number fun variables (WithStmt at setup work) =
    stmt_rules setting number fun variables setup
    ++ stmt_rules setting number fun (variables_after setting variables setup) work
stmt_rules setting number fun variables (BlockStmt at body) = stmt_rules setting number fun variables body
stmt_rules setting number fun variables (SkipStmt at) = []
