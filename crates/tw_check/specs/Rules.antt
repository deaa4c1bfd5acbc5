-- The rules of reversibility, as demands in the order in which they are tried.
use Rattle.std.specs.Prelude.{Bool, true, false, ◌&&◌, not, List, [], ◌∷◌, ◌++◌, flat_map}
use Rattle.std.specs.Str.{bytes_eq}
use Rattle.tw_text.specs.declared.refusal.Rule.TheVariants as rule
use Rattle.tw_syntax.specs.Names.{NameTree}
use Rattle.tw_syntax.specs.Programs.{FunTree, DeclTree}
use Rattle.tw_syntax.specs.Statements.{StmtTree, Nothing, Then, Else, LetStmt, SwapStmt, MemSwapStmt, IfStmt, WithStmt, BlockStmt, SkipStmt}
use Rattle.tw_resolve.specs.Declarations.{funs_of}
use Rattle.tw_resolve.specs.Demands.{Demand, demand}
use Rattle.tw_check.specs.Names.{Names, no_names, with_name, agree_on}
use Rattle.tw_check.specs.Liveness.{rhs_names, names_of, live_after, param_names, live_at_start, live_at_end}
use Rattle.tw_check.specs.Right.{overlap, writes}

-- a name that is used is live
abbrev pub used : Names → NameTree → Demand
used live name = demand rule.NotDeclared name.at (live name.text)

-- a name that is written is not held
abbrev pub written : Names → NameTree → Demand
written held name = demand rule.ConditionWritten name.at (not (held name.text))

-- the target of an assignment is not live, that of an un-assignment is
abbrev pub target_rules : Names → Names → Bool → NameTree → List Demand
target_rules held live true target = demand rule.Redeclared target.at (not (live target.text)) ∷ written held target ∷ []
target_rules held live false target = used live target ∷ written held target ∷ []

-- a variable of a right side is not the target, is live, and is not held if a call writes it
abbrev pub operand_rules : Names → Names → NameTree → Bool → List NameTree → List Demand
operand_rules held live target writes [] = []
operand_rules held live target writes (name ∷ names) =
    demand rule.SelfUse name.at (not (bytes_eq target.text name.text))
    ∷ used live name
    ∷ demand rule.ConditionWritten name.at (not (writes && held name.text))
    ∷ operand_rules held live target writes names

-- the rules of a statement under held names, from live names
abbrev pub stmt_rules : Names → Names → StmtTree → List Demand
stmt_rules held live Nothing = []
stmt_rules held live (Then first rest) = stmt_rules held live first ++ stmt_rules held (live_after true first live) rest
stmt_rules held live (LetStmt at forward target rhs) =
    target_rules held live forward target ++ operand_rules held live target (writes rhs) (rhs_names rhs)
stmt_rules held live (SwapStmt at left right) =
    used live left.root ∷ written held left.root ∷ used live right.root ∷ written held right.root
    ∷ demand rule.Overlap right.root.at (not (overlap left right)) ∷ []
stmt_rules held live (MemSwapStmt at pointer value) =
    used live pointer.root ∷ used live value.root ∷ written held value.root
    ∷ demand rule.Overlap value.root.at (not (overlap pointer value)) ∷ []
stmt_rules held live (IfStmt at cond first Nothing) =
    used live cond.root ∷ stmt_rules (with_name held cond.root.text true) live first
stmt_rules held live (IfStmt at cond first (Else else_at other)) =
    used live cond.root
    ∷ (stmt_rules (with_name held cond.root.text true) live first
    ++ (stmt_rules (with_name held cond.root.text true) live other
    ++ demand rule.BranchesDiffer else_at (agree_on (names_of first ++ names_of other) (live_after true first live) (live_after true other live)) ∷ []))
stmt_rules held live (WithStmt at setup work) =
    stmt_rules held live setup
    ++ (stmt_rules held (live_after true setup live) work
    ++ demand rule.WithNotUndone at (agree_on (names_of setup) (live_after true setup live) (live_after true work (live_after true setup live))) ∷ [])
stmt_rules held live (BlockStmt at body) = stmt_rules held live body
stmt_rules held live (SkipStmt at) = []
-- no text has these trees: an `else` without its `if`, and an `if` whose other part is no `else`
stmt_rules held live (Else at stmts) = demand rule.BranchesDiffer at false ∷ []
stmt_rules held live (IfStmt at cond first other) = demand rule.BranchesDiffer at false ∷ []

-- the rules of a function: those of its body; then its result is live, and no other name but the parameters
abbrev pub fun_rules : FunTree → List Demand
fun_rules fun =
    let ends = live_after true fun.body (live_at_start fun) in
    stmt_rules no_names (live_at_start fun) fun.body
    ++ (used ends fun.returned
    ∷ demand rule.Left fun.return_at (agree_on (fun.returned.text ∷ (param_names fun ++ names_of fun.body)) ends (live_at_end fun)) ∷ [])

-- the rules of all functions of declarations, in text order
abbrev pub decls_rules : List DeclTree → List Demand
decls_rules decls = flat_map fun_rules (funs_of decls)
