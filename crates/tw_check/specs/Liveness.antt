-- The names that a statement mentions, and which names are live after it.
use Rattle.std.specs.Prelude.{ℕ, Bool, true, false, List, [], ◌∷◌, ◌++◌, map}
use Rattle.std.proofs.Math.Bool.{beq}
use Rattle.tw_syntax.specs.Names.{NameTree}
use Rattle.tw_syntax.specs.Programs.{FunTree}
use Rattle.tw_syntax.specs.Statements.{StmtTree, Nothing, Then, Else, LetStmt, SwapStmt, MemSwapStmt, IfStmt, WithStmt, BlockStmt, SkipStmt}
use Rattle.tw_syntax.specs.Terms.{AtomTree, PlaceAtom, ExprTree, OneExpr, TwoExpr, NotExpr, OpExpr, RhsTree, ExprRhs, CallRhs, AllocRhs}
use Rattle.tw_check.specs.Names.{Names, with_name, is_one_of}

-- the variables of an atom, an expression and a right side, from left to right
abbrev pub atom_names : AtomTree → List NameTree
atom_names (PlaceAtom at path) = path.root ∷ []
atom_names atom = []

abbrev pub expr_names : ExprTree → List NameTree
expr_names (OneExpr at x) = atom_names x
expr_names (TwoExpr at x y) = atom_names x ++ atom_names y
expr_names (NotExpr at x) = atom_names x
expr_names (OpExpr at op x y) = atom_names x ++ atom_names y

abbrev pub rhs_names : RhsTree → List NameTree
rhs_names (ExprRhs expr) = expr_names expr
rhs_names (CallRhs callee bound args) = args
rhs_names (AllocRhs ty) = []

-- the texts of names
abbrev pub texts : List NameTree → List (List ℕ)
texts names = map (λ name. name.text) names

-- all variables that a statement mentions
abbrev pub names_of : StmtTree → List (List ℕ)
names_of Nothing = []
names_of (Then first rest) = names_of first ++ names_of rest
names_of (Else at stmts) = names_of stmts
names_of (LetStmt at forward target rhs) = target.text ∷ texts (rhs_names rhs)
names_of (SwapStmt at left right) = left.root.text ∷ right.root.text ∷ []
names_of (MemSwapStmt at pointer value) = pointer.root.text ∷ value.root.text ∷ []
names_of (IfStmt at cond first other) = cond.root.text ∷ (names_of first ++ names_of other)
names_of (WithStmt at setup work) = names_of setup ++ names_of work
names_of (BlockStmt at body) = names_of body
names_of (SkipStmt at) = []

-- the live names after a statement, or after its reverse, from those before it. An `if` ends with those of its first branch
abbrev pub live_after : Bool → StmtTree → Names → Names
live_after forward Nothing live = live
live_after true (Then first rest) live = live_after true rest (live_after true first live)
live_after false (Then first rest) live = live_after false first (live_after false rest live)
live_after forward (Else at stmts) live = live_after forward stmts live
live_after forward (LetStmt at assigns target rhs) live = with_name live target.text (beq forward assigns)
live_after forward (SwapStmt at left right) live = live
live_after forward (MemSwapStmt at pointer value) live = live
live_after forward (IfStmt at cond first other) live = live_after forward first live
live_after forward (WithStmt at setup work) live = live_after false setup (live_after forward work (live_after true setup live))
live_after forward (BlockStmt at body) live = live_after forward body live
live_after forward (SkipStmt at) live = live

-- the names of the parameters; they are live where the body begins
abbrev pub param_names : FunTree → List (List ℕ)
param_names fun = map (λ param. param.name.text) fun.params

abbrev pub live_at_start : FunTree → Names
live_at_start fun name = is_one_of name (param_names fun)

-- the names that are live after the body: the parameters and the result
abbrev pub live_at_end : FunTree → Names
live_at_end fun = with_name (live_at_start fun) fun.returned.text true
