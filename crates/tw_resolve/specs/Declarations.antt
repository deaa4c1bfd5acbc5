-- The declarations of a program: its aliases, its functions, and the targets of its pointers.
use Rattle.std.specs.Prelude.{◌≡◌, ℕ, Bool, false, ◌||◌, if◌then◌else◌, List, [], ◌∷◌, ◌++◌, flat_map, fold, Option, Some, None, position, is_some, codes, refl}
use Rattle.std.specs.List.{AllByRecursion}
use Rattle.std.specs.Str.{bytes_eq}
use Rattle.tw_syntax.specs.Examples.{place}
use Rattle.tw_syntax.specs.Programs.{FunTree, AliasTree, DeclTree, AliasDecl, FunDecl, ProgramTree}
use Rattle.tw_syntax.specs.Statements.{StmtTree, Nothing, Then, Else, LetStmt, SwapStmt, MemSwapStmt, IfStmt, WithStmt, BlockStmt, SkipStmt}
use Rattle.tw_syntax.specs.Terms.{AtomTree, NullAtom, ZeroAtom, ExprTree, OneExpr, TwoExpr, NotExpr, OpExpr, RhsTree, ExprRhs, CallRhs, AllocRhs}
use Rattle.tw_syntax.specs.Types.{WrittenTree, BoolType, PairType, PtrType, type_print}

-- a name, as bytes
abbrev pub Name : Type 0
Name = List ℕ

-- whether a name is one of these
abbrev pub is_one_of : Name → List Name → Bool
is_one_of name [] = false
is_one_of name (first ∷ rest) = bytes_eq name first || is_one_of name rest

-- names of which no two are equal
abbrev pub AreDifferent : List Name → Type 0
AreDifferent [] = Unit {0}
AreDifferent (name ∷ names) = AllByRecursion (λ other. bytes_eq name other ≡ false) names × AreDifferent names

-- the aliases, in order
abbrev pub aliases_of : List DeclTree → List AliasTree
aliases_of [] = []
aliases_of (AliasDecl alias ∷ decls) = alias ∷ aliases_of decls
aliases_of (FunDecl fun ∷ decls) = aliases_of decls

-- the functions, in order
abbrev pub funs_of : List DeclTree → List FunTree
funs_of [] = []
funs_of (AliasDecl alias ∷ decls) = funs_of decls
funs_of (FunDecl fun ∷ decls) = fun ∷ funs_of decls

-- the type that an alias is declared as
abbrev pub declared_as : List AliasTree → Name → Option WrittenTree
declared_as [] name = None
declared_as (alias ∷ aliases) name = if bytes_eq name alias.name.text then Some alias.body else declared_as aliases name

-- the number of a function: its position among the functions
abbrev pub number_of : List FunTree → Name → Option ℕ
number_of funs name = position (λ fun. bytes_eq name fun.name.text) funs

-- the targets of the pointers in a written type; a target comes before those in it
abbrev pub targets_in : WrittenTree → List WrittenTree
targets_in (PairType at first second) = targets_in first ++ targets_in second
targets_in (PtrType at to) = to ∷ targets_in to
targets_in other = []

-- the targets in an atom, in an expression and in a right side
abbrev pub atom_targets : AtomTree → List WrittenTree
atom_targets (NullAtom at to) = to ∷ targets_in to
atom_targets (ZeroAtom at ty) = targets_in ty
atom_targets other = []

abbrev pub expr_targets : ExprTree → List WrittenTree
expr_targets (OneExpr at x) = atom_targets x
expr_targets (TwoExpr at x y) = atom_targets x ++ atom_targets y
expr_targets (NotExpr at x) = atom_targets x
expr_targets (OpExpr at op x y) = atom_targets x ++ atom_targets y

abbrev pub rhs_targets : RhsTree → List WrittenTree
rhs_targets (ExprRhs expr) = expr_targets expr
rhs_targets (CallRhs callee bound args) = []
rhs_targets (AllocRhs to) = to ∷ targets_in to

-- the targets in statements
abbrev pub stmt_targets : StmtTree → List WrittenTree
stmt_targets Nothing = []
stmt_targets (Then first rest) = stmt_targets first ++ stmt_targets rest
stmt_targets (Else at stmts) = stmt_targets stmts
stmt_targets (LetStmt at forward target rhs) = rhs_targets rhs
stmt_targets (SwapStmt at left right) = []
stmt_targets (MemSwapStmt at pointer value) = []
stmt_targets (IfStmt at cond first other) = stmt_targets first ++ stmt_targets other
stmt_targets (WithStmt at setup work) = stmt_targets setup ++ stmt_targets work
stmt_targets (BlockStmt at body) = stmt_targets body
stmt_targets (SkipStmt at) = []

-- the targets in a declaration
abbrev pub decl_targets : DeclTree → List WrittenTree
decl_targets (AliasDecl alias) = targets_in alias.body
decl_targets (FunDecl fun) = flat_map (λ param. targets_in param.ty) fun.params ++ (targets_in fun.result ++ stmt_targets fun.body)

-- the position of the target that is written as this one
abbrev pub target_number : List WrittenTree → WrittenTree → Option ℕ
target_number targets to = position (λ target. bytes_eq (type_print to) (type_print target)) targets

-- the targets, with one more if no other is written as it is
abbrev pub with_target : List WrittenTree → WrittenTree → List WrittenTree
with_target targets to = if is_some (target_number targets to) then targets else targets ++ to ∷ []

-- the targets of a program, which are written differently, in first-seen order
abbrev pub targets_of : ProgramTree → List WrittenTree
targets_of program = fold with_target [] (flat_map decl_targets program.decls)

-- `type t = (ptr<ptr<bool>>, ptr<bool>);` has the targets `ptr<bool>` and `bool`
abbrev two_targets : ProgramTree
two_targets = record {
  decls = AliasDecl (record {
    name = record { text = codes "t"; at = place 1 6 };
    body = PairType (place 1 10) (PtrType (place 1 11) (PtrType (place 1 15) (BoolType (place 1 19)))) (PtrType (place 1 27) (BoolType (place 1 31)));
  }) ∷ [];
}

pub targets_of_two : targets_of two_targets ≡ PtrType (place 1 15) (BoolType (place 1 19)) ∷ BoolType (place 1 19) ∷ []
targets_of_two = refl
