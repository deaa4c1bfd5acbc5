-- Tests whether syntax trees are equal but for their places.
use Rattle.std.specs.Prelude.{◌≡◌, refl, ℕ, Bool, true, false, ◌&&◌, List, [], ◌∷◌, Option, Some, None, eqb}
use Rattle.std.proofs.Math.Bool.{beq}
use Rattle.std.specs.Str.{bytes_eq}
use Rattle.tw_syntax.specs.declared.term.OpKind.{OpKind}
use Rattle.tw_syntax.specs.declared.term.OpKind.TheVariants as op
use Rattle.tw_syntax.specs.Examples.{place}
use Rattle.tw_syntax.specs.Names.{NameTree, PathTree}
use Rattle.tw_syntax.specs.Programs.{ParamTree, FunTree, AliasTree, DeclTree, AliasDecl, FunDecl, ProgramTree}
use Rattle.tw_syntax.specs.Statements.{StmtTree, Nothing, Then, Else, LetStmt, SwapStmt, MemSwapStmt, IfStmt, WithStmt, BlockStmt, SkipStmt}
use Rattle.tw_syntax.specs.Terms.{AtomTree, PlaceAtom, NumberAtom, TrueAtom, FalseAtom, UnitAtom, NullAtom, ZeroAtom, ExprTree, OneExpr, TwoExpr, NotExpr, OpExpr, BoundTree, FixedBound, SameBound, LessBound, RhsTree, ExprRhs, CallRhs, AllocRhs}
use Rattle.tw_syntax.specs.Types.{WrittenTree, UnitType, UintType, BoolType, PairType, PtrType, NamedType}

-- whether two lists have the same length, and this test holds of each two items at one position
abbrev pub same_each : {A : Type 0} → (A → A → Bool) → List A → List A → Bool
same_each test [] [] = true
same_each test (x ∷ xs) (y ∷ ys) = test x y && same_each test xs ys
same_each test xs ys = false

-- whether both are absent, or both are there and this test holds of them
abbrev pub same_optional : {A : Type 0} → (A → A → Bool) → Option A → Option A → Bool
same_optional test None None = true
same_optional test (Some x) (Some y) = test x y
same_optional test x y = false

-- whether two names are equal but for their places
abbrev pub same_name : NameTree → NameTree → Bool
same_name x y = bytes_eq x.text y.text

-- whether two paths are equal but for their places
abbrev pub same_path : PathTree → PathTree → Bool
same_path x y = same_name x.root y.root && bytes_eq x.steps y.steps

-- whether two written types are equal but for their places
abbrev pub same_written : WrittenTree → WrittenTree → Bool
same_written (UnitType p) (UnitType q) = true
same_written (UintType p) (UintType q) = true
same_written (BoolType p) (BoolType q) = true
same_written (PairType p a b) (PairType q c d) = same_written a c && same_written b d
same_written (PtrType p a) (PtrType q b) = same_written a b
same_written (NamedType p a) (NamedType q b) = bytes_eq a b
same_written x y = false

-- whether two atoms are equal but for their places
abbrev pub same_atom : AtomTree → AtomTree → Bool
same_atom (PlaceAtom p x) (PlaceAtom q y) = same_path x y
same_atom (NumberAtom p x) (NumberAtom q y) = eqb x y
same_atom (TrueAtom p) (TrueAtom q) = true
same_atom (FalseAtom p) (FalseAtom q) = true
same_atom (UnitAtom p) (UnitAtom q) = true
same_atom (NullAtom p x) (NullAtom q y) = same_written x y
same_atom (ZeroAtom p x) (ZeroAtom q y) = same_written x y
same_atom x y = false

-- the number of an operator, in the order of declaration
abbrev pub op_number : OpKind → ℕ
op_number op.Add = 0
op_number op.Sub = 1
op_number op.Mul = 2
op_number op.Lt = 3
op_number op.Eq = 4
op_number op.Ne = 5
op_number op.And = 6
op_number op.Or = 7

-- whether two expressions are equal but for their places
abbrev pub same_expr : ExprTree → ExprTree → Bool
same_expr (OneExpr p a) (OneExpr q b) = same_atom a b
same_expr (TwoExpr p a b) (TwoExpr q c d) = same_atom a c && same_atom b d
same_expr (NotExpr p a) (NotExpr q b) = same_atom a b
same_expr (OpExpr p k a b) (OpExpr q l c d) = (eqb (op_number k) (op_number l) && same_atom a c) && same_atom b d
same_expr x y = false

-- whether two bounds are equal but for their places
abbrev pub same_bound : BoundTree → BoundTree → Bool
same_bound (FixedBound m) (FixedBound n) = eqb m n
same_bound (SameBound x) (SameBound y) = same_name x y
same_bound (LessBound x m) (LessBound y n) = same_name x y && eqb m n
same_bound x y = false

-- whether two right sides are equal but for their places
abbrev pub same_rhs : RhsTree → RhsTree → Bool
same_rhs (ExprRhs x) (ExprRhs y) = same_expr x y
same_rhs (CallRhs f m xs) (CallRhs g n ys) = (same_name f g && same_optional same_bound m n) && same_each same_name xs ys
same_rhs (AllocRhs x) (AllocRhs y) = same_written x y
same_rhs x y = false

-- whether two statements, lists of statements or `else`s are equal but for their places
abbrev pub same_stmt : StmtTree → StmtTree → Bool
same_stmt Nothing Nothing = true
same_stmt (Then x xs) (Then y ys) = same_stmt x y && same_stmt xs ys
same_stmt (Else p xs) (Else q ys) = same_stmt xs ys
same_stmt (LetStmt p f x r) (LetStmt q g y s) = (beq f g && same_name x y) && same_rhs r s
same_stmt (SwapStmt p a b) (SwapStmt q c d) = same_path a c && same_path b d
same_stmt (MemSwapStmt p a b) (MemSwapStmt q c d) = same_path a c && same_path b d
same_stmt (IfStmt p c xs vs) (IfStmt q d ys ws) = same_path c d && (same_stmt xs ys && same_stmt vs ws)
same_stmt (WithStmt p xs vs) (WithStmt q ys ws) = same_stmt xs ys && same_stmt vs ws
same_stmt (BlockStmt p xs) (BlockStmt q ys) = same_stmt xs ys
same_stmt (SkipStmt p) (SkipStmt q) = true
same_stmt x y = false

-- whether two parameters are equal but for their places
abbrev pub same_param : ParamTree → ParamTree → Bool
same_param x y = same_name x.name y.name && same_written x.ty y.ty

-- whether two aliases are equal but for their places
abbrev pub same_alias : AliasTree → AliasTree → Bool
same_alias x y = same_name x.name y.name && same_written x.body y.body

-- whether the name, bound, parameters and result of two functions are equal but for places
abbrev pub same_head : FunTree → FunTree → Bool
same_head x y = ((same_name x.name y.name && same_optional same_name x.bound y.bound) && same_each same_param x.params y.params) && same_written x.result y.result

-- whether two functions are equal but for their places
abbrev pub same_fun : FunTree → FunTree → Bool
same_fun x y = (same_head x y && same_stmt x.body y.body) && same_name x.returned y.returned

-- whether two declarations are equal but for their places
abbrev pub same_decl : DeclTree → DeclTree → Bool
same_decl (AliasDecl x) (AliasDecl y) = same_alias x y
same_decl (FunDecl x) (FunDecl y) = same_fun x y
same_decl x y = false

-- whether two programs are equal but for their places
abbrev pub same_program : ProgramTree → ProgramTree → Bool
same_program x y = same_each same_decl x.decls y.decls

pub same_written-places : same_written (PtrType (place 1 1) (UintType (place 1 5))) (PtrType (place 3 2) (UintType (place 4 1))) ≡ true
same_written-places = refl

pub same_written-other : same_written (UintType (place 1 1)) (BoolType (place 1 1)) ≡ false
same_written-other = refl

pub same_each-shorter : same_each same_bound (FixedBound 1 ∷ []) (FixedBound 1 ∷ FixedBound 2 ∷ []) ≡ false
same_each-shorter = refl

pub same_stmt-else : same_stmt (Else (place 1 1) Nothing) Nothing ≡ false
same_stmt-else = refl
