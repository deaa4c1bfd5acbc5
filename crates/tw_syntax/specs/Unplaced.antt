-- Trees without places: one fixed place stands for every place.
use Rattle.std.specs.Prelude.{◌≡◌, ℕ, ◌+◌, true, [], ◌∷◌, None, map, codes, refl}
use Rattle.std.specs.Option.{option_map}
use Rattle.tw_text.specs.declared.place.Pos.{Pos}
use Rattle.tw_syntax.specs.Examples.{place}
use Rattle.tw_syntax.specs.Names.{NameTree, PathTree}
use Rattle.tw_syntax.specs.Programs.{ParamTree, FunTree, AliasTree, DeclTree, AliasDecl, FunDecl, ProgramTree}
use Rattle.tw_syntax.specs.Statements.{StmtTree, Nothing, Then, Else, LetStmt, SwapStmt, MemSwapStmt, IfStmt, WithStmt, BlockStmt, SkipStmt}
use Rattle.tw_syntax.specs.Terms.{AtomTree, PlaceAtom, NumberAtom, TrueAtom, FalseAtom, UnitAtom, NullAtom, ZeroAtom, ExprTree, OneExpr, TwoExpr, NotExpr, OpExpr, BoundTree, FixedBound, SameBound, LessBound, RhsTree, ExprRhs, CallRhs, AllocRhs}
use Rattle.tw_syntax.specs.Types.{WrittenTree, UnitType, UintType, BoolType, PairType, PtrType, NamedType}

-- the place that replaces every place; no text has it
abbrev pub no_place : Pos
no_place = record { line = 0; col = 0 }

-- a name without its places
abbrev pub unplaced_name : NameTree → NameTree
unplaced_name x = record { text = x.text; at = no_place }

-- a path without its places
abbrev pub unplaced_path : PathTree → PathTree
unplaced_path x = record { root = unplaced_name x.root; steps = x.steps }

-- a written type without its places
abbrev pub unplaced_written : WrittenTree → WrittenTree
unplaced_written (UnitType at) = UnitType no_place
unplaced_written (UintType at) = UintType no_place
unplaced_written (BoolType at) = BoolType no_place
unplaced_written (PairType at x y) = PairType no_place (unplaced_written x) (unplaced_written y)
unplaced_written (PtrType at x) = PtrType no_place (unplaced_written x)
unplaced_written (NamedType at name) = NamedType no_place name

-- an atom without its places
abbrev pub unplaced_atom : AtomTree → AtomTree
unplaced_atom (PlaceAtom at path) = PlaceAtom no_place (unplaced_path path)
unplaced_atom (NumberAtom at number) = NumberAtom no_place number
unplaced_atom (TrueAtom at) = TrueAtom no_place
unplaced_atom (FalseAtom at) = FalseAtom no_place
unplaced_atom (UnitAtom at) = UnitAtom no_place
unplaced_atom (NullAtom at ty) = NullAtom no_place (unplaced_written ty)
unplaced_atom (ZeroAtom at ty) = ZeroAtom no_place (unplaced_written ty)

-- an expression without its places
abbrev pub unplaced_expr : ExprTree → ExprTree
unplaced_expr (OneExpr at x) = OneExpr no_place (unplaced_atom x)
unplaced_expr (TwoExpr at x y) = TwoExpr no_place (unplaced_atom x) (unplaced_atom y)
unplaced_expr (NotExpr at x) = NotExpr no_place (unplaced_atom x)
unplaced_expr (OpExpr at op x y) = OpExpr no_place op (unplaced_atom x) (unplaced_atom y)

-- a bound without its places
abbrev pub unplaced_bound : BoundTree → BoundTree
unplaced_bound (FixedBound number) = FixedBound number
unplaced_bound (SameBound name) = SameBound (unplaced_name name)
unplaced_bound (LessBound name number) = LessBound (unplaced_name name) number

-- a right side without its places
abbrev pub unplaced_rhs : RhsTree → RhsTree
unplaced_rhs (ExprRhs x) = ExprRhs (unplaced_expr x)
unplaced_rhs (CallRhs callee bound args) = CallRhs (unplaced_name callee) (option_map unplaced_bound bound) (map unplaced_name args)
unplaced_rhs (AllocRhs ty) = AllocRhs (unplaced_written ty)

-- a statement, statements or an `else` without its places
abbrev pub unplaced_stmt : StmtTree → StmtTree
unplaced_stmt Nothing = Nothing
unplaced_stmt (Then x xs) = Then (unplaced_stmt x) (unplaced_stmt xs)
unplaced_stmt (Else at xs) = Else no_place (unplaced_stmt xs)
unplaced_stmt (LetStmt at forward target rhs) = LetStmt no_place forward (unplaced_name target) (unplaced_rhs rhs)
unplaced_stmt (SwapStmt at x y) = SwapStmt no_place (unplaced_path x) (unplaced_path y)
unplaced_stmt (MemSwapStmt at x y) = MemSwapStmt no_place (unplaced_path x) (unplaced_path y)
unplaced_stmt (IfStmt at cond xs ys) = IfStmt no_place (unplaced_path cond) (unplaced_stmt xs) (unplaced_stmt ys)
unplaced_stmt (WithStmt at xs ys) = WithStmt no_place (unplaced_stmt xs) (unplaced_stmt ys)
unplaced_stmt (BlockStmt at xs) = BlockStmt no_place (unplaced_stmt xs)
unplaced_stmt (SkipStmt at) = SkipStmt no_place

-- a parameter without its places
abbrev pub unplaced_param : ParamTree → ParamTree
unplaced_param x = record { name = unplaced_name x.name; ty = unplaced_written x.ty }

-- a function without its places
abbrev pub unplaced_fun : FunTree → FunTree
unplaced_fun x = record {
  name = unplaced_name x.name;
  bound = option_map unplaced_name x.bound;
  params = map unplaced_param x.params;
  result = unplaced_written x.result;
  body = unplaced_stmt x.body;
  return_at = no_place;
  returned = unplaced_name x.returned;
}

-- an alias without its places
abbrev pub unplaced_alias : AliasTree → AliasTree
unplaced_alias x = record { name = unplaced_name x.name; body = unplaced_written x.body }

-- a declaration without its places
abbrev pub unplaced_decl : DeclTree → DeclTree
unplaced_decl (AliasDecl x) = AliasDecl (unplaced_alias x)
unplaced_decl (FunDecl x) = FunDecl (unplaced_fun x)

-- a program without its places
abbrev pub unplaced_program : ProgramTree → ProgramTree
unplaced_program x = record { decls = map unplaced_decl x.decls }

-- the function `fun f(x: uint) -> uint { let y <- x; return y; }` that begins in this line; its statements are in the next two
abbrev small : ℕ → FunTree
small line = record {
  name = record { text = codes "f"; at = place line 5 };
  bound = None;
  params = record { name = record { text = codes "x"; at = place line 7 }; ty = UintType (place line 10) } ∷ [];
  result = UintType (place line 19);
  body = Then (LetStmt (place (line + 1) 5) true (record { text = codes "y"; at = place (line + 1) 9 }) (ExprRhs (OneExpr (place (line + 1) 14) (PlaceAtom (place (line + 1) 14) (record { root = record { text = codes "x"; at = place (line + 1) 14 }; steps = [] }))))) Nothing;
  return_at = place (line + 2) 5;
  returned = record { text = codes "y"; at = place (line + 2) 12 };
}

pub unplaced_fun-small : unplaced_fun (small 1) ≡ record {
  name = record { text = codes "f"; at = no_place };
  bound = None;
  params = record { name = record { text = codes "x"; at = no_place }; ty = UintType no_place } ∷ [];
  result = UintType no_place;
  body = Then (LetStmt no_place true (record { text = codes "y"; at = no_place }) (ExprRhs (OneExpr no_place (PlaceAtom no_place (record { root = record { text = codes "x"; at = no_place }; steps = [] }))))) Nothing;
  return_at = no_place;
  returned = record { text = codes "y"; at = no_place };
}
unplaced_fun-small = refl

pub unplaced_fun-elsewhere : unplaced_fun (small 1) ≡ unplaced_fun (small 8)
unplaced_fun-elsewhere = refl
