-- Atoms, expressions and right sides without pointers.
use Rattle.std.specs.Prelude.{◌≡◌, ℕ, List, [], ◌∷◌, Option, Some, None, map, codes, refl}
use Rattle.std.specs.Option.{option_map}
use Rattle.tw_text.specs.declared.place.Pos.{Pos}
use Rattle.tw_syntax.specs.declared.term.Atom.{Atom}
use Rattle.tw_syntax.specs.declared.term.AtomKind.{AtomKind}
use Rattle.tw_syntax.specs.declared.term.AtomKind.TheVariants as atom
use Rattle.tw_syntax.specs.declared.term.Bound.{Bound}
use Rattle.tw_syntax.specs.declared.term.Bound.TheVariants as bounds
use Rattle.tw_syntax.specs.declared.term.Expr.{Expr}
use Rattle.tw_syntax.specs.declared.term.ExprKind.{ExprKind}
use Rattle.tw_syntax.specs.declared.term.ExprKind.TheVariants as expr
use Rattle.tw_syntax.specs.declared.term.OpKind.{OpKind}
use Rattle.tw_syntax.specs.declared.term.Rhs.{Rhs}
use Rattle.tw_syntax.specs.declared.term.Rhs.TheVariants as rhs
use Rattle.tw_syntax.specs.Examples.{lent, name, place}
use Rattle.tw_syntax.specs.Names.{NameTree, PathTree, name_tree, path_tree}
use Rattle.tw_syntax.specs.Types.{WrittenTree, written_tree}

-- an atom and its place
pub data AtomTree : Type 0 where
  PlaceAtom : (at : Pos) (path : PathTree) → AtomTree
  NumberAtom : (at : Pos) (number : ℕ) → AtomTree
  TrueAtom : (at : Pos) → AtomTree
  FalseAtom : (at : Pos) → AtomTree
  UnitAtom : (at : Pos) → AtomTree
  NullAtom : (at : Pos) (ty : WrittenTree) → AtomTree
  ZeroAtom : (at : Pos) (ty : WrittenTree) → AtomTree
  deriving IsSet as AtomTree-set

-- an expression and its place
pub data ExprTree : Type 0 where
  OneExpr : (at : Pos) (atom : AtomTree) → ExprTree
  TwoExpr : (at : Pos) (first second : AtomTree) → ExprTree
  NotExpr : (at : Pos) (atom : AtomTree) → ExprTree
  OpExpr : (at : Pos) (op : OpKind) (left right : AtomTree) → ExprTree
  deriving IsSet as ExprTree-set

-- the bound of a call
pub data BoundTree : Type 0 where
  FixedBound : (number : ℕ) → BoundTree
  SameBound : (name : NameTree) → BoundTree
  LessBound : (name : NameTree) (number : ℕ) → BoundTree
  deriving IsSet as BoundTree-set

-- the right side of a `let`
pub data RhsTree : Type 0 where
  ExprRhs : (expr : ExprTree) → RhsTree
  CallRhs : (callee : NameTree) (bound : Option BoundTree) (args : List NameTree) → RhsTree
  AllocRhs : (ty : WrittenTree) → RhsTree
  deriving IsSet as RhsTree-set

-- the tree of a form of atoms at a place
abbrev pub atom_kind_tree : Pos → AtomKind → AtomTree
atom_kind_tree at (atom.Place path) = PlaceAtom at (path_tree path)
atom_kind_tree at (atom.Number number) = NumberAtom at number
atom_kind_tree at atom.True = TrueAtom at
atom_kind_tree at atom.False = FalseAtom at
atom_kind_tree at atom.Unit = UnitAtom at
atom_kind_tree at (atom.Null ty) = NullAtom at (written_tree ty.now)
atom_kind_tree at (atom.Zero ty) = ZeroAtom at (written_tree ty.now)

-- the tree of an atom
abbrev pub atom_tree : Atom → AtomTree
atom_tree x = atom_kind_tree x.at x.kind

-- the tree of a form of expressions at a place
abbrev pub expr_kind_tree : Pos → ExprKind → ExprTree
expr_kind_tree at (expr.One x) = OneExpr at (atom_tree x)
expr_kind_tree at (expr.Two x y) = TwoExpr at (atom_tree x) (atom_tree y)
expr_kind_tree at (expr.Not x) = NotExpr at (atom_tree x)
expr_kind_tree at (expr.Op op x y) = OpExpr at op (atom_tree x) (atom_tree y)

-- the tree of an expression
abbrev pub expr_tree : Expr → ExprTree
expr_tree x = expr_kind_tree x.at x.kind

-- the tree of a bound
abbrev pub bound_tree : Bound → BoundTree
bound_tree (bounds.Fixed number) = FixedBound number
bound_tree (bounds.Same name) = SameBound (name_tree name)
bound_tree (bounds.Less name number) = LessBound (name_tree name) number

-- the tree of a right side
abbrev pub rhs_tree : Rhs → RhsTree
rhs_tree (rhs.Expr x) = ExprRhs (expr_tree x)
rhs_tree (rhs.Call callee bound args) = CallRhs (name_tree callee) (option_map bound_tree bound) (map name_tree args.now)
rhs_tree (rhs.Alloc ty) = AllocRhs (written_tree ty.now)

pub expr_tree-number : expr_tree (record { at = place 1 4; kind = expr.Not (record { at = place 1 8; kind = atom.Number 7 }) }) ≡ NotExpr (place 1 4) (NumberAtom (place 1 8) 7)
expr_tree-number = refl

pub rhs_tree-call : rhs_tree (rhs.Call (name (codes "f") (place 1 1)) (Some (bounds.Fixed 3)) (lent (name (codes "x") (place 1 6) ∷ [])))
    ≡ CallRhs (record { text = codes "f"; at = place 1 1 }) (Some (FixedBound 3)) (record { text = codes "x"; at = place 1 6 } ∷ [])
rhs_tree-call = refl

pub rhs_tree-unbound : rhs_tree (rhs.Call (name (codes "f") (place 1 1)) None (lent [])) ≡ CallRhs (record { text = codes "f"; at = place 1 1 }) None []
rhs_tree-unbound = refl
