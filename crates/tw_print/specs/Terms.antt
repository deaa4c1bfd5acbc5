-- The printed form of types, paths, expressions and right sides.
use Rattle.std.specs.Prelude.{◌≡◌, ℕ, List, [], ◌∷◌, ◌++◌, Option, Some, None, codes, decimal, refl}
use Rattle.std.specs.Fmt.{digits}
use Rattle.tw_text.specs.declared.place.Pos.{Pos}
use Rattle.tw_syntax.specs.declared.term.OpKind.{OpKind}
use Rattle.tw_syntax.specs.declared.term.OpKind.TheVariants as op
use Rattle.tw_syntax.specs.Names.{NameTree, PathTree}
pub use Rattle.tw_syntax.specs.Types.{type_print}
use Rattle.tw_syntax.specs.Terms.{AtomTree, PlaceAtom, NumberAtom, TrueAtom, FalseAtom, UnitAtom, NullAtom, ZeroAtom, ExprTree, OneExpr, TwoExpr, NotExpr, OpExpr, BoundTree, FixedBound, SameBound, LessBound, RhsTree, ExprRhs, CallRhs, AllocRhs}

-- the steps of a path
abbrev pub steps_print : List ℕ → List ℕ
steps_print [] = []
steps_print (step ∷ steps) = codes "." ++ (decimal step ++ steps_print steps)

abbrev pub path_print : PathTree → List ℕ
path_print path = path.root.text ++ steps_print path.steps

-- an operand
abbrev pub atom_print : AtomTree → List ℕ
atom_print (PlaceAtom at path) = path_print path
atom_print (NumberAtom at number) = decimal number
atom_print (TrueAtom at) = codes "true"
atom_print (FalseAtom at) = codes "false"
atom_print (UnitAtom at) = codes "()"
atom_print (NullAtom at ty) = codes "null<" ++ (type_print ty ++ codes ">")
atom_print (ZeroAtom at ty) = codes "default<" ++ (type_print ty ++ codes ">")

-- an operator
abbrev pub op_print : OpKind → List ℕ
op_print op.Add = codes "+"
op_print op.Sub = codes "-"
op_print op.Mul = codes "*"
op_print op.Lt = codes "<"
op_print op.Eq = codes "=="
op_print op.Ne = codes "!="
op_print op.And = codes "&&"
op_print op.Or = codes "||"

-- an expression
abbrev pub expr_print : ExprTree → List ℕ
expr_print (OneExpr at atom) = atom_print atom
expr_print (TwoExpr at first second) = codes "(" ++ (atom_print first ++ (codes ", " ++ (atom_print second ++ codes ")")))
expr_print (NotExpr at atom) = codes "not " ++ atom_print atom
expr_print (OpExpr at operator left right) = atom_print left ++ (codes " " ++ (op_print operator ++ (codes " " ++ atom_print right)))

-- the bound of a call
abbrev pub bound_print : BoundTree → List ℕ
bound_print (FixedBound number) = decimal number
bound_print (SameBound name) = name.text
bound_print (LessBound name number) = name.text ++ (codes " - " ++ decimal number)

-- the bound in brackets, if there is one
abbrev pub call_bound_print : Option BoundTree → List ℕ
call_bound_print None = []
call_bound_print (Some bound) = codes "[" ++ (bound_print bound ++ codes "]")

-- the names after the first, each preceded by a comma
abbrev pub more_names_print : List NameTree → List ℕ
more_names_print [] = []
more_names_print (name ∷ names) = codes ", " ++ (name.text ++ more_names_print names)

abbrev pub names_print : List NameTree → List ℕ
names_print [] = []
names_print (name ∷ names) = name.text ++ more_names_print names

-- a right side
abbrev pub rhs_print : RhsTree → List ℕ
rhs_print (ExprRhs expr) = expr_print expr
rhs_print (CallRhs callee bound args) = callee.text ++ (call_bound_print bound ++ (codes "(" ++ (names_print args ++ codes ")")))
rhs_print (AllocRhs ty) = codes "alloc<" ++ (type_print ty ++ codes ">")

pub expr_print-path : (at : Pos) → expr_print (NotExpr at (PlaceAtom at (record { root = record { text = codes "p"; at = at }; steps = 1 ∷ 2 ∷ [] }))) ≡ codes "not p.1.2"
unfolding digits
expr_print-path at = refl

pub rhs_print-call : (at : Pos) → rhs_print (CallRhs (record { text = codes "f"; at = at }) (Some (LessBound (record { text = codes "n"; at = at }) 1)) (record { text = codes "x"; at = at } ∷ record { text = codes "y"; at = at } ∷ [])) ≡ codes "f[n - 1](x, y)"
unfolding digits
rhs_print-call at = refl
