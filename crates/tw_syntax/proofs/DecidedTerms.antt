-- The tests of atoms, expressions and right sides decide equality without places.
use Rattle.std.proofs.Common.{◌≡◌, refl, Decides, eqb}
use Rattle.std.proofs.lemmas.Bool.Decides.{Decides-eqb}
use Rattle.tw_syntax.specs.declared.term.OpKind.{OpKind}
use Rattle.tw_syntax.specs.declared.term.OpKind.TheVariants as op
use Rattle.tw_syntax.specs.Terms.{AtomTree, PlaceAtom, NumberAtom, TrueAtom, FalseAtom, UnitAtom, NullAtom, ZeroAtom, ExprTree, OneExpr, TwoExpr, NotExpr, OpExpr, BoundTree, FixedBound, SameBound, LessBound, RhsTree, ExprRhs, CallRhs, AllocRhs}
use Rattle.tw_syntax.specs.Same.{op_number, same_atom, same_bound, same_expr, same_name, same_rhs}
use Rattle.tw_syntax.specs.Unplaced.{unplaced_atom, unplaced_bound, unplaced_expr, unplaced_name, unplaced_rhs}
use Rattle.tw_syntax.proofs.Deciding.{one, two, three, always, never, each_decides, optional_decides}
use Rattle.tw_syntax.proofs.DecidedTypes.{name_decides, path_decides, written_decides}

pub atom_decides : (x y : AtomTree) → Decides (same_atom x y) (unplaced_atom x ≡ unplaced_atom y)
atom_decides (PlaceAtom p x) (PlaceAtom q y) = one (path_decides x y) (λ e. cc) (λ e. cc)
atom_decides (NumberAtom p m) (NumberAtom q n) = one (Decides-eqb m n) (λ e. cc) (λ e. cc)
atom_decides (TrueAtom p) (TrueAtom q) = always refl
atom_decides (FalseAtom p) (FalseAtom q) = always refl
atom_decides (UnitAtom p) (UnitAtom q) = always refl
atom_decides (NullAtom p x) (NullAtom q y) = one (written_decides x y) (λ e. cc) (λ e. cc)
atom_decides (ZeroAtom p x) (ZeroAtom q y) = one (written_decides x y) (λ e. cc) (λ e. cc)
atom_decides x y = never (λ e. cc)

op_decides : (x y : OpKind) → Decides (eqb (op_number x) (op_number y)) (x ≡ y)
op_decides op.Add op.Add = always refl
op_decides op.Sub op.Sub = always refl
op_decides op.Mul op.Mul = always refl
op_decides op.Lt op.Lt = always refl
op_decides op.Eq op.Eq = always refl
op_decides op.Ne op.Ne = always refl
op_decides op.And op.And = always refl
op_decides op.Or op.Or = always refl
op_decides x y = never (λ e. cc)

pub expr_decides : (x y : ExprTree) → Decides (same_expr x y) (unplaced_expr x ≡ unplaced_expr y)
expr_decides (OneExpr p a) (OneExpr q b) = one (atom_decides a b) (λ e. cc) (λ e. cc)
expr_decides (TwoExpr p a b) (TwoExpr q c d) = two (atom_decides a c) (atom_decides b d) (λ e f. cc) (λ e. cc) (λ e. cc)
expr_decides (NotExpr p a) (NotExpr q b) = one (atom_decides a b) (λ e. cc) (λ e. cc)
expr_decides (OpExpr p k a b) (OpExpr q l c d) =
    three (op_decides k l) (atom_decides a c) (atom_decides b d) (λ e f g. cc) (λ e. cc) (λ e. cc) (λ e. cc)
expr_decides x y = never (λ e. cc)

bound_decides : (x y : BoundTree) → Decides (same_bound x y) (unplaced_bound x ≡ unplaced_bound y)
bound_decides (FixedBound m) (FixedBound n) = one (Decides-eqb m n) (λ e. cc) (λ e. cc)
bound_decides (SameBound x) (SameBound y) = one (name_decides x y) (λ e. cc) (λ e. cc)
bound_decides (LessBound x m) (LessBound y n) = two (name_decides x y) (Decides-eqb m n) (λ e f. cc) (λ e. cc) (λ e. cc)
bound_decides x y = never (λ e. cc)

pub rhs_decides : (x y : RhsTree) → Decides (same_rhs x y) (unplaced_rhs x ≡ unplaced_rhs y)
rhs_decides (ExprRhs x) (ExprRhs y) = one (expr_decides x y) (λ e. cc) (λ e. cc)
rhs_decides (CallRhs f m xs) (CallRhs g n ys) =
    three (name_decides f g) (optional_decides same_bound unplaced_bound bound_decides m n) (each_decides same_name unplaced_name name_decides xs ys) (λ e h i. cc) (λ e. cc) (λ e. cc) (λ e. cc)
rhs_decides (AllocRhs x) (AllocRhs y) = one (written_decides x y) (λ e. cc) (λ e. cc)
rhs_decides x y = never (λ e. cc)
