-- Facts about the code of an entry that have one proof, so that they follow from facts whose proofs are hidden.
use Rattle.std.proofs.Common.{◌≡◌, ◌≢◌, ◌<◌, ℕ, List, [], ◌∷◌, Option, Some, None, IfSome, refl}
use Rattle.std.specs.List.{AllByRecursion}
use Rattle.std.proofs.Math.Bool.{Bool-set}
use Rattle.std.proofs.Math.Bridge.{le_prop}
use Rattle.std.proofs.Math.Nat.{ℕ_set}
use mathlib.Core.List as lists
use Rattle.tw_syntax.specs.declared.term.OpKind.TheVariants as op
use Rattle.tw_syntax.specs.Programs.{FunTree}
use Rattle.tw_syntax.specs.Statements.{StmtTree, Nothing, Then, Else, LetStmt, SwapStmt, MemSwapStmt, IfStmt, WithStmt, BlockStmt, SkipStmt}
use Rattle.tw_syntax.specs.Terms.{ExprTree, OneExpr, TwoExpr, OpExpr, RhsTree, ExprRhs}
use Rattle.tw_code.specs.Trees.{CodeTree, FlipCode, IfCode, WithCode, ConjCode}
use Rattle.tw_code.specs.Trees as trees
use Rattle.tw_code.specs.Wires.{EachWire, AreDistinct, IsProperCode}
use Rattle.tw_resolve.specs.Setting.{Setting}
use Rattle.tw_arith.specs.Operands.{PlainOperand, Wires, Fixed, HasWidth}
use Rattle.tw_arith.specs.Xors.{Regions, AreApart}
use Rattle.tw_frames.specs.declared.regions.WireLayout.{WireLayout}
use Rattle.tw_frames.specs.Frames.{Frame}
use Rattle.tw_lower.specs.Operands.{expr_regions, AreUsable}
use Rattle.tw_lower.specs.Lowering.{IsBuiltExpr, CanLowerRhs, CanLower}
use Rattle.tw_lower.specs.Simulation.{Simulates}
use Rattle.tw_lower.proofs.SimulatedEntry.{IsEntryCode}

never_twice : (p q : ⊥) → p ≡ q
never_twice p q = absurd p

differ_prop : (m n : ℕ) → IsProp (m ≢ n)
differ_prop m n x y = λ i same. never_twice (x same) (y same) i

all_prop : (P : ℕ → Type 0) → ((n : ℕ) → IsProp (P n)) → (ns : List ℕ) → IsProp (AllByRecursion P ns)
all_prop P prop [] x y = refl
all_prop P prop (n ∷ ns) x y = λ i. (prop n x.0 y.0 i, all_prop P prop ns x.1 y.1 i)

-- a property of the wires of a code
each_prop : (P : ℕ → Type 0) → ((n : ℕ) → IsProp (P n)) → (code : CodeTree) → IsProp (EachWire P code)
each_prop P prop trees.Nothing x y = refl
each_prop P prop (trees.Then first rest) x y = λ i. (each_prop P prop first x.0 y.0 i, each_prop P prop rest x.1 y.1 i)
each_prop P prop (FlipCode controls target) x y = λ i. (all_prop P prop controls x.0 y.0 i, prop target x.1 y.1 i)
each_prop P prop (IfCode wire body) x y = λ i. (prop wire x.0 y.0 i, each_prop P prop body x.1 y.1 i)
each_prop P prop (WithCode setup work) x y = λ i. (each_prop P prop setup x.0 y.0 i, each_prop P prop work x.1 y.1 i)
each_prop P prop (ConjCode setup work) x y = λ i. (each_prop P prop setup x.0 y.0 i, each_prop P prop work x.1 y.1 i)

distinct_prop : (wires : List ℕ) → IsProp (AreDistinct wires)
distinct_prop [] x y = refl
distinct_prop (wire ∷ wires) x y = λ i. (all_prop (λ n. wire ≢ n) (differ_prop wire) wires x.0 y.0 i, distinct_prop wires x.1 y.1 i)

proper_prop : (code : CodeTree) → IsProp (IsProperCode code)
proper_prop trees.Nothing x y = refl
proper_prop (trees.Then first rest) x y = λ i. (proper_prop first x.0 y.0 i, proper_prop rest x.1 y.1 i)
proper_prop (FlipCode controls target) x y = distinct_prop (target ∷ controls) x y
proper_prop (IfCode wire body) x y = λ i. (each_prop (λ n. wire ≢ n) (differ_prop wire) body x.0 y.0 i, proper_prop body x.1 y.1 i)
proper_prop (WithCode setup work) x y = λ i. (proper_prop setup x.0 y.0 i, proper_prop work x.1 y.1 i)
proper_prop (ConjCode setup work) x y = λ i. (proper_prop setup x.0 y.0 i, proper_prop work x.1 y.1 i)

simulates_prop : (setting : Setting) (fun : FunTree) (bound : Option ℕ) (wires : ℕ) (code : CodeTree) → IsProp (Simulates setting fun bound wires code)
simulates_prop setting fun bound wires code x y = λ i. record {
  at_start = λ start end has. ℕ_set _ _ (x.at_start start end has) (y.at_start start end has) i;
  at_end = λ start end has. ℕ_set _ _ (x.at_end start end has) (y.at_end start end has) i;
  takes = λ start end has. lists.is_set Bool-set _ _ (x.takes start end has) (y.takes start end has) i;
  undoes = λ start end has. lists.is_set Bool-set _ _ (x.undoes start end has) (y.undoes start end has) i;
}

-- that this is the code of an entry
pub entry_code_prop : (setting : Setting) (layout : WireLayout) (fun : FunTree) (bound : Option ℕ) (code : CodeTree) → IsProp (IsEntryCode setting layout fun bound code)
entry_code_prop setting layout fun bound code x y = λ i. record {
  simulates = simulates_prop setting fun bound layout.wires code x.simulates y.simulates i;
  proper = proper_prop code x.proper y.proper i;
  below = each_prop (λ wire. wire < layout.flags) (λ wire p q. le_prop p q) code x.below y.below i;
}

width_prop : (x : PlainOperand) (width : ℕ) → IsProp (HasWidth x width)
width_prop (Wires from) width p q = le_prop p q
width_prop (Fixed bits) width p q = ℕ_set _ _ p q

apart_prop : (at : Regions) → IsProp (AreApart at)
apart_prop at x y = λ i. record {
  x_out = λ wire p q. never_twice (x.x_out wire p q) (y.x_out wire p q) i;
  y_out = λ wire p q. never_twice (x.y_out wire p q) (y.y_out wire p q) i;
  x_scratch = λ wire p q. never_twice (x.x_scratch wire p q) (y.x_scratch wire p q) i;
  y_scratch = λ wire p q. never_twice (x.y_scratch wire p q) (y.y_scratch wire p q) i;
  out_scratch = λ wire p q. never_twice (x.out_scratch wire p q) (y.out_scratch wire p q) i;
}

usable_prop : (at : Regions) → IsProp (AreUsable at)
usable_prop at x y = λ i. record {
  x = width_prop at.x at.left x.x y.x i;
  y = width_prop at.y at.right x.y y.y i;
  out = le_prop x.out y.out i;
  scratch = le_prop x.scratch y.scratch i;
  apart = apart_prop at x.apart y.apart i;
}

regions_prop : (found : Option Regions) → IsProp (IfSome found AreUsable)
regions_prop None x y = refl
regions_prop (Some at) x y = usable_prop at x y

built_prop : (expr : ExprTree) → IsProp (IsBuiltExpr expr)
built_prop (OneExpr at x) p q = refl
built_prop (TwoExpr at x y) p q = refl
built_prop (OpExpr at op.And x y) p q = refl
built_prop other p q = absurd p

rhs_prop : (setting : Setting) (layout : WireLayout) (frame : Frame) (out : ℕ) (rhs : RhsTree) → IsProp (CanLowerRhs setting layout frame out rhs)
rhs_prop setting layout frame out (ExprRhs expr) x y = λ i. (regions_prop (expr_regions setting frame layout.scratch out expr) x.0 y.0 i, built_prop expr x.1 y.1 i)
rhs_prop setting layout frame out other x y = absurd x

-- that a statement can be lowered
pub can_lower_prop : (setting : Setting) (layout : WireLayout) (frame : Frame) (s : StmtTree) → IsProp (CanLower setting layout frame s)
can_lower_prop setting layout frame Nothing x y = refl
can_lower_prop setting layout frame (Then first rest) x y = λ i. (can_lower_prop setting layout frame first x.0 y.0 i, can_lower_prop setting layout frame rest x.1 y.1 i)
can_lower_prop setting layout frame (Else at stmts) x y = can_lower_prop setting layout frame stmts x y
can_lower_prop setting layout frame (LetStmt at forward target rhs) x y = rhs_prop setting layout frame (frame.wire target.text) rhs x y
can_lower_prop setting layout frame (SwapStmt at left right) x y = absurd x
can_lower_prop setting layout frame (MemSwapStmt at pointer value) x y = absurd x
can_lower_prop setting layout frame (IfStmt at cond first other) x y = λ i. (can_lower_prop setting layout frame first x.0 y.0 i, can_lower_prop setting layout frame other x.1 y.1 i)
can_lower_prop setting layout frame (WithStmt at setup work) x y = λ i. (can_lower_prop setting layout frame setup x.0 y.0 i, can_lower_prop setting layout frame work x.1 y.1 i)
can_lower_prop setting layout frame (BlockStmt at body) x y = can_lower_prop setting layout frame body x y
can_lower_prop setting layout frame (SkipStmt at) x y = refl
