-- The values of atoms and expressions in a store.
use Rattle.std.specs.Prelude.{◌≡◌, ℕ, ◌&&◌, ◌||◌, not, Bool, true, false, Option, Some, None, option_map, option_and_then, refl}
use Rattle.std.proofs.Math.Bool.{beq}
use Rattle.tw_syntax.specs.declared.term.OpKind.{OpKind}
use Rattle.tw_syntax.specs.declared.term.OpKind.TheVariants as op
use Rattle.tw_syntax.specs.Terms.{AtomTree, PlaceAtom, NumberAtom, TrueAtom, FalseAtom, UnitAtom, NullAtom, ZeroAtom, ExprTree, OneExpr, TwoExpr, NotExpr, OpExpr}
use Rattle.tw_syntax.specs.Types.{WrittenTree}
use Rattle.tw_bits.specs.Operators.{sum_mod, difference_mod, product_mod, is_less, is_equal}
use Rattle.tw_types.specs.Types.{Widths, Pointer}
use Rattle.tw_types.specs.Values.{Value, UnitValue, Number, Truth, Address, PairValue, zero_value}
use Rattle.tw_resolve.specs.Setting.{Setting, type_of, pointee}
use Rattle.tw_state.specs.States.{Store}
use Rattle.tw_state.specs.Parts.{value_at}

-- whether two values are equal
abbrev pub same_value : Value → Value → Bool
same_value UnitValue UnitValue = true
same_value (Number m) (Number n) = is_equal m n
same_value (Truth is) (Truth other) = beq is other
same_value (Address block) (Address other) = is_equal block other
same_value (PairValue a b) (PairValue c d) = same_value a c && same_value b d
same_value x y = false

-- the zero of a written type
abbrev pub zero_of : Setting → WrittenTree → Option Value
zero_of setting ty = option_map zero_value (type_of setting ty)

-- the zero of the type that a target of pointers denotes, by the number of the target
abbrev pub zero_of_target : Setting → ℕ → Option Value
zero_of_target setting target = option_map zero_value (pointee setting (Some (Pointer target)))

-- the value of an atom, if the variable of a path has one
abbrev pub atom_value : Setting → Store → AtomTree → Option Value
atom_value setting store (PlaceAtom at path) = value_at store path
atom_value setting store (NumberAtom at number) = Some (Number number)
atom_value setting store (TrueAtom at) = Some (Truth true)
atom_value setting store (FalseAtom at) = Some (Truth false)
atom_value setting store (UnitAtom at) = Some UnitValue
atom_value setting store (NullAtom at to) = Some (Address 0)
atom_value setting store (ZeroAtom at ty) = zero_of setting ty

-- `not` of a truth value
abbrev pub negation : Value → Option Value
negation (Truth is) = Some (Truth (not is))
negation value = None

-- the result of an operator on two values of the types that it takes; numbers are modulo 2 to the width of a word
abbrev pub op_value : Widths → OpKind → Value → Value → Option Value
op_value widths op.Add (Number m) (Number n) = Some (Number (sum_mod widths.word m n))
op_value widths op.Sub (Number m) (Number n) = Some (Number (difference_mod widths.word m n))
op_value widths op.Mul (Number m) (Number n) = Some (Number (product_mod widths.word m n))
op_value widths op.Lt (Number m) (Number n) = Some (Truth (is_less m n))
op_value widths op.Eq x y = Some (Truth (same_value x y))
op_value widths op.Ne x y = Some (Truth (not (same_value x y)))
op_value widths op.And (Truth p) (Truth q) = Some (Truth (p && q))
op_value widths op.Or (Truth p) (Truth q) = Some (Truth (p || q))
op_value widths operator x y = None

-- a function of two values, if both are there
abbrev pub both : (Value → Value → Option Value) → Option Value → Option Value → Option Value
both f (Some x) (Some y) = f x y
both f x y = None

-- the value of an expression, if its variables have values of the right types
abbrev pub expr_value : Setting → Store → ExprTree → Option Value
expr_value setting store (OneExpr at x) = atom_value setting store x
expr_value setting store (TwoExpr at x y) = both (λ first second. Some (PairValue first second)) (atom_value setting store x) (atom_value setting store y)
expr_value setting store (NotExpr at x) = option_and_then negation (atom_value setting store x)
expr_value setting store (OpExpr at operator x y) = both (op_value setting.widths operator) (atom_value setting store x) (atom_value setting store y)

-- in words of 8 bits 255 + 1 is 0, and 1 - 2 is 255
pub sum_is_zero : op_value (record { word = 8; addr = 1 }) op.Add (Number 255) (Number 1) ≡ Some (Number 0)
sum_is_zero = refl

pub difference_is_255 : op_value (record { word = 8; addr = 1 }) op.Sub (Number 1) (Number 2) ≡ Some (Number 255)
difference_is_255 = refl

pub pairs_differ : op_value (record { word = 8; addr = 1 }) op.Eq (PairValue (Number 3) (Address 1)) (PairValue (Number 3) (Address 0)) ≡ Some (Truth false)
pairs_differ = refl
