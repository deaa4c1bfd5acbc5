-- The types and values of the code, without pointers.
use denote.Bor.{Bor}
use Rattle.std.specs.Prelude.{◌≡◌, ℕ, true, List, map, refl}
use Rattle.tw_types.specs.declared.types.Ty as ty
use Rattle.tw_types.specs.declared.values.Val as val
use Rattle.tw_types.specs.Types.{Ty, UnitTy, Word, Boolean, Pointer, PairTy, Target}
use Rattle.tw_types.specs.Values.{Value, UnitValue, Number, Truth, Address, PairValue}

-- the type that a type of the code is
abbrev pub ty_of : ty.Ty → Ty
ty_of ty.Unit = UnitTy
ty_of ty.Uint = Word
ty_of ty.Bool = Boolean
ty_of (ty.Ptr target) = Pointer target.0
ty_of (ty.Pair' p first q second) = PairTy (ty_of first) (ty_of second)

-- the value that a value of the code is
abbrev pub value_of : val.Val → Value
value_of val.Unit = UnitValue
value_of (val.U n) = Number n
value_of (val.B is) = Truth is
value_of (val.Ptr block) = Address block
value_of (val.Pair' p x q y) = PairValue (value_of x) (value_of y)

-- the targets that the entries of a table are
abbrev pub target_of : Bor (List ℕ) × ty.Ty → Target
target_of entry = record { written = entry.0.now; ty = ty_of entry.1 }

abbrev pub targets_of : List (Bor (List ℕ) × ty.Ty) → List Target
targets_of entries = map target_of entries

pub ty_of-pointer : ty_of (ty.Ptr (record { 0 = 3 })) ≡ Pointer 3
ty_of-pointer = refl

pub value_of-truth : value_of (val.B true) ≡ Truth true
value_of-truth = refl

pub target_of-bool : (text : Bor (List ℕ)) → target_of (text, ty.Bool) ≡ record { written = text.now; ty = Boolean }
target_of-bool text = refl
