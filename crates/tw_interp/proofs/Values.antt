-- Laws of values that are found if they are defined.
use Rattle.std.proofs.Common.{◌≡◌, ◌∙◌, ap, ap₂, sym, subst, refl, Option, Some, None, option_and_then, option_map}
use Rattle.std.proofs.lemmas.Option.{none-some}
use Rattle.tw_types.specs.declared.values.Val.{Val}
use Rattle.tw_types.specs.FromCode.{value_of}
use Rattle.tw_types.specs.Values.{Value}
use Rattle.tw_state.specs.Evaluation.{both}
use Rattle.tw_state.proofs.Basics.{not_both, some_value}
use Rattle.tw_interp.specs.Answers.{Finds, FindsBoth}

-- the values of two that were found
abbrev pub values_of : Val × Val → Value × Value
values_of vals = (value_of vals.0, value_of vals.1)

-- the value of a function of what was found
pub both_found : (f : Value → Value → Option Value) (a b : Option Value) (x y : Value) → FindsBoth a b (Some (x, y)) → (v : Value) → both f a b ≡ Some v → f x y ≡ Some v
both_found f None b x y finds v is = absurd (none-some v is)
both_found f (Some p) None x y finds v is = absurd (none-some v is)
both_found f (Some p) (Some q) x y finds v is =
    let same = some_value (finds p q refl refl) in
    ap (λ (vals : Value × Value). f vals.0 vals.1) same ∙ is

pub both_none : {P : Type 0} (f : Value → Value → Option Value) (a b : Option Value) (found : Option (Val × Val)) → found ≡ None → FindsBoth a b (option_map values_of found) → (v : Value) → both f a b ≡ Some v → P
both_none f None b found none finds v is = absurd (none-some v is)
both_none f (Some p) None found none finds v is = absurd (none-some v is)
both_none f (Some p) (Some q) found none finds v is = not_both (ap (option_map values_of) none) (finds p q refl refl)

pub one_found : (f : Value → Option Value) (o : Option Value) (x : Value) → Finds o (Some x) → (v : Value) → option_and_then f o ≡ Some v → f x ≡ Some v
one_found f None x finds v is = absurd (none-some v is)
one_found f (Some p) x finds v is = ap f (some_value (finds p refl)) ∙ is

pub one_none : {P : Type 0} (f : Value → Option Value) (o : Option Value) (found : Option Val) → found ≡ None → Finds o (option_map value_of found) → (v : Value) → option_and_then f o ≡ Some v → P
one_none f None found none finds v is = absurd (none-some v is)
one_none f (Some p) found none finds v is = not_both (ap (option_map value_of) none) (finds p refl)

pub both_as : {first second : Option Value} (found : Option (Val × Val)) (left right : Val) → found ≡ Some (left, right) → FindsBoth first second (option_map values_of found) → FindsBoth first second (Some (value_of left, value_of right))
both_as {first} {second} found left right is finds = subst (λ (o : Option (Val × Val)). FindsBoth first second (option_map values_of o)) is finds

-- what was found, if it is known
pub found_as : {defined : Option Value} (found : Option Val) (val : Val) → found ≡ Some val → Finds defined (option_map value_of found) → Finds defined (Some (value_of val))
found_as {defined} found val is finds = subst (λ (o : Option Val). Finds defined (option_map value_of o)) is finds

-- values of two operands
pub none_first : {first second : Option Value} (found : Option Val) → found ≡ None → Finds first (option_map value_of found) → FindsBoth first second None
none_first found none finds x y p q = absurd (none-some x (sym (ap (option_map value_of) none) ∙ finds x p))

pub none_second : {first second : Option Value} (found : Option Val) → found ≡ None → Finds second (option_map value_of found) → FindsBoth first second None
none_second found none finds x y p q = absurd (none-some y (sym (ap (option_map value_of) none) ∙ finds y q))

pub both_are : {first second : Option Value} {v w : Value} → Finds first (Some v) → Finds second (Some w) → FindsBoth first second (Some (v, w))
both_are finds other x y p q = ap₂ (λ v w. Some (v, w)) (some_value (finds x p)) (some_value (other y q))
