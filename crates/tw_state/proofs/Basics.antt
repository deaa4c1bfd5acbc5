-- Laws of optional values and of tests of names.
use Rattle.std.proofs.Common.{◌≡◌, ◌∙◌, refl, sym, ap, Bool, true, false, Option, Some, None, unwrap_or, bytes_eq}
use Rattle.std.proofs.lemmas.Option.{none-some}
use Rattle.std.proofs.lemmas.Bool.{true≢false}
use Rattle.std.proofs.lemmas.Slice.Eq.{bytes_eq-Decides}
use Rattle.tw_state.specs.States.{Name}

pub some_value : {A : Type 0} {x y : A} → Some x ≡ Some y → x ≡ y
some_value {A} {x} {y} same = ap (λ o. unwrap_or o x) same

-- two values of one optional value are equal
pub same_some : {A : Type 0} {o : Option A} {x y : A} → o ≡ Some x → o ≡ Some y → x ≡ y
same_some {A} {o} {x} {y} p q = some_value (sym p ∙ q)

pub not_both : {A : Type 0} {P : Type 0} {o : Option A} {x : A} → o ≡ None → o ≡ Some x → P
not_both {A} {P} {o} {x} p q = absurd (none-some x (sym p ∙ q))

-- cases on a test, with the equation
pub by_test : {P : Type 0} (test : Bool) → (test ≡ true → P) → (test ≡ false → P) → P
by_test true holds fails = holds refl
by_test false holds fails = fails refl

pub by_option : {A : Type 0} {P : Type 0} (o : Option A) → (o ≡ None → P) → ((x : A) → o ≡ Some x → P) → P
by_option None absent present = absent refl
by_option (Some x) absent present = present x refl

-- names that pass the test are equal, and equal names pass it
pub same_name : (x y : Name) → bytes_eq x y ≡ true → x ≡ y
same_name x y test = (bytes_eq-Decides x y).0 test

pub name_test : (x : Name) → bytes_eq x x ≡ true
name_test x = (bytes_eq-Decides x x).1 refl

pub contradiction : {P : Type 0} {test : Bool} → test ≡ true → test ≡ false → P
contradiction p q = absurd (true≢false (sym p ∙ q))
