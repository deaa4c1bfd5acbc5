-- Laws of parts of values and of stores.
use Rattle.std.proofs.Common.{◌≡◌, ◌∙◌, refl, sym, ap, ap₂, subst, ℕ, zero, suc, Bool, true, false, ◌&&◌, ◌||◌, if◌then◌else◌, List, [], ◌∷◌, Option, Some, None, option_map, option_and_then, bytes_eq}
use Rattle.std.proofs.Math.Path.{fun_ext}
use Rattle.std.proofs.lemmas.Option.{none-some}
use Rattle.std.proofs.lemmas.Bool.{or_parts}
use Rattle.tw_syntax.specs.Names.{PathTree}
use Rattle.tw_types.specs.Values.{Value, UnitValue, Number, Truth, Address, PairValue}
use Rattle.tw_check.specs.Right.{is_prefix, overlap}
use Rattle.tw_resolve.proofs.Texts.{bytes_eq-sym}
use Rattle.tw_state.specs.States.{Name, Store}
use Rattle.tw_state.specs.Parts.{part_of, with_part, value_at, with_value_at}
use Rattle.tw_state.proofs.Basics.{some_value, same_some, by_test, same_name, name_test, contradiction}

-- the steps lead to this part of the value
pub data IsPart : List ℕ → Value → Value → Type 0 where
  Whole : {value : Value} → IsPart [] value value
  First : {steps : List ℕ} {x y part : Value} → IsPart steps x part → IsPart (suc zero ∷ steps) (PairValue x y) part
  Second : {steps : List ℕ} {x y part : Value} → IsPart steps y part → IsPart (suc (suc zero) ∷ steps) (PairValue x y) part

pub is_part : (steps : List ℕ) (value part : Value) → part_of steps value ≡ Some part → IsPart steps value part
is_part [] value part found = subst (IsPart [] value) (some_value found) Whole
is_part (zero ∷ steps) value part found = absurd (none-some part found)
is_part (suc zero ∷ steps) (PairValue x y) part found = First (is_part steps x part found)
is_part (suc zero ∷ steps) UnitValue part found = absurd (none-some part found)
is_part (suc zero ∷ steps) (Number n) part found = absurd (none-some part found)
is_part (suc zero ∷ steps) (Truth is) part found = absurd (none-some part found)
is_part (suc zero ∷ steps) (Address block) part found = absurd (none-some part found)
is_part (suc (suc zero) ∷ steps) (PairValue x y) part found = Second (is_part steps y part found)
is_part (suc (suc zero) ∷ steps) UnitValue part found = absurd (none-some part found)
is_part (suc (suc zero) ∷ steps) (Number n) part found = absurd (none-some part found)
is_part (suc (suc zero) ∷ steps) (Truth is) part found = absurd (none-some part found)
is_part (suc (suc zero) ∷ steps) (Address block) part found = absurd (none-some part found)
is_part (suc (suc (suc n)) ∷ steps) value part found = absurd (none-some part found)

part_there : {steps : List ℕ} {value part : Value} → IsPart steps value part → part_of steps value ≡ Some part
part_there Whole = refl
part_there (First p) = part_there p
part_there (Second p) = part_there p

-- the part that was put there is there
part_put : {steps : List ℕ} {value old : Value} → IsPart steps value old → (new : Value) → part_of steps (with_part steps value new) ≡ Some new
part_put Whole new = refl
part_put (First p) new = part_put p new
part_put (Second p) new = part_put p new

-- the later of two parts stays
part_twice : {steps : List ℕ} {value old : Value} → IsPart steps value old → (x y : Value) → with_part steps (with_part steps value x) y ≡ with_part steps value y
part_twice Whole x y = refl
part_twice (First {y = other} p) x y = ap (λ part. PairValue part other) (part_twice p x y)
part_twice (Second {x = other} p) x y = ap (PairValue other) (part_twice p x y)

-- the part that is there changes nothing
part_back : {steps : List ℕ} {value old : Value} → IsPart steps value old → with_part steps value old ≡ value
part_back Whole = refl
part_back (First {y = other} p) = ap (λ part. PairValue part other) (part_back p)
part_back (Second {x = other} p) = ap (PairValue other) (part_back p)

-- a part that does not overlap stays
part_other : {steps others : List ℕ} {value x y : Value} → IsPart steps value x → IsPart others value y
    → is_prefix steps others ≡ false → is_prefix others steps ≡ false → (new : Value) → part_of others (with_part steps value new) ≡ Some y
part_other Whole q apart back new = contradiction refl apart
part_other (First p) Whole apart back new = contradiction refl back
part_other (First p) (First q) apart back new = part_other p q apart back new
part_other (First p) (Second q) apart back new = part_there q
part_other (Second p) Whole apart back new = contradiction refl back
part_other (Second p) (First q) apart back new = part_there q
part_other (Second p) (Second q) apart back new = part_other p q apart back new

-- parts that do not overlap are put there in any order
parts_swap : {steps others : List ℕ} {value x y : Value} → IsPart steps value x → IsPart others value y
    → is_prefix steps others ≡ false → is_prefix others steps ≡ false → (a b : Value)
    → with_part others (with_part steps value a) b ≡ with_part steps (with_part others value b) a
parts_swap Whole q apart back a b = contradiction refl apart
parts_swap (First p) Whole apart back a b = contradiction refl back
parts_swap (First {y = other} p) (First q) apart back a b = ap (λ part. PairValue part other) (parts_swap p q apart back a b)
parts_swap (First p) (Second q) apart back a b = refl
parts_swap (Second p) Whole apart back a b = contradiction refl back
parts_swap (Second p) (First q) apart back a b = refl
parts_swap (Second {x = other} p) (Second q) apart back a b = ap (PairValue other) (parts_swap p q apart back a b)

-- a value at a path is a part of the root's value
pub root_of : (store : Store) (path : PathTree) (part : Value) → value_at store path ≡ Some part
    → (whole : Value) × (store path.root.text ≡ Some whole) × IsPart path.steps whole part
root_of store path part found = by (store path.root.text) found
  where
    by : (o : Option Value) → option_and_then (part_of path.steps) o ≡ Some part → (whole : Value) × (o ≡ Some whole) × IsPart path.steps whole part
    by None found = absurd (none-some part found)
    by (Some whole) found = (whole, refl, is_part path.steps whole part found)

-- the names of a store with another value at a path
pub with_value_at-other : (store : Store) (path : PathTree) (new : Value) (name : Name) → bytes_eq path.root.text name ≡ false → with_value_at store path new name ≡ store name
with_value_at-other store path new name other = rw other refl

pub with_value_at-root : (store : Store) (path : PathTree) (new whole : Value) → store path.root.text ≡ Some whole
    → with_value_at store path new path.root.text ≡ Some (with_part path.steps whole new)
with_value_at-root store path new whole is = rw (name_test path.root.text, is) refl

-- a value that was put at a path is there
pub value_put : (store : Store) (path : PathTree) (old new : Value) → value_at store path ≡ Some old → value_at (with_value_at store path new) path ≡ Some new
value_put store path old new found =
    let root = root_of store path old found in
    ap (option_and_then (part_of path.steps)) (with_value_at-root store path new root.0 root.1) ∙ part_put root.2 new

-- stores with a value at one path are compared at its root
at_root : (path : PathTree) (f g : Store) → f path.root.text ≡ g path.root.text → ((name : Name) → bytes_eq path.root.text name ≡ false → f name ≡ g name) → f ≡ g
at_root path f g same others = fun_ext (λ name. by_test (bytes_eq path.root.text name) (λ is. subst (λ n. f n ≡ g n) (same_name path.root.text name is) same) (others name))

-- the later of two values stays
pub value_twice : (store : Store) (path : PathTree) (old x y : Value) → value_at store path ≡ Some old
    → with_value_at (with_value_at store path x) path y ≡ with_value_at store path y
value_twice store path old x y found =
    let root = root_of store path old found in
    let once = with_value_at-root store path x root.0 root.1 in
    at_root path (with_value_at (with_value_at store path x) path y) (with_value_at store path y)
    (with_value_at-root (with_value_at store path x) path y (with_part path.steps root.0 x) once
    ∙ ap Some (part_twice root.2 x y) ∙ sym (with_value_at-root store path y root.0 root.1))
    (λ name other.
    with_value_at-other (with_value_at store path x) path y name other ∙ with_value_at-other store path x name other
    ∙ sym (with_value_at-other store path y name other))

-- the value that is there changes nothing
pub value_back : (store : Store) (path : PathTree) (old : Value) → value_at store path ≡ Some old → with_value_at store path old ≡ store
value_back store path old found =
    let root = root_of store path old found in
    at_root path (with_value_at store path old) store
    (with_value_at-root store path old root.0 root.1 ∙ ap Some (part_back root.2) ∙ sym root.1)
    (λ name other. with_value_at-other store path old name other)

-- paths that do not overlap have different roots, or steps that are no prefixes of each other
pub apart_cases : (left right : PathTree) {P : Type 0} → overlap left right ≡ false
    → (bytes_eq left.root.text right.root.text ≡ false → P)
    → (left.root.text ≡ right.root.text → is_prefix left.steps right.steps ≡ false → is_prefix right.steps left.steps ≡ false → P) → P
apart_cases left right {P} apart roots steps = by (bytes_eq left.root.text right.root.text) refl apart
  where
    by : (k : Bool) → bytes_eq left.root.text right.root.text ≡ k → (k && (is_prefix left.steps right.steps || is_prefix right.steps left.steps)) ≡ false → P
    by true is apart =
        let parts = or_parts (is_prefix left.steps right.steps) (is_prefix right.steps left.steps) apart in
        steps (same_name left.root.text right.root.text is) parts.0 parts.1
    by false other apart = roots other

-- a value at another path stays, if the paths do not overlap
pub value_other : (store : Store) (left right : PathTree) (x y new : Value) → value_at store left ≡ Some x → value_at store right ≡ Some y
    → overlap left right ≡ false → value_at (with_value_at store left new) right ≡ Some y
value_other store left right x y new at_left at_right apart =
    apart_cases left right apart
    (λ other. ap (option_and_then (part_of right.steps)) (with_value_at-other store left new right.root.text other) ∙ at_right)
    (λ same first second.
    let p = root_of store left x at_left in
    let q = root_of store right y at_right in
    let one = same_some (ap store same ∙ q.1) p.1 in
    ap (λ name. option_and_then (part_of right.steps) (with_value_at store left new name)) (sym same)
    ∙ ap (option_and_then (part_of right.steps)) (with_value_at-root store left new p.0 p.1)
    ∙ part_other p.2 (subst (λ whole. IsPart right.steps whole y) one q.2) first second new)

-- a change of values under two different tests, in any order
tests_swap : (k l : Bool) (f g : Value → Value) (o : Option Value) → (k ≡ true → l ≡ true → ⊥)
    → (if k then option_map f (if l then option_map g o else o) else if l then option_map g o else o)
    ≡ (if l then option_map g (if k then option_map f o else o) else if k then option_map f o else o)
tests_swap true true f g o differ = absurd (differ refl refl)
tests_swap true false f g o differ = refl
tests_swap false true f g o differ = refl
tests_swap false false f g o differ = refl

-- values at paths that do not overlap are put there in any order
pub values_swap : (store : Store) (left right : PathTree) (x y a b : Value) → value_at store left ≡ Some x → value_at store right ≡ Some y
    → overlap left right ≡ false
    → with_value_at (with_value_at store left a) right b ≡ with_value_at (with_value_at store right b) left a
values_swap store left right x y a b at_left at_right apart =
    apart_cases left right apart
    (λ other.
    fun_ext (λ name.
    tests_swap (bytes_eq right.root.text name) (bytes_eq left.root.text name)
    (λ value. with_part right.steps value b) (λ value. with_part left.steps value a) (store name)
    (λ is_right is_left.
    contradiction (subst (λ n. bytes_eq left.root.text n ≡ true) (sym (same_name right.root.text name is_right)) is_left) other)))
    (λ same first second.
    let p = root_of store left x at_left in
    let q = root_of store right y at_right in
    let one = same_some (ap store same ∙ q.1) p.1 in
    let r = subst (λ whole. IsPart right.steps whole y) one q.2 in
    let whole : store right.root.text ≡ Some p.0 = ap store (sym same) ∙ p.1 in
    at_root right (with_value_at (with_value_at store left a) right b) (with_value_at (with_value_at store right b) left a)
    (with_value_at-root (with_value_at store left a) right b (with_part left.steps p.0 a)
    (ap (with_value_at store left a) (sym same) ∙ with_value_at-root store left a p.0 p.1)
    ∙ ap Some (parts_swap p.2 r first second a b)
    ∙ sym (ap (with_value_at (with_value_at store right b) left a) (sym same)
    ∙ with_value_at-root (with_value_at store right b) left a (with_part right.steps p.0 b)
    (ap (with_value_at store right b) same ∙ with_value_at-root store right b p.0 whole)))
    (λ name other.
    let left_other = subst (λ n. bytes_eq n name ≡ false) (sym same) other in
    with_value_at-other (with_value_at store left a) right b name other ∙ with_value_at-other store left a name left_other
    ∙ sym (with_value_at-other (with_value_at store right b) left a name left_other ∙ with_value_at-other store right b name other)))

or_sym : (p q : Bool) → (p || q) ≡ (q || p)
or_sym true true = refl
or_sym true false = refl
or_sym false true = refl
or_sym false false = refl

pub overlap-sym : (left right : PathTree) → overlap left right ≡ overlap right left
overlap-sym left right = ap₂ (λ k l. k && l) (bytes_eq-sym left.root.text right.root.text) (or_sym (is_prefix left.steps right.steps) (is_prefix right.steps left.steps))
