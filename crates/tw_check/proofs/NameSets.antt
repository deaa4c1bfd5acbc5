-- Laws of sets of names.
use Rattle.std.proofs.Common.{◌≡◌, refl, ap, sym, ◌∙◌, subst, ℕ, Bool, true, false, ◌||◌, if◌then◌else◌, List, [], ◌∷◌, ◌++◌, bytes_eq, Decides}
use mathlib.Core.Path.{fun_ext}
use mathlib.Core.Bool.{beq}
use Rattle.std.specs.List.{AllByRecursion}
use Rattle.std.proofs.lemmas.Bool.{true≢false, or_parts}
use Rattle.std.proofs.lemmas.Bool.Decides.{Decides-and}
use Rattle.std.proofs.lemmas.Slice.Eq.{bytes_eq-Decides}
use Rattle.tw_resolve.proofs.Each.{each_always}
use Rattle.tw_check.specs.Names.{Names, with_name, is_one_of, agree_on}

pub with_name-same : (names : Names) (name : List ℕ) (is_in : Bool) → with_name names name is_in name ≡ is_in
with_name-same names name is_in = rw ((bytes_eq-Decides name name).1 refl) refl

pub with_name-other : (names : Names) (changed name : List ℕ) (is_in : Bool) → bytes_eq changed name ≡ false → with_name names changed is_in name ≡ names name
with_name-other names changed name is_in other = rw other refl

-- putting names into a set keeps those that are in, and taking names out keeps those that are out
pub with_name-kept : (names : Names) (changed name : List ℕ) (is_in : Bool) → names name ≡ is_in → with_name names changed is_in name ≡ is_in
with_name-kept names changed name is_in was =
    elim (bytes_eq changed name) as (λ k. (if k then is_in else names name) ≡ is_in) [ true ↦ refl | false ↦ was ]

-- a name in a set differs from a name outside it
pub names_differ : (names : Names) (x y : List ℕ) → names x ≡ false → names y ≡ true → bytes_eq x y ≡ false
names_differ names x y x_out y_in = by (bytes_eq x y) refl
  where
    by : (k : Bool) → bytes_eq x y ≡ k → k ≡ false
    by true same = absurd (true≢false (sym y_in ∙ ap names (sym ((bytes_eq-Decides x y).0 same)) ∙ x_out))
    by false other = refl

-- a name changed and then changed back
pub with_name-back : (names : Names) (name : List ℕ) (is_in between : Bool) → names name ≡ is_in → with_name (with_name names name between) name is_in ≡ names
with_name-back names name is_in between was = fun_ext (λ x. by x (bytes_eq name x) refl)
  where
    by : (x : List ℕ) (k : Bool) → bytes_eq name x ≡ k → (if k then is_in else if k then between else names x) ≡ names x
    by x true same = sym was ∙ ap names ((bytes_eq-Decides name x).0 same)
    by x false other = refl

-- two sets agree on each name of a list
abbrev pub Agree : List (List ℕ) → Names → Names → Type 0
Agree names left right = AllByRecursion (λ name. left name ≡ right name) names

beq-Decides : (x y : Bool) → Decides (beq x y) (x ≡ y)
beq-Decides true true = (λ e. refl, λ e. refl)
beq-Decides true false = (λ e. sym e, λ e. sym e)
beq-Decides false true = (λ e. e, λ e. e)
beq-Decides false false = (λ e. refl, λ e. refl)

pub agree_on-Decides : (names : List (List ℕ)) (left right : Names) → Decides (agree_on names left right) (Agree names left right)
agree_on-Decides [] left right = (λ e. tt, λ e. refl)
agree_on-Decides (name ∷ names) left right =
    Decides-and (beq (left name) (right name)) (agree_on names left right) (beq-Decides (left name) (right name)) (agree_on-Decides names left right)

-- equal sets agree on every list
pub agree_if_same : (names : List (List ℕ)) (left right : Names) → left ≡ right → Agree names left right
agree_if_same names left right same = each_always (λ name. left name ≡ right name) (λ name. ap (λ (f : Names). f name) same) names

pub agree_at : (names : List (List ℕ)) (left right : Names) (name : List ℕ) → Agree names left right → is_one_of name names ≡ true → left name ≡ right name
agree_at [] left right name agree one = absurd (cc)
agree_at (first ∷ rest) left right name agree one = by (bytes_eq name first) refl one (agree_at rest left right name agree.1)
  where
    by : (k : Bool) → bytes_eq name first ≡ k → (k || is_one_of name rest) ≡ true → (is_one_of name rest ≡ true → left name ≡ right name) → left name ≡ right name
    by true same one later = subst (λ x. left x ≡ right x) (sym ((bytes_eq-Decides name first).0 same)) agree.0
    by false other one later = later one

-- cases: a name is on a list, or it is not
pub on_or_off : (names : List (List ℕ)) (name : List ℕ) {P : Type 0} → (is_one_of name names ≡ true → P) → (is_one_of name names ≡ false → P) → P
on_or_off names name {P} on off = by (is_one_of name names) refl
  where
    by : (k : Bool) → is_one_of name names ≡ k → P
    by true one = on one
    by false none = off none

-- sets that agree on a list and off it are equal
pub same_if_agree : (names : List (List ℕ)) (left right : Names) → Agree names left right → ((name : List ℕ) → is_one_of name names ≡ false → left name ≡ right name) → left ≡ right
same_if_agree names left right agree off = fun_ext (λ name. on_or_off names name (agree_at names left right name agree) (off name))

-- if two sets agree off a list, the test on the list decides whether they are equal
pub same-Decides : (names : List (List ℕ)) (left right : Names) → ((name : List ℕ) → is_one_of name names ≡ false → left name ≡ right name) → Decides (agree_on names left right) (left ≡ right)
same-Decides names left right off =
    let agree = agree_on-Decides names left right in
    (λ test. same_if_agree names left right (agree.0 test) off, λ same. agree.1 (agree_if_same names left right same))

pub is_one_of-append : (name : List ℕ) (xs ys : List (List ℕ)) → is_one_of name (xs ++ ys) ≡ (is_one_of name xs || is_one_of name ys)
is_one_of-append name [] ys = refl
is_one_of-append name (x ∷ xs) ys =
    elim (bytes_eq name x) as (λ k. (k || is_one_of name (xs ++ ys)) ≡ ((k || is_one_of name xs) || is_one_of name ys)) [ true ↦ refl | false ↦ is_one_of-append name xs ys ]

-- a name that is on neither of two lists
pub off-append : (name : List ℕ) (xs ys : List (List ℕ)) → is_one_of name (xs ++ ys) ≡ false → (is_one_of name xs ≡ false) × (is_one_of name ys ≡ false)
off-append name xs ys off = or_parts (is_one_of name xs) (is_one_of name ys) (sym (is_one_of-append name xs ys) ∙ off)
