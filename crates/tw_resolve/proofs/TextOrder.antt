-- The aliases that a loop in text order has yet to visit.
use Prim.Native.Nat.{zero}
use Rattle.std.proofs.Common.{◌≡◌, ◌∙◌, ◌⊎◌, if◌then◌else◌, inl, inr, ⊎_elim, ℕ, suc, ◌+◌, ◌≤◌, Bool, true, false, List, [], ◌∷◌, length, drop, slice_get, Option, Some, is_some, bytes_eq, ap, sym, subst, refl, add-one}
use Rattle.std.proofs.Math.Seq.{drop-cons}
use Rattle.std.proofs.lemmas.List.{drop_all}
use Rattle.std.proofs.lemmas.Option.{get_or_from_slice_get, slice_get_within}
use Rattle.std.proofs.lemmas.Slice.Eq.{bytes_eq-Decides}
use Rattle.tw_syntax.specs.Names.{NameTree}
use Rattle.tw_syntax.specs.Programs.{AliasTree}
use Rattle.tw_syntax.specs.Types.{WrittenTree}
use Rattle.tw_resolve.specs.Declarations.{Name, declared_as}
use Rattle.tw_resolve.specs.Denotes.{IsRecursive}
use Rattle.tw_resolve.specs.Programs.{IsFinite, IsFirstRecursive}

-- the items from a place on
pub drop_at : {X : Type 0} (xs : List X) (place : ℕ) (x : X) → slice_get xs place ≡ Some x → drop place xs ≡ x ∷ drop (place + 1) xs
drop_at xs place x is =
    drop-cons xs place x (slice_get_within xs place x is)
    ∙ ap (λ y. y ∷ drop (suc place) xs) (get_or_from_slice_get xs place x x is)
    ∙ ap (λ n. x ∷ drop n xs) (sym (add-one place))

-- some alias from a place on contains itself
abbrev pub HasRecursionFrom : (Name → Option WrittenTree) → List AliasTree → Type 0
HasRecursionFrom declared aliases = (name : Name) × IsRecursive declared name × (is_some (declared_as aliases name) ≡ true)

-- if the first does not, another one does
pub recursion_after : (declared : Name → Option WrittenTree) (alias : AliasTree) (aliases : List AliasTree) → IsFinite declared alias
    → HasRecursionFrom declared (alias ∷ aliases) → HasRecursionFrom declared aliases
recursion_after declared alias aliases finite has = (has.0, has.1, by (bytes_eq has.0 alias.name.text) refl has.2)
  where
    by : (k : Bool) → bytes_eq has.0 alias.name.text ≡ k → is_some (if k then Some alias.body else declared_as aliases has.0) ≡ true
        → is_some (declared_as aliases has.0) ≡ true
    by true same is = absurd (finite (subst (IsRecursive declared) ((bytes_eq-Decides has.0 alias.name.text).0 same) has.1))
    by false differs is = is

-- each declared name is in a set, or is declared from a place on
abbrev pub AreInOrAfter : (Name → Bool) → List AliasTree → (Name → Option WrittenTree) → Type 0
AreInOrAfter names rest declared = (name : Name) → is_some (declared name) ≡ true → (names name ≡ true) ⊎ (is_some (declared_as rest name) ≡ true)

-- the first of the rest has come into the set
pub in_after : (names after : Name → Bool) (alias : AliasTree) (rest : List AliasTree) (declared : Name → Option WrittenTree)
    → ((name : Name) → names name ≡ true → after name ≡ true) → after alias.name.text ≡ true
    → AreInOrAfter names (alias ∷ rest) declared → AreInOrAfter after rest declared
in_after names after alias rest declared stay now are name is =
    ⊎_elim (λ was. inl (stay name was)) (λ later. by (bytes_eq name alias.name.text) refl later) (are name is)
  where
    by : (k : Bool) → bytes_eq name alias.name.text ≡ k → is_some (if k then Some alias.body else declared_as rest name) ≡ true
        → (after name ≡ true) ⊎ (is_some (declared_as rest name) ≡ true)
    by true same later =
        let equal : alias.name.text ≡ name = sym ((bytes_eq-Decides name alias.name.text).0 same) in
        inl (subst (λ (n : Name). after n ≡ true) equal now)
    by false differs later = inr later

-- the first of the aliases from a place on is the one at the place, if it contains itself
pub first_here : (declared : Name → Option WrittenTree) (aliases : List AliasTree) (place : ℕ) (alias : AliasTree) → slice_get aliases place ≡ Some alias
    → IsRecursive declared alias.name.text → IsFirstRecursive declared (drop place aliases) alias.name
first_here declared aliases place alias at recursive =
    subst (λ (rest : List AliasTree). IsFirstRecursive declared rest alias.name) (sym (drop_at aliases place alias at)) (inl (refl, recursive))

-- the first after the place is the first from the place on, if the alias there does not contain itself
pub first_later : (declared : Name → Option WrittenTree) (aliases : List AliasTree) (place : ℕ) (alias : AliasTree) → slice_get aliases place ≡ Some alias
    → IsFinite declared alias → (name : NameTree) → IsFirstRecursive declared (drop (place + 1) aliases) name → IsFirstRecursive declared (drop place aliases) name
first_later declared aliases place alias at finite name later =
    subst (λ (rest : List AliasTree). IsFirstRecursive declared rest name) (sym (drop_at aliases place alias at)) (inr (finite, later))

pub recursion_later : (declared : Name → Option WrittenTree) (aliases : List AliasTree) (place : ℕ) (alias : AliasTree) → slice_get aliases place ≡ Some alias
    → IsFinite declared alias → HasRecursionFrom declared (drop place aliases) → HasRecursionFrom declared (drop (place + 1) aliases)
recursion_later declared aliases place alias at finite has =
    recursion_after declared alias (drop (place + 1) aliases) finite (subst (HasRecursionFrom declared) (drop_at aliases place alias at) has)

-- the name of an alias at a place is declared
pub declared_at : (aliases : List AliasTree) (place : ℕ) (alias : AliasTree) → slice_get aliases place ≡ Some alias → is_some (declared_as aliases alias.name.text) ≡ true
declared_at [] place alias is = absurd (cc is)
declared_at (first ∷ aliases) zero alias is = by first alias (cc is)
  where
    by : (x y : AliasTree) → x ≡ y → is_some (if bytes_eq y.name.text x.name.text then Some x.body else declared_as aliases y.name.text) ≡ true
    by x y same =
        let is_name : bytes_eq y.name.text x.name.text ≡ true = (bytes_eq-Decides y.name.text x.name.text).1 (sym (ap (λ (a : AliasTree). a.name.text) same)) in
        rw is_name refl
declared_at (first ∷ aliases) (suc place) alias is = by (bytes_eq alias.name.text first.name.text) (declared_at aliases place alias is)
  where
    by : (k : Bool) → is_some (declared_as aliases alias.name.text) ≡ true → is_some (if k then Some first.body else declared_as aliases alias.name.text) ≡ true
    by true later = refl
    by false later = later

-- the first from a place on has come into the set
pub in_later : (names after : Name → Bool) (aliases : List AliasTree) (place : ℕ) (alias : AliasTree) (declared : Name → Option WrittenTree) → slice_get aliases place ≡ Some alias
    → ((name : Name) → names name ≡ true → after name ≡ true) → after alias.name.text ≡ true
    → AreInOrAfter names (drop place aliases) declared → AreInOrAfter after (drop (place + 1) aliases) declared
in_later names after aliases place alias declared at stay now are =
    in_after names after alias (drop (place + 1) aliases) declared stay now
    (subst (λ (rest : List AliasTree). AreInOrAfter names rest declared) (drop_at aliases place alias at) are)

-- at the end each declared name is in the set
pub in_all : (names : Name → Bool) (aliases : List AliasTree) (place : ℕ) (declared : Name → Option WrittenTree) → length aliases ≤ place
    → AreInOrAfter names (drop place aliases) declared → (name : Name) (body : WrittenTree) → declared name ≡ Some body → names name ≡ true
in_all names aliases place declared past are name body is =
    ⊎_elim (λ (here : names name ≡ true). here) (λ later. absurd (none later)) (are name (ap is_some is))
  where
    none : is_some (declared_as (drop place aliases) name) ≡ true → ⊥
    none later =
        let at_end : is_some (declared_as [] name) ≡ true = subst (λ (rest : List AliasTree). is_some (declared_as rest name) ≡ true) (drop_all place aliases past) later in
        cc at_end
