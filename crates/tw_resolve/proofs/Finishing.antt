-- The type of an alias whose parts have types, and the types of all aliases.
use Rattle.std.proofs.Common.{◌≡◌, ◌∙◌, ◌||◌, if◌then◌else◌, ℕ, Bool, true, false, List, [], ◌∷◌, Option, Some, None, is_some, bytes_eq, ap, sym, subst, refl}
use Rattle.std.proofs.lemmas.Slice.Eq.{bytes_eq-Decides}
use Rattle.std.specs.List.{AllByRecursion}
use Rattle.tw_text.specs.declared.place.Pos.{Pos}
use Rattle.tw_text.specs.Places.{first_place}
use Rattle.tw_syntax.specs.Programs.{AliasTree}
use Rattle.tw_syntax.specs.Types.{WrittenTree, UnitType, UintType, BoolType, PairType, PtrType, NamedType}
use Rattle.tw_types.specs.Types.{Ty, UnitTy, Word, Boolean, Pointer, PairTy}
use Rattle.tw_resolve.specs.Declarations.{Name, target_number}
use Rattle.tw_resolve.specs.Denotes.{Scope, names_declared, Denotes, DenotesUnit, DenotesWord, DenotesBoolean, DenotesPair, DenotesPointer, DenotesNamed, AreTypes, IsRecursive, Reaches, ReachesNext, ReachesOn, names_outside_pointers}
use Rattle.tw_resolve.specs.Setting.{Setting, type_of}
use Rattle.tw_resolve.specs.Programs.{IsFinite}
use Rattle.tw_resolve.specs.AliasTypes.{IsResolved, AreDenoted}
use Rattle.tw_resolve.specs.Searches.{HasType, Finishes}
use Rattle.tw_resolve.proofs.Denoting.{one_type, never_itself}
use Rattle.tw_resolve.proofs.Searching.{resolved_first, resolved_second}

-- a written type whose names outside pointers have types denotes a type, which the table gives
abbrev IsGiven : Setting → WrittenTree → Type 0
IsGiven setting written = (ty : Ty) × (type_of setting written ≡ Some ty) × Denotes setting.scope written ty

given_pointer : (setting : Setting) (at : Pos) (to : WrittenTree) (number : Option ℕ) → names_declared setting.scope.declared to ≡ true
    → target_number setting.scope.targets to ≡ number → is_some number ≡ true → IsGiven setting (PtrType at to)
given_pointer setting at to (Some number) known is some = (Pointer number, rw (known, is) refl, DenotesPointer number known is)
given_pointer setting at to None known is some = absurd (cc some)

pub given : (setting : Setting) → AreDenoted setting.scope setting.types → (written : WrittenTree) → IsResolved setting.scope written
    → ((name : Name) → names_outside_pointers written name ≡ true → HasType setting.types name) → IsGiven setting written
given setting are (UnitType at) resolved have = (UnitTy, refl, DenotesUnit)
given setting are (UintType at) resolved have = (Word, refl, DenotesWord)
given setting are (BoolType at) resolved have = (Boolean, refl, DenotesBoolean)
given setting are (PairType at first second) resolved have =
    let one = given setting are first (resolved_first at first second resolved) (λ name is. have name (rw is refl)) in
    let two = given setting are second (resolved_second at first second resolved)
    (λ name is. have name (elim (names_outside_pointers first name) as (λ k. (k || names_outside_pointers second name) ≡ true) [ true ↦ refl | false ↦ is ])) in
    (PairTy one.0 two.0, rw (one.1, two.1) refl, DenotesPair one.2 two.2)
given setting are (PtrType at to) resolved have =
    given_pointer setting at to (target_number setting.scope.targets to) resolved.names refl resolved.targets.0
given setting are (NamedType at name) resolved have =
    let found = have name ((bytes_eq-Decides name name).1 refl) in
    (found.0, found.1, are at name found.0 found.1)

-- the types with one more are denoted, if that one is
pub denoted_after : (scope : Scope) (types after : Name → Option Ty) (name : Name) (ty : Ty) → AreDenoted scope types
    → ((other : Name) → after other ≡ (if bytes_eq other name then Some ty else types other))
    → ((at : Pos) → Denotes scope (NamedType at name) ty) → AreDenoted scope after
denoted_after scope types after name ty are more is at other found here = by (bytes_eq other name) refl (sym (more other) ∙ here)
  where
    by : (k : Bool) → bytes_eq other name ≡ k → (if k then Some ty else types other) ≡ Some found → Denotes scope (NamedType at other) found
    by true same same_ty =
        let equal : name ≡ other = sym ((bytes_eq-Decides other name).0 same) in
        let ty_is : ty ≡ found = cc same_ty in
        let at_name : Denotes scope (NamedType at name) found = subst (Denotes scope (NamedType at name)) ty_is (is at) in
        subst (λ (n : Name). Denotes scope (NamedType at n) found) equal at_name
    by false differs was = are at other found was

-- names keep their types when one more is added
pub has_type_after : (types after : Name → Option Ty) (name : Name) (ty : Ty)
    → ((other : Name) → after other ≡ (if bytes_eq other name then Some ty else types other))
    → (other : Name) → HasType types other → HasType after other
has_type_after types after name ty more other has = by (bytes_eq other name) (more other)
  where
    by : (k : Bool) → after other ≡ (if k then Some ty else types other) → HasType after other
    by true is = (ty, is)
    by false is = (has.0, is ∙ has.1)

pub has_type_new : (types after : Name → Option Ty) (name : Name) (ty : Ty)
    → ((other : Name) → after other ≡ (if bytes_eq other name then Some ty else types other)) → HasType after name
has_type_new types after name ty more =
    let same : bytes_eq name name ≡ true = (bytes_eq-Decides name name).1 refl in
    (ty, more name ∙ rw same refl)

-- the types are those of all names, if each declared name has one
pub are_types : (scope : Scope) (types : Name → Option Ty) → AreDenoted scope types
    → ((name : Name) (body : WrittenTree) → scope.declared name ≡ Some body → HasType types name) → AreTypes scope types
are_types scope types are have at name ty = (are at name ty, λ is. back is)
  where
    back : Denotes scope (NamedType at name) ty → types name ≡ Some ty
    back (DenotesNamed body declared is) =
        let has = have name body declared in
        let same : has.0 ≡ ty = one_type (are at name has.0 has.1) (DenotesNamed body declared is) in
        has.1 ∙ ap Some same

-- a name that has a type does not contain itself
pub never_recursive : (scope : Scope) (types : Name → Option Ty) → AreDenoted scope types → (name : Name) → HasType types name
    → IsRecursive scope.declared name → ⊥
never_recursive scope types are name has recursive =
    never_itself (are first_place name has.0 has.1) name ((bytes_eq-Decides name name).1 refl) recursive

-- what an alias that leads to a name is declared as
reaching_declared : {declared : Name → Option WrittenTree} {name last : Name} → Reaches declared name last → (body : WrittenTree) × (declared name ≡ Some body)
reaching_declared (ReachesNext body is names) = (body, is)
reaching_declared (ReachesOn body is names on) = (body, is)

-- no alias contains itself, if each declared name has a type
pub all_finite : (scope : Scope) (types : Name → Option Ty) → AreDenoted scope types
    → ((name : Name) (body : WrittenTree) → scope.declared name ≡ Some body → HasType types name)
    → (aliases : List AliasTree) → AllByRecursion (IsFinite scope.declared) aliases
all_finite scope types are have [] = tt
all_finite scope types are have (alias ∷ aliases) = (
  λ recursive. (let declared = reaching_declared recursive in
      never_recursive scope types are alias.name.text (have alias.name.text declared.0 declared.1) recursive),
  all_finite scope types are have aliases,
)

-- an alias is finished with the type that its body denotes
pub finishes : (setting : Setting) (name : Name) (body : WrittenTree) (found : Option Ty) (ty : Ty) (after : Name → Option Ty) → setting.scope.declared name ≡ Some body
    → AreDenoted setting.scope setting.types → IsGiven setting body → found ≡ type_of setting body → found ≡ Some ty
    → ((other : Name) → after other ≡ (if bytes_eq other name then Some ty else setting.types other)) → Finishes setting.scope name setting.types after
finishes setting name body found ty after declared are gives from is more = record {
  denoted = denoted_after setting.scope setting.types after name ty are more (λ at. DenotesNamed body declared of_body);
  named = has_type_new setting.types after name ty more;
  others = has_type_after setting.types after name ty more;
}
  where
    same_ty : (x y : Ty) (f : Option Ty) → f ≡ Some x → f ≡ Some y → x ≡ y
    same_ty x y f one two = cc (one, two)

    of_body : Denotes setting.scope body ty
    of_body = subst (Denotes setting.scope body) (same_ty gives.0 ty found (from ∙ gives.1) is) gives.2

-- a body that denotes a type has one
pub not_none : (setting : Setting) (body : WrittenTree) (found : Option Ty) → IsGiven setting body → found ≡ type_of setting body → found ≡ None → ⊥
not_none setting body found gives from none = (let some = from ∙ gives.1 in cc (some, none))
