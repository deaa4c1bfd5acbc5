-- A written type denotes at most one type, the one that the table of declared types gives; and an alias that denotes a type does
-- not contain itself.
use Rattle.tw_text.specs.declared.place.Pos.{Pos}
use Rattle.std.proofs.Math.Path.{fun_ext}
use Rattle.std.proofs.lemmas.Bool.{or_cases}
use Rattle.std.proofs.lemmas.Slice.Eq.{bytes_eq-Decides}
use Rattle.std.proofs.Common.{bytes_eq, ⊎_elim, if◌then◌else◌, option_map, ◌≡◌, ℕ, Bool, true, false, Option, Some, None, ap, sym, refl, subst, ap₂}
use Rattle.tw_syntax.specs.Types.{WrittenTree, UnitType, UintType, BoolType, PairType, PtrType, NamedType}
use Rattle.tw_types.specs.Types.{Ty, Pointer, PairTy}
use Rattle.tw_resolve.specs.Declarations.{Name, target_number}
use Rattle.tw_resolve.specs.Denotes.{Scope, names_declared, Denotes, DenotesUnit, DenotesWord, DenotesBoolean, DenotesPair, DenotesPointer, DenotesNamed, AreTypes, Reaches, ReachesNext, ReachesOn, names_outside_pointers}
use Rattle.tw_text.specs.Places.{first_place}
use Rattle.tw_resolve.specs.Setting.{Setting, type_of, pair_of}

-- a written type in place of an equal one
written_as : {scope : Scope} {written other : WrittenTree} {ty : Ty} → Denotes scope written ty → written ≡ other → Denotes scope other ty
written_as {scope} {written} {other} {ty} d same = subst (λ (w : WrittenTree). Denotes scope w ty) same d

-- a written type denotes one type
pub one_type : {scope : Scope} {written : WrittenTree} {ty other : Ty} → Denotes scope written ty → Denotes scope written other → ty ≡ other
one_type DenotesUnit DenotesUnit = refl
one_type DenotesWord DenotesWord = refl
one_type DenotesBoolean DenotesBoolean = refl
one_type (DenotesPair first second) (DenotesPair other last) = ap₂ PairTy (one_type first other) (one_type second last)
one_type (DenotesPointer number known is) (DenotesPointer other known2 is2) =
    let same : number ≡ other = cc (is, is2) in
    ap Pointer same
one_type (DenotesNamed body is d) (DenotesNamed body2 is2 d2) =
    let same : body ≡ body2 = cc (is, is2) in
    one_type d (written_as d2 (sym same))

-- a type in place of an equal one
moved : {scope : Scope} {written : WrittenTree} {ty other : Ty} → Denotes scope written ty → Some ty ≡ Some other → Denotes scope written other
moved {scope} {written} {ty} {other} d same =
    let equal : ty ≡ other = cc same in
    subst (Denotes scope written) equal d

-- a pair of types comes from two types
pair_parts : (first second : Option Ty) (ty : Ty) → pair_of first second ≡ Some ty
    → (one : Ty) × (two : Ty) × (first ≡ Some one) × (second ≡ Some two) × (ty ≡ PairTy one two)
pair_parts (Some one) (Some two) ty is = (one, two, refl, refl, cc is)
pair_parts None second ty is = absurd (cc is)
pair_parts (Some one) None ty is = absurd (cc is)

-- the type of a pointer is one that it denotes
pointer_denotes : (scope : Scope) (at : Pos) (to : WrittenTree) (ty : Ty) (known : Bool) (number : Option ℕ)
    → names_declared scope.declared to ≡ known → target_number scope.targets to ≡ number
    → (if known then option_map Pointer number else None) ≡ Some ty → Denotes scope (PtrType at to) ty
pointer_denotes scope at to ty true (Some number) known is same = moved (DenotesPointer number known is) same
pointer_denotes scope at to ty true None known is same = absurd (cc same)
pointer_denotes scope at to ty false number known is same = absurd (cc same)

-- the type that the table gives is the one that a written type denotes
pub type_of-denotes : (setting : Setting) → AreTypes setting.scope setting.types → (written : WrittenTree) (ty : Ty)
    → type_of setting written ≡ Some ty → Denotes setting.scope written ty
type_of-denotes setting are (UnitType at) ty is = moved DenotesUnit is
type_of-denotes setting are (UintType at) ty is = moved DenotesWord is
type_of-denotes setting are (BoolType at) ty is = moved DenotesBoolean is
type_of-denotes setting are (NamedType at name) ty is = (are at name ty).0 is
type_of-denotes setting are (PairType at first second) ty is =
    let parts = pair_parts (type_of setting first) (type_of setting second) ty is in
    let one = type_of-denotes setting are first parts.0 parts.2 in
    let two = type_of-denotes setting are second parts.1 parts.3 in
    subst (Denotes setting.scope (PairType at first second)) (sym parts.4) (DenotesPair one two)
type_of-denotes setting are (PtrType at to) ty is = pointer_denotes setting.scope at to ty (names_declared setting.scope.declared to) (target_number setting.scope.targets to) refl refl is

-- the type that a written type denotes is the one that the table gives
pub denotes-type_of : (setting : Setting) → AreTypes setting.scope setting.types → {written : WrittenTree} {ty : Ty}
    → Denotes setting.scope written ty → type_of setting written ≡ Some ty
denotes-type_of setting are DenotesUnit = refl
denotes-type_of setting are DenotesWord = refl
denotes-type_of setting are DenotesBoolean = refl
denotes-type_of setting are (DenotesPair first second) =
    rw (denotes-type_of setting are first, denotes-type_of setting are second) refl
denotes-type_of setting are (DenotesPointer number known is) = rw (known, is) refl
denotes-type_of setting are (DenotesNamed {at} {name} {ty} body is d) = (are at name ty).1 (DenotesNamed body is d)

-- two options are equal if they hold the same things
same_options : (x y : Option Ty) → ((ty : Ty) → x ≡ Some ty → y ≡ Some ty) → ((ty : Ty) → y ≡ Some ty → x ≡ Some ty) → x ≡ y
same_options (Some ty) y there back = sym (there ty refl)
same_options None (Some ty) there back = back ty refl
same_options None None there back = refl

-- a program has one table of types
pub one_table : (scope : Scope) (types other : Name → Option Ty) → AreTypes scope types → AreTypes scope other → types ≡ other
one_table scope types other are are2 = fun_ext (λ name. same_options (types name) (other name)
    (λ ty is. (are2 first_place name ty).1 ((are first_place name ty).0 is))
    (λ ty is. (are first_place name ty).1 ((are2 first_place name ty).0 is)))

-- one name has one declaration
body_of_same : (declared : Name → Option WrittenTree) (name other : Name) (body last : WrittenTree) → bytes_eq name other ≡ true
    → declared name ≡ Some body → declared other ≡ Some last → last ≡ body
body_of_same declared name other body last same is is2 =
    let equal : name ≡ other = (bytes_eq-Decides name other).0 same in
    cc (equal, is, is2)

-- one alias leads to a third by way of a second
pub reaches_by : {declared : Name → Option WrittenTree} {name middle last : Name} → Reaches declared name middle → Reaches declared middle last → Reaches declared name last
reaches_by (ReachesNext body is names) on = ReachesOn body is names on
reaches_by (ReachesOn body is names first) on = ReachesOn body is names (reaches_by first on)

-- no alias in a written type that denotes a type contains itself
pub never_itself : {scope : Scope} {written : WrittenTree} {ty : Ty} → Denotes scope written ty → (name : Name)
    → names_outside_pointers written name ≡ true → Reaches scope.declared name name → ⊥
never_itself DenotesUnit name is reaches = absurd (cc is)
never_itself DenotesWord name is reaches = absurd (cc is)
never_itself DenotesBoolean name is reaches = absurd (cc is)
never_itself (DenotesPointer number known at) name is reaches = absurd (cc is)
never_itself (DenotesPair {at} {first} {second} one two) name is reaches =
    ⊎_elim (λ left. never_itself one name left reaches) (λ right. never_itself two name right reaches)
    (or_cases (names_outside_pointers first name) (names_outside_pointers second name) is)
never_itself {scope} (DenotesNamed {name = other} body is_body d) name is (ReachesNext body2 is_body2 names) =
    never_itself d name (rw (← body_of_same scope.declared other name body body2 is is_body is_body2) names) (ReachesNext body2 is_body2 names)
never_itself {scope} (DenotesNamed {name = other} body is_body d) name is (ReachesOn {next} body2 is_body2 names on) =
    never_itself d next (rw (← body_of_same scope.declared other name body body2 is is_body is_body2) names) (reaches_by on (ReachesNext body2 is_body2 names))
