-- The bits of names, and the wires at which they lie.
use Rattle.std.proofs.Common.{◌≡◌, ◌∙◌, ℕ, ◌+◌, ◌≤◌, ◌<◌, Bool, true, false, ◌||◌, if◌then◌else◌, List, [], ◌∷◌, ◌++◌, length, flat_map, Option, Some, None, is_some, option_map, unwrap_or, refl, ap, arith, length-append, append_assoc, bytes_eq, one-add}
use Rattle.std.specs.List.{AllByRecursion}
use Rattle.std.proofs.lemmas.Bool.{or_parts}
use Rattle.tw_bits.specs.Lists.{bit_at}
use Rattle.tw_types.specs.Types.{Widths, Ty, Boolean, size}
use Rattle.tw_types.specs.Values.{Value, Truth, value_bits}
use Rattle.tw_types.proofs.Lengths.{length-value_bits}
use Rattle.tw_resolve.specs.Declarations.{is_one_of}
use Rattle.tw_resolve.specs.Expressions.{Types}
use Rattle.tw_resolve.proofs.Texts.{bytes_eq-sym}
use Rattle.tw_state.specs.States.{Name, Store}
use Rattle.tw_state.specs.Results.{Fits}
use Rattle.tw_state.specs.EntryEncoding.{name_bits}
use Rattle.tw_state.proofs.Basics.{same_name, name_test}
use Rattle.tw_state.proofs.TypedValues.{StoreFits}
use Rattle.tw_frames.specs.Sizes.{name_size, names_size, wire_from}

-- these names have values
abbrev pub AreLive : Store → List Name → Type 0
AreLive store names = AllByRecursion (λ name. is_some (store name) ≡ true) names

-- names that are live as the names of a list are have values
pub all_listed : (store : Store) (names : List Name) → ((name : Name) → is_one_of name names ≡ true → is_some (store name) ≡ true) → AreLive store names
all_listed store [] live = tt
all_listed store (first ∷ names) live =
    (live first (ap (λ k. k || is_one_of first names) (name_test first)), all_listed store names (λ name one. live name (or_true (bytes_eq name first) (is_one_of name names) one)))
  where
    or_true : (p q : Bool) → q ≡ true → (p || q) ≡ true
    or_true true q is = refl
    or_true false q is = is

-- a value fills as many bits as its type
value_fills : (widths : Widths) (ty : Option Ty) (found : Option Value) → Fits widths ty found → is_some found ≡ true → length (unwrap_or (option_map (value_bits widths) found) []) ≡ unwrap_or (option_map (size widths) ty) 0
value_fills widths (Some ty) (Some value) fits live = length-value_bits widths value ty fits
value_fills widths None (Some value) fits live = absurd fits
value_fills widths ty None fits live = cc

-- so does the value of a name
pub length-name_bits : (widths : Widths) (types : Types) (store : Store) → StoreFits widths types store → (name : Name) → is_some (store name) ≡ true → length (name_bits widths store name) ≡ name_size widths types name
length-name_bits widths types store fits name live = value_fills widths (types name) (store name) (fits name) live

pub length-names_bits : (widths : Widths) (types : Types) (store : Store) → StoreFits widths types store → (names : List Name) → AreLive store names → length (flat_map (name_bits widths store) names) ≡ names_size widths types names
length-names_bits widths types store fits [] live = refl
length-names_bits widths types store fits (name ∷ names) live =
    rw (length-append, length-name_bits widths types store fits name live.0, length-names_bits widths types store fits names live.1) refl

-- these names are truth values
abbrev pub AreBoolean : Types → List Name → Type 0
AreBoolean types names = AllByRecursion (λ name. types name ≡ Some Boolean) names

-- a truth value has one bit
pub size-truth : (widths : Widths) (types : Types) (name : Name) → types name ≡ Some Boolean → name_size widths types name ≡ 1
size-truth widths types name is = rw is refl

-- as many bits as names
pub names_size-length : (widths : Widths) (types : Types) (names : List Name) → AreBoolean types names → names_size widths types names ≡ length names
names_size-length widths types [] all = refl
names_size-length widths types (name ∷ names) all =
    rw (size-truth widths types name all.0, names_size-length widths types names all.1, one-add) refl

-- the bit after a prefix
bit_at-length : (prefix suffix : List Bool) (bit : Bool) → bit_at (prefix ++ bit ∷ suffix) (length prefix) ≡ bit
bit_at-length [] suffix bit = refl
bit_at-length (b ∷ prefix) suffix bit = bit_at-length prefix suffix bit

-- a name that is one of several, but not the first, is one of the others
pub one_of_others : (name first : Name) (names : List Name) → is_one_of name (first ∷ names) ≡ true → bytes_eq first name ≡ false → is_one_of name names ≡ true
one_of_others name first names known differs = by (bytes_eq name first) (bytes_eq-sym name first ∙ differs) known where
  by : (test : Bool) → test ≡ false → (test || is_one_of name names) ≡ true → is_one_of name names ≡ true
  by true is known = cc
  by false is known = known

-- the bit of a truth value lies at the wire of its name, whatever precedes and follows the names
pub bit_at-wire_from : (widths : Widths) (types : Types) (store : Store) → StoreFits widths types store → (more : List Name) (name : Name) (is : Bool) → store name ≡ Some (Truth is) → (names : List Name) → AreLive store names → is_one_of name names ≡ true → (prefix suffix : List Bool)
    → bit_at (prefix ++ (flat_map (name_bits widths store) names ++ suffix)) (wire_from widths types (length prefix) (names ++ more) name) ≡ is
bit_at-wire_from widths types store fits more name is value [] live known prefix suffix = cc
bit_at-wire_from widths types store fits more name is value (first ∷ names) live known prefix suffix =
    rw (append_assoc first_bits rest_bits suffix)
    (by (bytes_eq first name)
    (λ differs. bit_at-wire_from widths types store fits more name is value names live.1 (one_of_others name first names known differs) (prefix ++ name_bits widths store first) suffix)
    refl)
  where
    first_bits : List Bool
    first_bits = name_bits widths store first

    rest_bits : List Bool
    rest_bits = flat_map (name_bits widths store) names

    bits_of : (other : Name) → other ≡ name → name_bits widths store other ≡ is ∷ []
    bits_of other same = ap (name_bits widths store) same ∙ ap (λ (found : Option Value). unwrap_or (option_map (value_bits widths) found) []) value

    by : (test : Bool) → (bytes_eq first name ≡ false → bit_at ((prefix ++ first_bits) ++ (rest_bits ++ suffix)) (wire_from widths types (length (prefix ++ first_bits)) (names ++ more) name) ≡ is) → bytes_eq first name ≡ test
        → bit_at (prefix ++ (first_bits ++ (rest_bits ++ suffix))) (if test then length prefix else wire_from widths types (length prefix + name_size widths types first) (names ++ more) name) ≡ is
    by true deeper tested = rw (bits_of first (same_name first name tested)) (bit_at-length prefix (rest_bits ++ suffix) is)
    by false deeper tested = rw (append_assoc prefix first_bits (rest_bits ++ suffix), length-append, length-name_bits widths types store fits first live.0) at (deeper tested)

-- a name that is none of those before it lies after them
pub wire_from-after : (widths : Widths) (types : Types) (name : Name) (more names : List Name) → is_one_of name names ≡ false → (first : ℕ) → wire_from widths types first (names ++ name ∷ more) name ≡ first + names_size widths types names
wire_from-after widths types name more [] fresh first = rw (name_test name) (omega arith)
wire_from-after widths types name more (other ∷ names) fresh first =
    let parts = or_parts (bytes_eq name other) (is_one_of name names) fresh in
    rw (bytes_eq-sym other name ∙ parts.0, wire_from-after widths types name more names parts.1 (first + name_size widths types other)) (omega arith)

-- the wire of a known name is one of the names' wires, if each name has one bit
pub wire_from-within : (widths : Widths) (types : Types) (more : List Name) (name : Name) (names : List Name) → AreBoolean types names → is_one_of name names ≡ true → (first : ℕ)
    → (first ≤ wire_from widths types first (names ++ more) name) × (wire_from widths types first (names ++ more) name < first + names_size widths types names)
wire_from-within widths types more name [] all known first = cc
wire_from-within widths types more name (other ∷ names) all known first =
    by (bytes_eq other name) (wire_from widths types (first + name_size widths types other) (names ++ more) name)
    (λ differs. wire_from-within widths types more name names all.1 (one_of_others name other names known differs) (first + name_size widths types other)) refl
  where
    by : (test : Bool) (next : ℕ) → (bytes_eq other name ≡ false → (first + name_size widths types other ≤ next) × (next < (first + name_size widths types other) + names_size widths types names)) → bytes_eq other name ≡ test
        → (first ≤ (if test then first else next)) × ((if test then first else next) < first + (name_size widths types other + names_size widths types names))
    by true next deeper tested = let one = size-truth widths types other all.0 in (omega arith, omega (arith, one))
    by false next deeper tested = let there = deeper tested in (omega (arith, there.0), omega (arith, there.1))
