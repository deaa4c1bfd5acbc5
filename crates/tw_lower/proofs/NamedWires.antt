-- The wires that names get one after the other are those of the frame of an entry.
use Rattle.std.proofs.Common.{◌≡◌, ◌∙◌, ◌≤◌, refl, sym, ap, arith, ℕ, ◌+◌, Bool, true, false, ◌||◌, cond, if◌then◌else◌, List, [], ◌∷◌, map, drop, slice_get, Option, Some, None, option_map, is_some, unwrap_or, bytes_eq}
use Rattle.std.specs.Option.{option_or}
use Rattle.std.proofs.lemmas.Option.{slice_get-map}
use Rattle.tw_syntax.specs.Programs.{FunTree}
use Rattle.tw_types.specs.Types.{Widths, Ty}
use Rattle.tw_resolve.specs.Declarations.{is_one_of}
use Rattle.tw_resolve.specs.Expressions.{Types}
use Rattle.tw_resolve.specs.Resolved.{locals_at}
use Rattle.tw_resolve.specs.Setting.{Setting}
use Rattle.tw_resolve.proofs.Texts.{bytes_eq-sym}
use Rattle.tw_state.specs.Listed.{names_at_end}
use Rattle.tw_state.specs.States.{Name}
use Rattle.tw_state.proofs.Basics.{same_name}
use Rattle.tw_state.proofs.EntryNames.{dropped_at}
use Rattle.tw_arith.specs.Operands.{EndsWithin}
use Rattle.tw_frames.specs.Frames.{linked_wire}
use Rattle.tw_frames.specs.Sizes.{name_size, names_size, wire_from}
use Rattle.tw_lower.specs.NameWires.{Wires, local_names_at, shared_at, shared_of, with_wire, with_wires}

no_more : (o : Option ℕ) → o ≡ option_or o None
no_more None = refl
no_more (Some x) = refl

-- a wire that is inserted under a new name
pub wire_inserted : (was now : Wires) (name : Name) (wire : ℕ) → is_some (was name) ≡ false → ((other : Name) → now other ≡ cond (bytes_eq name other) (Some wire) (was other)) → now ≡ with_wire was name wire
wire_inserted was now name wire new updates = λ i other. (updates other ∙ by other (bytes_eq name other) refl) i
  where
    first : (o : Option ℕ) → is_some o ≡ false → Some wire ≡ option_or o (Some wire)
    first None none = refl
    first (Some x) none = absurd (cc none)

    by : (other : Name) (k : Bool) → bytes_eq name other ≡ k → cond k (Some wire) (was other) ≡ option_or (was other) (if k then Some wire else None)
    by other true same = first (was other) (ap (λ n. is_some (was n)) (sym (same_name name other same)) ∙ new)
    by other false differs = no_more (was other)

-- a name that has a wire keeps it
pub wire_kept : (was : Wires) (name : Name) (wire : ℕ) → is_some (was name) ≡ true → was ≡ with_wire was name wire
wire_kept was name wire there = λ i other. by other (bytes_eq name other) refl i
  where
    kept : (o : Option ℕ) → is_some o ≡ true → o ≡ option_or o (Some wire)
    kept None some = absurd (cc some)
    kept (Some x) some = refl

    by : (other : Name) (k : Bool) → bytes_eq name other ≡ k → was other ≡ option_or (was other) (if k then Some wire else None)
    by other true same = kept (was other) (ap (λ n. is_some (was n)) (sym (same_name name other same)) ∙ there)
    by other false differs = no_more (was other)

module _ (setting : Setting) (number place : ℕ) (name : Name) where
  -- the name at a place among the parameters and the result is the next one
  pub shared_next : (fun : FunTree) → slice_get setting.funs number ≡ Some fun → slice_get (names_at_end fun) place ≡ Some name → drop place (shared_at setting number) ≡ name ∷ drop (place + 1) (shared_at setting number)
  shared_next fun found at = dropped_at (shared_at setting number) place name (ap (λ (names : List Name). slice_get names place) (ap shared_of found) ∙ at)

  -- so is the name at a place among the local variables
  pub local_next : (ty : Ty) → slice_get (locals_at setting number) place ≡ Some (name, ty) → drop place (local_names_at setting number) ≡ name ∷ drop (place + 1) (local_names_at setting number)
  local_next ty at =
      dropped_at (local_names_at setting number) place name
      (slice_get-map (λ (variable : Name × Ty). variable.0) (locals_at setting number) place ∙ ap (option_map (λ (variable : Name × Ty). variable.0)) at)

module _ (widths : Widths) (types : Types) where
  -- the names that are left get their wires after the others: with them, all names have theirs
  pub record ArePlaced (before : Wires) (first : ℕ) (all left : List Name) (wires : Wires) (wire : ℕ) : Type 0 where
    pub placed : with_wires widths types wires wire left ≡ with_wires widths types before first all
    pub count : wire + names_size widths types left ≡ first + names_size widths types all

  pub none_placed : (before : Wires) (first : ℕ) (all : List Name) → ArePlaced before first all all before first
  none_placed before first all = record { placed = refl; count = refl }

  pub one_placed : {before wires new : Wires} {first wire next : ℕ} {all left rest : List Name} {name : Name} → ArePlaced before first all left wires wire → left ≡ name ∷ rest
      → next ≡ wire + name_size widths types name → new ≡ with_wire wires name wire → ArePlaced before first all rest new next
  one_placed {before} {wires} {new} {first} {wire} {next} {all} {left} {rest} {name} are is after added = record {
    placed = (λ i. with_wires widths types (added i) (after i) rest) ∙ ap (with_wires widths types wires wire) (sym is) ∙ are.placed;
    count = let total = are.count in let size = ap (names_size widths types) is in omega (arith, total, size, after);
  }

  pub one_within : {before wires : Wires} {first wire : ℕ} {all left rest : List Name} {name : Name} → ArePlaced before first all left wires wire → left ≡ name ∷ rest
      → EndsWithin first (names_size widths types all) → EndsWithin wire (name_size widths types name)
  one_within are is within = let total = are.count in let size = ap (names_size widths types) is in omega (arith, total, size, within)

  pub all_placed : {before wires : Wires} {first wire : ℕ} {all left : List Name} → ArePlaced before first all left wires wire → left ≡ [] → wires ≡ with_wires widths types before first all
  all_placed {before} {wires} {first} {wire} are is = ap (with_wires widths types wires wire) (sym is) ∙ are.placed

  pub all_counted : {before wires : Wires} {first wire : ℕ} {all left : List Name} → ArePlaced before first all left wires wire → left ≡ [] → wire ≡ first + names_size widths types all
  all_counted are is = let total = are.count in let none = ap (names_size widths types) is in omega (arith, total, none)

  -- the wire of a name among others
  abbrev among : ℕ → List Name → Name → Option ℕ
  among first names name = if is_one_of name names then Some (wire_from widths types first names name) else None

  first_or_rest : (wire : Option ℕ) (k : Bool) (one : Bool) (first later : ℕ) → option_or (option_or wire (if k then Some first else None)) (if one then Some later else None) ≡ option_or wire (if k || one then Some (if k then first else later) else None)
  first_or_rest (Some x) k one first later = refl
  first_or_rest None true one first later = refl
  first_or_rest None false one first later = refl

  -- names that get wires have those of the list, if they had none
  pub wires_among : (wires : Wires) (first : ℕ) (names : List Name) (name : Name) → with_wires widths types wires first names name ≡ option_or (wires name) (among first names name)
  wires_among wires first [] name = no_more (wires name)
  wires_among wires first (other ∷ names) name =
      let next : ℕ = first + name_size widths types other in
      let one : Bool = is_one_of name names in
      let later : ℕ = wire_from widths types next names name in
      wires_among (with_wire wires other first) next names name
      ∙ first_or_rest (wires name) (bytes_eq other name) one first later
      ∙ ap (λ k. option_or (wires name) (if k || one then Some (if bytes_eq other name then first else later) else None)) (bytes_eq-sym other name)

  -- a name that is none of the list has the wire after them
  pub wire_past : (names : List Name) (name : Name) (first : ℕ) → is_one_of name names ≡ false → wire_from widths types first names name ≡ first + names_size widths types names
  wire_past [] name first none = omega arith
  wire_past (other ∷ names) name first none = by (bytes_eq name other) none (bytes_eq-sym other name) (wire_past names name (first + name_size widths types other))
    where
      by : (k : Bool) → (k || is_one_of name names) ≡ false → bytes_eq other name ≡ k
          → (is_one_of name names ≡ false → wire_from widths types (first + name_size widths types other) names name ≡ first + name_size widths types other + names_size widths types names)
          → wire_from widths types first (other ∷ names) name ≡ first + (name_size widths types other + names_size widths types names)
      by true none same deeper = absurd (cc none)
      by false none differs deeper = ap (λ k. if k then first else wire_from widths types (first + name_size widths types other) names name) differs ∙ deeper none ∙ omega arith

  -- names that are linked to themselves have the wires of the caller
  linked_self : (names : List Name) (caller own : Name → ℕ) (name : Name) → linked_wire (map (λ n. (n, n)) names) caller own name ≡ (if is_one_of name names then caller name else own name)
  linked_self [] caller own name = refl
  linked_self (first ∷ names) caller own name =
      by (bytes_eq first name) refl (linked_self names caller own name)
      ∙ ap (λ k. if k || is_one_of name names then caller name else own name) (bytes_eq-sym first name)
    where
      by : (k : Bool) → bytes_eq first name ≡ k → linked_wire (map (λ n. (n, n)) names) caller own name ≡ (if is_one_of name names then caller name else own name)
          → (if k then caller first else linked_wire (map (λ n. (n, n)) names) caller own name) ≡ (if k || is_one_of name names then caller name else own name)
      by true same deeper = ap caller (same_name first name same)
      by false differs deeper = deeper

  -- the wire of a name of which two lists got wires; that after the second list, if it is in neither
  pub wire_of_lists : (first own ifs : ℕ) (shared locals : List Name) (name : Name) → ifs ≡ own + names_size widths types locals
      → unwrap_or (with_wires widths types (with_wires widths types (λ n. None) first shared) own locals name) ifs
      ≡ linked_wire (map (λ n. (n, n)) shared) (wire_from widths types first shared) (wire_from widths types own locals) name
  wire_of_lists first own ifs shared locals name is =
      ap (λ o. unwrap_or o ifs) (wires_among (with_wires widths types (λ n. None) first shared) own locals name ∙ ap (λ o. option_or o (among own locals name)) (wires_among (λ n. None) first shared name))
      ∙ by (is_one_of name shared) (is_one_of name locals) refl
      ∙ sym (linked_self shared (wire_from widths types first shared) (wire_from widths types own locals) name)
    where
      by : (k m : Bool) → is_one_of name locals ≡ m
          → unwrap_or (option_or (if k then Some (wire_from widths types first shared name) else None) (if m then Some (wire_from widths types own locals name) else None)) ifs
          ≡ (if k then wire_from widths types first shared name else wire_from widths types own locals name)
      by true m one = refl
      by false true one = refl
      by false false none = is ∙ sym (wire_past locals name own none)
