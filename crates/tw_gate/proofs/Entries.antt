-- Lists of gates as entries and a pool: how a longer pool, a push and an inverse change the gates.
use Rattle.std.proofs.Common.{◌≡◌, ◌∙◌, ap, ℕ, ◌+◌, ◌-◌, ◌≤◌, List, [], ◌∷◌, ◌++◌, length, map, reverse, take, drop, slice_range, refl, arith, length-append, length-drop}
use Rattle.std.proofs.lemmas.List.{drop-append-le, take-append-le, map-append, reverse-append}
use Rattle.std.specs.List.{AllByRecursion}
use Rattle.tw_gate.specs.declared.list.Entry.{Entry}
use Rattle.tw_gate.specs.declared.list.Kind.{Kind}
use Rattle.tw_gate.specs.declared.list.Kind.TheVariants as kind
use Rattle.tw_gate.specs.Gates.{PlainGate, inverse, inverse_gate}
use Rattle.tw_gate.specs.Entries.{gate_with, gate_of, LiesWithin, inverse_kind, inverse_entry}

slice_range-append : (xs ys : List ℕ) (from to : ℕ) → from ≤ to → to ≤ length xs → slice_range (xs ++ ys) from to ≡ slice_range xs from to
slice_range-append xs ys from to order within =
    let begins : from ≤ length xs = omega (arith, order, within) in
    let ends : to - from ≤ length (drop from xs) = omega (arith, length-drop from xs, order, within) in
    ap (take (to - from)) (drop-append-le from xs ys begins) ∙ take-append-le (to - from) (drop from xs) ys ends

-- a longer pool leaves the gates of the entries
gate_of-grown : (pool more : List ℕ) (entry : Entry) → LiesWithin (length pool) entry → gate_of (pool ++ more) entry ≡ gate_of pool entry
gate_of-grown pool more entry within =
    ap (λ (controls : List ℕ). gate_with entry.kind controls entry.wire) (slice_range-append pool more entry.from (entry.from + entry.controls) (omega arith) within)

gates_of-grown : (pool more : List ℕ) (xs : List Entry) → AllByRecursion (LiesWithin (length pool)) xs → map (gate_of (pool ++ more)) xs ≡ map (gate_of pool) xs
gates_of-grown pool more [] within = refl
gates_of-grown pool more (entry ∷ xs) within = rw (gate_of-grown pool more entry within.0, gates_of-grown pool more xs within.1) refl

within_push : (small large : ℕ) (xs : List Entry) (entry : Entry) → small ≤ large → AllByRecursion (LiesWithin small) xs → LiesWithin large entry → AllByRecursion (LiesWithin large) (xs ++ entry ∷ [])
within_push small large [] entry more within last = (last, tt)
within_push small large (x ∷ xs) entry more within last = (omega (arith, within.0, more), within_push small large xs entry more within.1 last)

-- controls that no entry names do not change the gates
pub gates_unnamed : (pool more grown : List ℕ) (xs : List Entry) → grown ≡ pool ++ more → AllByRecursion (LiesWithin (length pool)) xs → map (gate_of grown) xs ≡ map (gate_of pool) xs
gates_unnamed pool more grown xs e within = rw e (gates_of-grown pool more xs within)

-- an entry appended to the others is its gate appended to theirs
pub gates_push : (pool more grown : List ℕ) (xs : List Entry) (entry : Entry) (gate : PlainGate) → grown ≡ pool ++ more → AllByRecursion (LiesWithin (length pool)) xs → gate_of grown entry ≡ gate → map (gate_of grown) (xs ++ entry ∷ []) ≡ map (gate_of pool) xs ++ gate ∷ []
gates_push pool more grown xs entry gate e within named =
    map-append (gate_of grown) xs (entry ∷ []) ∙ rw (gates_unnamed pool more grown xs e within, named) refl

pub places_push : (pool more grown : List ℕ) (xs : List Entry) (entry : Entry) → grown ≡ pool ++ more → AllByRecursion (LiesWithin (length pool)) xs → LiesWithin (length grown) entry → AllByRecursion (LiesWithin (length grown)) (xs ++ entry ∷ [])
places_push pool more grown xs entry e within last =
    let longer : length pool ≤ length grown = omega (arith, ap length e, length-append pool more) in
    within_push (length pool) (length grown) xs entry longer within last

gate_with-inverse : (k : Kind) (controls : List ℕ) (wire : ℕ) → gate_with (inverse_kind k) controls wire ≡ inverse_gate (gate_with k controls wire)
gate_with-inverse kind.X controls wire = refl
gate_with-inverse kind.H controls wire = refl
gate_with-inverse kind.T controls wire = refl
gate_with-inverse kind.Tdg controls wire = refl

reverse-cons : (entry : Entry) (xs : List Entry) → reverse (entry ∷ xs) ≡ reverse xs ++ entry ∷ []
reverse-cons entry xs = reverse-append (entry ∷ []) xs

-- the inverse entries in reverse order are the inverse of the gates
pub gates_inverse : (pool : List ℕ) (xs : List Entry) → map (gate_of pool) (map inverse_entry (reverse xs)) ≡ inverse (map (gate_of pool) xs)
gates_inverse pool [] = refl
gates_inverse pool (entry ∷ xs) =
    ap (λ (ys : List Entry). map (gate_of pool) (map inverse_entry ys)) (reverse-cons entry xs)
    ∙ ap (map (gate_of pool)) (map-append inverse_entry (reverse xs) (entry ∷ []))
    ∙ map-append (gate_of pool) (map inverse_entry (reverse xs)) (inverse_entry entry ∷ [])
    ∙ rw (gates_inverse pool xs, gate_with-inverse entry.kind (slice_range pool entry.from (entry.from + entry.controls)) entry.wire) refl

within_snoc : (size : ℕ) (xs : List Entry) (entry : Entry) → AllByRecursion (LiesWithin size) (map inverse_entry xs) → LiesWithin size entry → AllByRecursion (LiesWithin size) (map inverse_entry (xs ++ entry ∷ []))
within_snoc size [] entry within last = (last, tt)
within_snoc size (x ∷ xs) entry within last = (within.0, within_snoc size xs entry within.1 last)

pub places_inverse : (size : ℕ) (xs : List Entry) → AllByRecursion (LiesWithin size) xs → AllByRecursion (LiesWithin size) (map inverse_entry (reverse xs))
places_inverse size [] within = tt
places_inverse size (entry ∷ xs) within = rw (reverse-cons entry xs) (within_snoc size (reverse xs) entry (places_inverse size xs within.1) within.0)
