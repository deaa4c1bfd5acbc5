-- Tables of permutations, and cells that are put at their new places.
use Rattle.std.proofs.Common.{◌≡◌, ◌≢◌, ◌∙◌, ◌<◌, ◌≤◌, ◌+◌, ◌-◌, refl, sym, ap, subst, arith, true≢false, nat_lt, ℕ, zero, suc, Bool, true, false, List, [], ◌∷◌, length, map, get_or, slice_get, slice_set, Option, Some, option_map, unwrap_or, if◌then◌else◌, bytes_eq}
use Rattle.std.proofs.Math.Path.{fun_ext}
use Rattle.std.proofs.lemmas.Bool.{ltb-false}
use Rattle.std.proofs.lemmas.Bool.Decides.{Decides-ltb}
use Rattle.std.proofs.lemmas.List.{length-set}
use Rattle.std.proofs.lemmas.List.FromFn.{length-map-range_with_len}
use Rattle.std.proofs.lemmas.Option.{none-some, slice_get-get_or, slice_get_within, slice_get_past}
use Rattle.tw_types.specs.Values.{Value}
use Rattle.tw_state.specs.States.{Name, Cell, Free, Store, cell_at}
use Rattle.tw_state.specs.FromCode.{ListedState, state_of}
use Rattle.tw_state.specs.Listed.{store_of}
use Rattle.tw_state.specs.Renaming.{Permutation, renamed_value, renamed_cell, cell_renamed_to, renamed_cells, renamed_store}
use Rattle.tw_state.specs.Renamings.{renumbered, IsPermutation, ArePlaced, renamed_list, IsRenamed}
use Rattle.tw_state.proofs.Basics.{some_value, by_test}
use Rattle.tw_state.proofs.Bijections.{same_list}
use Rattle.tw_state.proofs.Blocks.{get_all, cell_put, cell_other}
use Rattle.tw_state.proofs.Cells.{cell_at-range}
use Rattle.tw_state.proofs.FreeChains.{passes, pass_here, pass_elsewhere}
use Rattle.tw_state.proofs.FreeList.{by_block}

-- an element of a list that does not occur is nowhere
nowhere : (xs : List ℕ) (x : ℕ) → passes x xs ≡ 0 → (i : ℕ) → slice_get xs i ≡ Some x → ⊥
nowhere [] x none i found = none-some x found
nowhere (y ∷ xs) x none zero found = let more = pass_here x xs in let here = subst (λ z. passes x (z ∷ xs) ≡ 0) (some_value found) none in omega (arith, more, here)
nowhere (y ∷ xs) x none (suc i) found =
    let rest = nowhere xs x in
    by_block y x
    (λ same. let more = pass_here x xs in let here = subst (λ z. passes x (z ∷ xs) ≡ 0) same none in omega (arith, more, here))
    (λ differ. rest (sym (pass_elsewhere x y xs differ) ∙ none) i found)

-- an element that occurs once has one place
record OnePlace (xs : List ℕ) (x : ℕ) : Type 0 where
  pub place : ℕ
  pub at : slice_get xs place ≡ Some x
  pub only : (i : ℕ) → slice_get xs i ≡ Some x → i ≡ place

one_place : (xs : List ℕ) (x : ℕ) → passes x xs ≡ 1 → OnePlace xs x
one_place [] x once = absurd (omega (arith, (let none : passes x [] ≡ 0 = refl in none), once))
one_place (y ∷ xs) x once = by_block y x here (λ differ. elsewhere differ (one_place xs x (sym (pass_elsewhere x y xs differ) ∙ once)))
  where
    here : y ≡ x → OnePlace (y ∷ xs) x
    here same =
        let rest : passes x xs ≡ 0 = (let more = pass_here x xs in let all = subst (λ z. passes x (z ∷ xs) ≡ 1) same once in omega (arith, more, all)) in
        record { place = 0; at = ap Some same; only = λ i found. first i found rest }
      where
        first : (i : ℕ) → slice_get (y ∷ xs) i ≡ Some x → passes x xs ≡ 0 → i ≡ 0
        first zero found rest = refl
        first (suc i) found rest = absurd (nowhere xs x rest i found)

    elsewhere : y ≢ x → OnePlace xs x → OnePlace (y ∷ xs) x
    elsewhere differ rest =
        record { place = suc rest.place; at = rest.at; only = λ i found. later rest i found }
      where
        later : (rest : OnePlace xs x) (i : ℕ) → slice_get (y ∷ xs) i ≡ Some x → i ≡ suc rest.place
        later rest zero found = absurd (differ (some_value found))
        later rest (suc i) found = ap suc (rest.only i found)

module _ {blocks : ℕ} {perm : List ℕ} (is : IsPermutation blocks perm) where
  place_of : (k : ℕ) → k < blocks → OnePlace perm (suc k)
  place_of k within = one_place perm (suc k) (is.once (suc k) (omega arith) (omega (arith, within)))

  -- the old address of a block, by the test that it is one
  old_place : (k : ℕ) (test : Bool) → nat_lt k blocks ≡ test → ℕ
  old_place k true within = suc (place_of k ((Decides-ltb k blocks).0 within)).place
  old_place k false outside = 0

  old_block : ℕ → ℕ
  old_block zero = 0
  old_block (suc k) = old_place k (nat_lt k blocks) refl

  new_at : (i : ℕ) → i < blocks → slice_get perm i ≡ Some (renumbered perm (suc i))
  new_at i within = slice_get-get_or perm i (suc i) (let counted = is.counted in omega (arith, counted, within))

  new_within : (i : ℕ) → i < blocks → (0 < renumbered perm (suc i)) × (renumbered perm (suc i) ≤ blocks)
  new_within i within = get_all (λ block. (0 < block) × (block ≤ blocks)) perm i (renumbered perm (suc i)) is.within (new_at i within)

  -- the old place of a block is the one whose entry it is
  old_known : (k : ℕ) → k < blocks → (i : ℕ) → slice_get perm i ≡ Some (suc k) → old_block (suc k) ≡ suc i
  unfolding old_block old_place
  old_known k within i found = by (nat_lt k blocks) refl
    where
      by : (test : Bool) (same : nat_lt k blocks ≡ test) → old_place k test same ≡ suc i
      by true same = ap suc (sym ((place_of k ((Decides-ltb k blocks).0 same)).only i found))
      by false same = absurd (true≢false (sym ((Decides-ltb k blocks).1 within) ∙ same))

  old_within : (k : ℕ) (test : Bool) (same : nat_lt k blocks ≡ test) → old_place k test same ≤ blocks
  unfolding old_place
  old_within k true same =
      let place = place_of k ((Decides-ltb k blocks).0 same) in
      let within = slice_get_within perm place.place (suc k) place.at in
      let counted = is.counted in
      omega (arith, within, counted)
  old_within k false same = omega arith

  old_back : (k : ℕ) → k < blocks → (test : Bool) (same : nat_lt k blocks ≡ test) → renumbered perm (old_place k test same) ≡ suc k
  unfolding old_place
  old_back k within true same =
      let place = place_of k ((Decides-ltb k blocks).0 same) in
      let there = slice_get_within perm place.place (suc k) place.at in
      let counted = is.counted in
      some_value (sym (new_at place.place (omega (arith, there, counted))) ∙ place.at)
  old_back k within false same = absurd (true≢false (sym ((Decides-ltb k blocks).1 within) ∙ same))

  known_number : (block : ℕ) → 0 < block → block ≤ blocks → (i : ℕ) → slice_get perm i ≡ Some block → old_block block ≡ suc i
  known_number zero above within i found = absurd (omega (arith, above))
  known_number (suc k) above within i found = old_known k (omega (arith, within)) i found

  -- the permutation of a table
  pub permutation_of : Permutation blocks
  unfolding old_block
  permutation_of = record {
    to = renumbered perm;
    from = old_block;
    to_null = refl;
    from_null = refl;
    to_within = to_within;
    from_within = from_within;
    from_to = from_to;
    to_from = to_from;
  }
    where
      to_within : (block : ℕ) → block ≤ blocks → renumbered perm block ≤ blocks
      to_within zero within = omega arith
      to_within (suc i) within = (new_within i (omega (arith, within))).1

      from_within : (block : ℕ) → block ≤ blocks → old_block block ≤ blocks
      from_within zero within = omega arith
      from_within (suc k) within = old_within k (nat_lt k blocks) refl

      from_to : (block : ℕ) → block ≤ blocks → old_block (renumbered perm block) ≡ block
      from_to zero within = refl
      from_to (suc i) within =
          let new = new_within i (omega (arith, within)) in
          known_number (renumbered perm (suc i)) new.0 new.1 i (new_at i (omega (arith, within)))

      to_from : (block : ℕ) → block ≤ blocks → renumbered perm (old_block block) ≡ block
      to_from zero within = refl
      to_from (suc k) within = old_back k (omega (arith, within)) (nat_lt k blocks) refl

  -- the entry of a place is a block
  entry_at : (i : ℕ) → i < blocks → slice_get perm i ≡ Some (get_or perm i 0)
  entry_at i within = slice_get-get_or perm i 0 (let counted = is.counted in omega (arith, counted, within))

  pub entry_within : (i : ℕ) → i < blocks → (0 < get_or perm i 0) × (get_or perm i 0 ≤ blocks)
  entry_within i within = get_all (λ block. (0 < block) × (block ≤ blocks)) perm i (get_or perm i 0) is.within (entry_at i within)

  -- two places with one entry are one
  one_entry : (i j : ℕ) → i < blocks → j < blocks → get_or perm i 0 - 1 ≡ get_or perm j 0 - 1 → i ≡ j
  one_entry i j here there same =
      let first = entry_within i here in
      let second = entry_within j there in
      let equal : get_or perm i 0 ≡ get_or perm j 0 = omega (arith, first.0, second.0, same) in
      let one = one_place perm (get_or perm j 0) (is.once (get_or perm j 0) second.0 second.1) in
      one.only i (entry_at i here ∙ ap Some equal) ∙ sym (one.only j (entry_at j there))

  -- one more cell is put at its new place
  pub one_more_placed : (old new : List Cell) (place : ℕ) (cell put : Cell) → length old ≡ blocks → place < blocks → slice_get old place ≡ Some cell → put ≡ renamed_cell (renumbered perm) cell
      → ArePlaced perm old place new → ArePlaced perm old (place + 1) (slice_set new (get_or perm place 0 - 1) put)
  one_more_placed old new place cell put len within at is_put placed = record { as_many = length-set new (get_or perm place 0 - 1) put ∙ placed.as_many; placed = each }
    where
      entry : ℕ
      entry = get_or perm place 0 - 1

      found : (i : ℕ) → i < length new → slice_get new i ≡ Some (get_or new i (Free 0))
      found i here = slice_get-get_or new i (Free 0) here

      inside : entry < length new
      inside = let e = entry_within place within in let many = placed.as_many in omega (arith, e.0, e.1, many, len)

      each : (i : ℕ) (other : Cell) → i < place + 1 → slice_get old i ≡ Some other → slice_get (slice_set new entry put) (get_or perm i 0 - 1) ≡ Some (renamed_cell (renumbered perm) other)
      each i other below is_other =
          by_block i place
          (λ same.
          subst (λ (k : ℕ). slice_get (slice_set new entry put) (get_or perm k 0 - 1) ≡ Some (renamed_cell (renumbered perm) other)) (sym same)
          (cell_put new (suc entry) put (get_or new entry (Free 0)) (found entry inside)
          ∙ ap Some (is_put ∙ ap (renamed_cell (renumbered perm)) (some_value (sym at ∙ (ap (slice_get old) (sym same) ∙ is_other))))))
          (λ differ.
          cell_other new (suc entry) (suc (get_or perm i 0 - 1)) put (λ (same : suc entry ≡ suc (get_or perm i 0 - 1)). differ (one_entry i place (omega (arith, below, within)) within (omega (arith, same))))
          ∙ placed.placed i other (omega (arith, below, differ)) is_other)

  -- all cells at their new places are the renamed ones
  pub all_placed : (old new : List Cell) → length old ≡ blocks → ArePlaced perm old blocks new → new ≡ renamed_cells permutation_of old
  unfolding permutation_of old_block
  all_placed old new len placed =
      same_list new (renamed_cells permutation_of old) (placed.as_many ∙ sym (length-map-range_with_len (cell_renamed_to permutation_of old) 1 (length old))) each
    where
      cell_from : ℕ → Cell
      cell_from = cell_renamed_to permutation_of old

      inside : (k : ℕ) → k < blocks → slice_get new k ≡ slice_get (renamed_cells permutation_of old) k
      inside k within =
          let one = place_of k within in
          let there = slice_get_within perm one.place (suc k) one.at in
          let counted = is.counted in
          let known : one.place < blocks = omega (arith, there, counted) in
          let entry : get_or perm one.place 0 ≡ suc k = some_value (sym (entry_at one.place known) ∙ one.at) in
          let target : get_or perm one.place 0 - 1 ≡ k = omega (arith, entry) in
          let cell = slice_get-get_or old one.place (Free 0) (omega (arith, known, len)) in
          ap (slice_get new) (sym target)
          ∙ placed.placed one.place (get_or old one.place (Free 0)) known cell
          ∙ sym (cell_at-range cell_from (length old) (suc k) (omega arith) (omega (arith, within, len))
          ∙ ap (λ (b : ℕ). Some (renamed_cell (renumbered perm) (unwrap_or (cell_at old b) (Free 0)))) (old_known k within one.place one.at)
          ∙ ap (λ (c : Option Cell). Some (renamed_cell (renumbered perm) (unwrap_or c (Free 0)))) cell)

      each : (k : ℕ) → slice_get new k ≡ slice_get (renamed_cells permutation_of old) k
      each k =
          by_test (nat_lt k blocks) (λ test. inside k ((Decides-ltb k blocks).0 test))
          (λ test.
          let past = ltb-false k blocks test in
          let many = placed.as_many in
          let others = length-map-range_with_len cell_from 1 (length old) in
          slice_get_past new k (omega (arith, past, many, len)) ∙ sym (slice_get_past (renamed_cells permutation_of old) k (omega (arith, past, others, len))))

-- the values of a listed store, renamed, are those of the renamed store
pub values_renamed : {blocks : ℕ} (pi : Permutation blocks) (names : List Name) (values : List Value) → store_of names (map (renamed_value pi.to) values) ≡ renamed_store pi (store_of names values)
values_renamed pi names values = fun_ext (each names values)
  where
    by : (k : Bool) (value : Value) (rest : Option Value) → (if k then Some (renamed_value pi.to value) else option_map (renamed_value pi.to) rest) ≡ option_map (renamed_value pi.to) (if k then Some value else rest)
    by true value rest = refl
    by false value rest = refl

    each : (names : List Name) (values : List Value) (name : Name) → store_of names (map (renamed_value pi.to) values) name ≡ option_map (renamed_value pi.to) (store_of names values name)
    each [] values name = refl
    each (first ∷ names) [] name = refl
    each (first ∷ names) (value ∷ values) name =
        ap (λ (rest : Option Value). if bytes_eq first name then Some (renamed_value pi.to value) else rest) (each names values name)
        ∙ by (bytes_eq first name) value (store_of names values name)

-- a state whose parts are the renamed ones is renamed
pub are_renamed : (perm : List ℕ) (old : ListedState) (head : ℕ) (cells : List Cell) (values : List Value) → IsPermutation (length old.cells) perm → head ≡ renumbered perm old.head → ArePlaced perm old.cells (length old.cells) cells
    → values ≡ map (renamed_value (renumbered perm)) old.values → IsRenamed perm old (record { head = head; cells = cells; values = values })
unfolding permutation_of
are_renamed perm old head cells values is is_head are_cells are_values =
    let pi = permutation_of is in
    let placed = all_placed is old.cells cells refl are_cells in
    let after : record { head = head; cells = cells; values = values } ≡ renamed_list pi old = same_listed is_head placed are_values in
    record {
      pi = pi;
      table = λ block. refl;
      after = after;
      states = λ names. ap (state_of names) after ∙ ap (λ (store : Store). record { head = pi.to old.head; cells = renamed_cells pi old.cells; store = store }) (values_renamed pi names old.values);
    }
  where
    listed : ℕ → List Cell → List Value → ListedState
    listed h c v = record { head = h; cells = c; values = v }

    same_listed : {h h2 : ℕ} {c c2 : List Cell} {v v2 : List Value} → h ≡ h2 → c ≡ c2 → v ≡ v2 → listed h c v ≡ listed h2 c2 v2
    same_listed {h} {h2} {c} {c2} {v} {v2} a b d = ap (λ x. listed x c v) a ∙ ap (λ x. listed h2 x v) b ∙ ap (listed h2 c2) d
