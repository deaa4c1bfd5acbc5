-- The result of an entry commutes with each permutation of the blocks.
use Rattle.std.proofs.Common.{◌≡◌, ◌∙◌, ◌≤◌, ◌<◌, leb, leb-true, le-leb, refl, sym, ap, ap₂, subst, subst₂, arith, ℕ, suc, false, ltb, ltb-true, ltb-false, if◌then◌else◌, length, Option, Some, None, option_map, unwrap_or}
use Rattle.std.proofs.Math.Path.{fun_ext}
use Rattle.std.specs.List.{AllByRecursion}
use Rattle.std.proofs.lemmas.Option.{slice_get_past}
use Rattle.std.proofs.lemmas.List.FromFn.{length-map-range_with_len}
use Rattle.tw_syntax.specs.Programs.{FunTree}
use Rattle.tw_types.specs.Types.{Widths, Ty, UnitTy, Word, Boolean, Pointer, PairTy, block_count}
use Rattle.tw_types.specs.Values.{Value, UnitValue, Number, Truth, Address, PairValue, HasType}
use Rattle.tw_resolve.specs.Expressions.{Types}
use Rattle.tw_resolve.specs.Setting.{Setting, type_of}
use Rattle.tw_check.specs.Names.{Names}
use Rattle.tw_state.specs.States.{Cell, Free, Live, State, cell_at}
use Rattle.tw_state.specs.Steps.{activation_of, Adds}
use Rattle.tw_state.specs.Semantics.{Runs}
use Rattle.tw_state.specs.Results.{Fits, IsCell, IsTypedIn, IsTypedAt, RunsEntry, RunsBody, RunsNoBody, HasResult}
use Rattle.tw_state.specs.Renaming.{Permutation, renamed_value, renamed_cell, cell_renamed_to, renamed_cells, renamed}
use Rattle.tw_state.proofs.Basics.{by_test, by_option}
use Rattle.tw_state.proofs.Cells.{all_of_range, cell_at-range}
use Rattle.tw_state.proofs.Chain.{well_formed-renamed}
use Rattle.tw_state.proofs.Blocks.{cell_has}
use Rattle.tw_state.proofs.SingleSteps.{same_state}
use Rattle.tw_state.proofs.Bijections.{IsTotal, same_list, live_renamed}
use Rattle.tw_state.proofs.RenamedRuns.{runs_renamed, added_zero_renamed}

-- a function on blocks that leaves other numbers alone
extend : ℕ → (ℕ → ℕ) → ℕ → ℕ
extend blocks f block = if leb block blocks then f block else block

extend_within : (blocks : ℕ) (f : ℕ → ℕ) (block : ℕ) → block ≤ blocks → extend blocks f block ≡ f block
unfolding extend
extend_within blocks f block within = rw (le-leb block blocks within) refl

extend_past : (blocks : ℕ) (f : ℕ → ℕ) (block : ℕ) → leb block blocks ≡ false → extend blocks f block ≡ block
unfolding extend
extend_past blocks f block past = rw past refl

extend_back : (blocks : ℕ) (f g : ℕ → ℕ) → ((block : ℕ) → block ≤ blocks → f block ≤ blocks) → ((block : ℕ) → block ≤ blocks → g (f block) ≡ block) → (block : ℕ) → extend blocks g (extend blocks f block) ≡ block
extend_back blocks f g within back block =
    by_test (leb block blocks)
    (λ test.
    let inside = leb-true block blocks test in
    ap (extend blocks g) (extend_within blocks f block inside) ∙ extend_within blocks g (f block) (within block inside) ∙ back block inside)
    (λ test. ap (extend blocks g) (extend_past blocks f block test) ∙ extend_past blocks g block test)

-- a permutation of the blocks as one of all numbers
extended : {blocks : ℕ} → Permutation blocks → Permutation blocks
extended {blocks} pi = record {
  to = extend blocks pi.to;
  from = extend blocks pi.from;
  to_null = extend_within blocks pi.to 0 (omega arith) ∙ pi.to_null;
  from_null = extend_within blocks pi.from 0 (omega arith) ∙ pi.from_null;
  to_within = λ block within. subst (λ n. n ≤ blocks) (sym (extend_within blocks pi.to block within)) (pi.to_within block within);
  from_within = λ block within. subst (λ n. n ≤ blocks) (sym (extend_within blocks pi.from block within)) (pi.from_within block within);
  from_to = λ block within. extend_back blocks pi.to pi.from pi.to_within pi.from_to block;
  to_from = λ block within. extend_back blocks pi.from pi.to pi.from_within pi.to_from block;
}

extended_total : {blocks : ℕ} (pi : Permutation blocks) → IsTotal (extended pi)
unfolding extended
extended_total {blocks} pi = record {
  from_to = extend_back blocks pi.to pi.from pi.to_within pi.from_to;
  to_from = extend_back blocks pi.from pi.to pi.from_within pi.to_from;
}

-- functions that agree on blocks rename typed values alike
value_same : (widths : Widths) (f g : ℕ → ℕ) → ((block : ℕ) → block ≤ block_count widths → f block ≡ g block) → (value : Value) (ty : Ty) → HasType widths value ty → renamed_value f value ≡ renamed_value g value
value_same widths f g same UnitValue ty typed = refl
value_same widths f g same (Number n) ty typed = refl
value_same widths f g same (Truth is) ty typed = refl
value_same widths f g same (Address block) (Pointer target) typed = ap Address (same block typed)
value_same widths f g same (PairValue x y) (PairTy first second) typed = ap₂ PairValue (value_same widths f g same x first typed.0) (value_same widths f g same y second typed.1)
value_same widths f g same (Address block) UnitTy typed = absurd typed
value_same widths f g same (Address block) Word typed = absurd typed
value_same widths f g same (Address block) Boolean typed = absurd typed
value_same widths f g same (Address block) (PairTy first second) typed = absurd typed
value_same widths f g same (PairValue x y) UnitTy typed = absurd typed
value_same widths f g same (PairValue x y) Word typed = absurd typed
value_same widths f g same (PairValue x y) Boolean typed = absurd typed
value_same widths f g same (PairValue x y) (Pointer target) typed = absurd typed

-- a renamed value keeps its type
value_typed : (widths : Widths) (f : ℕ → ℕ) → ((block : ℕ) → block ≤ block_count widths → f block ≤ block_count widths) → (value : Value) (ty : Ty) → HasType widths value ty → HasType widths (renamed_value f value) ty
value_typed widths f within UnitValue ty typed = typed
value_typed widths f within (Number n) ty typed = typed
value_typed widths f within (Truth is) ty typed = typed
value_typed widths f within (Address block) (Pointer target) typed = within block typed
value_typed widths f within (PairValue x y) (PairTy first second) typed = (value_typed widths f within x first typed.0, value_typed widths f within y second typed.1)
value_typed widths f within (Address block) UnitTy typed = absurd typed
value_typed widths f within (Address block) Word typed = absurd typed
value_typed widths f within (Address block) Boolean typed = absurd typed
value_typed widths f within (Address block) (PairTy first second) typed = absurd typed
value_typed widths f within (PairValue x y) UnitTy typed = absurd typed
value_typed widths f within (PairValue x y) Word typed = absurd typed
value_typed widths f within (PairValue x y) Boolean typed = absurd typed
value_typed widths f within (PairValue x y) (Pointer target) typed = absurd typed

module _ (setting : Setting) (pi : Permutation (block_count setting.widths)) where
  blocks : ℕ
  blocks = block_count setting.widths

  cell_same : (f g : ℕ → ℕ) → ((block : ℕ) → block ≤ block_count setting.widths → f block ≡ g block) → (cell : Cell) → IsCell setting cell → renamed_cell f cell ≡ renamed_cell g cell
  cell_same f g same (Free next) is = ap Free (same next is)
  cell_same f g same (Live target value) is = ap (Live target) (value_same setting.widths f g same value is.0 is.2)

  cell_typed : (cell : Cell) → IsCell setting cell → IsCell setting (renamed_cell pi.to cell)
  cell_typed (Free next) is = pi.to_within next is
  cell_typed (Live target value) is = (is.0, is.1, value_typed setting.widths pi.to pi.to_within value is.0 is.2)

  -- the cell that is renamed to a block
  found_typed : (state : State) → AllByRecursion (IsCell setting) state.cells → (block : ℕ) → IsCell setting (unwrap_or (cell_at state.cells block) (Free 0))
  found_typed state all block =
      by_option (cell_at state.cells block) (λ none. subst (λ o. IsCell setting (unwrap_or o (Free 0))) (sym none) (omega arith))
      (λ cell is. subst (λ o. IsCell setting (unwrap_or o (Free 0))) (sym is) (cell_has (IsCell setting) state.cells block cell all is))

  fits_renamed : (ty : Option Ty) (o : Option Value) → Fits setting.widths ty o → Fits setting.widths ty (option_map (renamed_value pi.to) o)
  fits_renamed ty None fits = tt
  fits_renamed (Some ty) (Some value) fits = value_typed setting.widths pi.to pi.to_within value ty fits
  fits_renamed None (Some value) fits = absurd fits

  typed_renamed : {types : Types} {state : State} → IsTypedIn setting types state → IsTypedIn setting types (renamed pi state)
  typed_renamed {types} {state} typed = record {
    head_within = pi.to_within state.head typed.head_within;
    all_blocks = length-map-range_with_len (cell_renamed_to pi state.cells) 1 (length state.cells) ∙ typed.all_blocks;
    each_cell = all_of_range (IsCell setting) (cell_renamed_to pi state.cells) (λ block. cell_typed (unwrap_or (cell_at state.cells (pi.from block)) (Free 0)) (found_typed state typed.each_cell (pi.from block))) 1 (length state.cells);
    names = λ name. fits_renamed (types name) (state.store name) (typed.names name);
  }

  typed_at_renamed : {fun : FunTree} {live : Names} {state : State} → IsTypedAt setting fun live state → IsTypedAt setting fun live (renamed pi state)
  typed_at_renamed {fun} {live} {state} at = record { typed = typed_renamed at.typed; names = live_renamed pi state.store ∙ at.names }

  -- a typed state is renamed alike by the permutation of all numbers
  to_same : (block : ℕ) → block ≤ block_count setting.widths → (extended pi).to block ≡ pi.to block
  unfolding extended
  to_same block within = extend_within (block_count setting.widths) pi.to block within

  from_same : (block : ℕ) → block ≤ block_count setting.widths → (extended pi).from block ≡ pi.from block
  unfolding extended
  from_same block within = extend_within (block_count setting.widths) pi.from block within

  store_same : (ty : Option Ty) (o : Option Value) → Fits setting.widths ty o → option_map (renamed_value (extended pi).to) o ≡ option_map (renamed_value pi.to) o
  store_same ty None fits = refl
  store_same (Some ty) (Some value) fits = ap Some (value_same setting.widths (extended pi).to pi.to to_same value ty fits)
  store_same None (Some value) fits = absurd fits

  cells_same : (state : State) → length state.cells ≡ block_count setting.widths → AllByRecursion (IsCell setting) state.cells → renamed_cells (extended pi) state.cells ≡ renamed_cells pi state.cells
  cells_same state len all =
      same_list (renamed_cells (extended pi) state.cells) (renamed_cells pi state.cells)
      (first_len ∙ sym second_len)
      (λ i.
      by_test (ltb i (length state.cells))
      (λ test. let inside = ltb-true i (length state.cells) test in each (suc i) (omega arith) (omega (arith, inside)))
      (λ test.
      let past = ltb-false i (length state.cells) test in
      slice_get_past (renamed_cells (extended pi) state.cells) i (subst (λ n. n ≤ i) (sym first_len) past)
      ∙ sym (slice_get_past (renamed_cells pi state.cells) i (subst (λ n. n ≤ i) (sym second_len) past))))
    where
      first_len : length (renamed_cells (extended pi) state.cells) ≡ length state.cells
      first_len = length-map-range_with_len (cell_renamed_to (extended pi) state.cells) 1 (length state.cells)

      second_len : length (renamed_cells pi state.cells) ≡ length state.cells
      second_len = length-map-range_with_len (cell_renamed_to pi state.cells) 1 (length state.cells)

      each : (b : ℕ) → 0 < b → b ≤ length state.cells → cell_at (renamed_cells (extended pi) state.cells) b ≡ cell_at (renamed_cells pi state.cells) b
      each b above within =
          cell_at-range (cell_renamed_to (extended pi) state.cells) (length state.cells) b above within
          ∙ ap (λ n. Some (renamed_cell (extended pi).to (unwrap_or (cell_at state.cells n) (Free 0)))) (from_same b (subst (λ n. b ≤ n) len within))
          ∙ ap Some (cell_same (extended pi).to pi.to to_same (unwrap_or (cell_at state.cells (pi.from b)) (Free 0)) (found_typed state all (pi.from b)))
          ∙ sym (cell_at-range (cell_renamed_to pi state.cells) (length state.cells) b above within)

  state_same : {types : Types} (state : State) → IsTypedIn setting types state → renamed (extended pi) state ≡ renamed pi state
  state_same {types} state typed =
      same_state (to_same state.head typed.head_within) (cells_same state typed.all_blocks typed.each_cell)
      (fun_ext (λ name. store_same (types name) (state.store name) (typed.names name)))

  -- the result of the renamed state is the renamed result
  pub result_renamed : {fun : FunTree} {bound : Option ℕ} {x y : State} → HasResult setting fun bound x y → HasResult setting fun bound (renamed pi x) (renamed pi y)
  result_renamed {fun} {bound} {x} {y} has = record {
    well_formed = well_formed-renamed pi x has.typed_at_start.typed.all_blocks has.well_formed;
    typed_at_start = typed_at_renamed has.typed_at_start;
    runs = by has.runs;
    typed_at_end = typed_at_renamed has.typed_at_end;
  } where
    by : RunsEntry setting fun bound x y → RunsEntry setting fun bound (renamed pi x) (renamed pi y)
    by (RunsBody n running runs) =
        RunsBody n running
        (subst₂ (Runs setting (activation_of setting fun n) fun.body) (state_same x has.typed_at_start.typed) (state_same y has.typed_at_end.typed)
        (runs_renamed (extended pi) (extended_total pi) setting has.typed_at_start.typed.all_blocks runs))
    by (RunsNoBody result none cleared adds) =
        RunsNoBody result none cleared
        (subst₂ (Adds fun.returned.text result) (state_same x has.typed_at_start.typed) (state_same y has.typed_at_end.typed)
        (added_zero_renamed (extended pi) (extended_total pi) (type_of setting fun.result) cleared adds))
