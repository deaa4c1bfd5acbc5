-- The cells of a list are appended one by one.
use Rattle.std.proofs.Common.{◌≡◌, ◌∙◌, sym, ap, ap₂, ℕ, suc, ◌+◌, ◌-◌, ◌<◌, arith, List, [], ◌∷◌, ◌++◌, length, drop, map, Some, slice_get, length-drop, append_assoc, append-nil}
use Rattle.std.proofs.lemmas.List.{map-append}
use Rattle.tw_state.specs.declared.state.Cell.{Cell as CellOfCode}
use Rattle.tw_state.specs.States.{Cell, Free}
use Rattle.tw_state.specs.FromCode.{cell_of}
use Rattle.tw_state.proofs.EntryNames.{dropped_at}
use Rattle.tw_ground.specs.Lists.{first_of, item_cell, item_cells, free_cells}

-- one more cell, before those that are left
one_more : (cells new : List CellOfCode) (cell : CellOfCode) (left : List Cell) → new ≡ cells ++ cell ∷ [] → map cell_of new ++ left ≡ map cell_of cells ++ cell_of cell ∷ left
one_more cells new cell left pushed =
    ap (λ cs. map cell_of cs ++ left) pushed ∙ ap (λ cs. cs ++ left) (map-append cell_of cells (cell ∷ [])) ∙ append_assoc (map cell_of cells) (cell_of cell ∷ []) left

-- one more item
pub items_step : (cells new : List CellOfCode) (cell : CellOfCode) (all : List Cell) (items : List ℕ) (place item next : ℕ) → slice_get items place ≡ Some item → new ≡ cells ++ cell ∷ [] → cell_of cell ≡ item_cell item next
    → next ≡ first_of (place + 2) (length items - place - 1) → map cell_of cells ++ item_cells (suc place) (drop place items) ≡ all → map cell_of new ++ item_cells (suc (place + 1)) (drop (place + 1) items) ≡ all
items_step cells new cell all items place item next found pushed is linked so =
    let rest = drop (place + 1) items in
    let count : length items - place - 1 ≡ length rest = (let size = length-drop (place + 1) items in omega (arith, size)) in
    let two : place + 2 ≡ suc (suc place) = omega arith in
    let one : place + 1 ≡ suc place = omega arith in
    let link = linked ∙ ap₂ first_of two count in
    let left : item_cells (suc place) (drop place items) ≡ item_cell item (first_of (suc (suc place)) (length rest)) ∷ item_cells (suc (suc place)) rest = ap (item_cells (suc place)) (dropped_at items place item found) in
    one_more cells new cell (item_cells (suc (place + 1)) rest) pushed
    ∙ ap₂ (λ c n. map cell_of cells ++ c ∷ item_cells (suc n) rest) (is ∙ ap (item_cell item) link) one
    ∙ ap (λ cs. map cell_of cells ++ cs) (sym left)
    ∙ so

-- one more free cell
pub free_step : (cells new : List CellOfCode) (cell : CellOfCode) (all : List Cell) (blocks place next : ℕ) → place < blocks → new ≡ cells ++ cell ∷ [] → cell_of cell ≡ Free next
    → next ≡ first_of (place + 2) (blocks - place - 1) → map cell_of cells ++ free_cells (suc place) (blocks - place) ≡ all → map cell_of new ++ free_cells (suc (place + 1)) (blocks - (place + 1)) ≡ all
free_step cells new cell all blocks place next within pushed is linked so =
    let count : blocks - place - 1 ≡ blocks - (place + 1) = omega arith in
    let more : blocks - place ≡ suc (blocks - (place + 1)) = omega (arith, within) in
    let two : place + 2 ≡ suc (suc place) = omega arith in
    let one : place + 1 ≡ suc place = omega arith in
    let link = linked ∙ ap₂ first_of two count in
    one_more cells new cell (free_cells (suc (place + 1)) (blocks - (place + 1))) pushed
    ∙ ap₂ (λ c n. map cell_of cells ++ c ∷ free_cells (suc n) (blocks - (place + 1))) (is ∙ ap Free link) one
    ∙ ap (λ n. map cell_of cells ++ free_cells (suc place) n) (sym more)
    ∙ so

-- no item is left
pub items_done : (cells : List CellOfCode) (all : List Cell) (left : List ℕ) (place : ℕ) → left ≡ [] → map cell_of cells ++ item_cells (suc place) left ≡ all → map cell_of cells ≡ all
items_done cells all left place none so = sym (append-nil (map cell_of cells)) ∙ ap (λ l. map cell_of cells ++ item_cells (suc place) l) (sym none) ∙ so

-- no block is left
pub free_done : (cells : List CellOfCode) (all : List Cell) (left place : ℕ) → left ≡ 0 → map cell_of cells ++ free_cells (suc place) left ≡ all → map cell_of cells ≡ all
free_done cells all left place none so = sym (append-nil (map cell_of cells)) ∙ ap (λ n. map cell_of cells ++ free_cells (suc place) n) (sym none) ∙ so
