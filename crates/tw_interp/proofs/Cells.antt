-- The cells of the code by blocks.
use Rattle.std.proofs.Common.{◌≡◌, ◌∙◌, ◌≤◌, ◌-◌, ap, sym, refl, arith, ℕ, zero, suc, List, [], ◌∷◌, map, length, Some, None, option_map, slice_get, slice_set}
use Rattle.std.proofs.lemmas.Option.{slice_get-map, slice_get_past}
use Rattle.tw_state.specs.declared.state.Cell.{Cell as CellOfCode}
use Rattle.tw_state.specs.FromCode.{cell_of}
use Rattle.tw_state.specs.States.{cell_at, with_cell}
use Rattle.tw_interp.specs.Machines.{cells_of}

map_slice_set : {A B : Type 0} (f : A → B) (xs : List A) (i : ℕ) (x : A) → map f (slice_set xs i x) ≡ slice_set (map f xs) i (f x)
map_slice_set f [] i x = refl
map_slice_set f (y ∷ ys) zero x = refl
map_slice_set f (y ∷ ys) (suc i) x = ap (λ zs. f y ∷ zs) (map_slice_set f ys i x)

-- the cell of a block that is there
pub cell_there : (cells : List CellOfCode) (block : ℕ) (cell : CellOfCode) → (block ≡ 0 → ⊥) → slice_get cells (block - 1) ≡ Some cell → Some (cell_of cell) ≡ cell_at (cells_of cells) block
cell_there cells zero cell some is = absurd (some refl)
cell_there cells (suc i) cell some is =
    let e : suc i - 1 ≡ i = omega arith in
    sym (slice_get-map cell_of cells i ∙ ap (option_map cell_of) (ap (slice_get cells) (sym e) ∙ is))

pub cell_past : (cells : List CellOfCode) (block : ℕ) → (block ≡ 0 → ⊥) → length cells ≤ block - 1 → None ≡ cell_at (cells_of cells) block
cell_past cells zero some past = absurd (some refl)
cell_past cells (suc i) some past = sym (slice_get-map cell_of cells i ∙ ap (option_map cell_of) (slice_get_past cells i (omega (arith, past))))

pub cell_written : (cells : List CellOfCode) (block : ℕ) (cell : CellOfCode) → (block ≡ 0 → ⊥) → cells_of (slice_set cells (block - 1) cell) ≡ with_cell (cells_of cells) block (cell_of cell)
cell_written cells zero cell some = absurd (some refl)
cell_written cells (suc i) cell some =
    let e : suc i - 1 ≡ i = omega arith in
    ap (λ (j : ℕ). cells_of (slice_set cells j cell)) e ∙ map_slice_set cell_of cells i cell
