-- Cells looked up by their blocks, and what holds of all cells.
use Rattle.std.proofs.Common.{◌≡◌, ℕ, zero, suc, ◌≤◌, ◌<◌, ◌+◌, List, [], ◌∷◌, length, map, get_or, Some, unwrap_or, slice_get, ap, ◌∙◌, arith}
use Rattle.std.specs.List.{AllByRecursion, range_with_len}
use Rattle.std.proofs.lemmas.List.FromFn.{length-map-range_with_len, get_or-map-range_with_len}
use Rattle.std.proofs.lemmas.Option.{slice_get_within, slice_get-get_or}
use Rattle.tw_state.specs.States.{Cell, Free, cell_at}

-- if P implies Q and holds of each element, then Q holds of each element
pub all_map : {X : Type 0} {P Q : X → Type 0} → ((x : X) → P x → Q x) → (xs : List X) → AllByRecursion P xs → AllByRecursion Q xs
all_map f [] all = tt
all_map f (x ∷ xs) all = (f x all.0, all_map f xs all.1)

-- a property of the images of all numbers is a property of the list of images
pub all_of_range : {X : Type 0} (P : X → Type 0) (f : ℕ → X) → ((i : ℕ) → P (f i)) → (first n : ℕ) → AllByRecursion P (map f (range_with_len first n))
all_of_range P f h first zero = tt
all_of_range P f h first (suc n) = (h first, all_of_range P f h (first + 1) n)

-- a property of all cells and of a default is a property of the cell looked up, or the default
pub all_at : (P : Cell → Type 0) (other : Cell) → P other → (cells : List Cell) → AllByRecursion P cells → (i : ℕ) → P (unwrap_or (slice_get cells i) other)
all_at P other h [] all i = h
all_at P other h (cell ∷ cells) all zero = all.0
all_at P other h (cell ∷ cells) all (suc i) = all_at P other h cells all.1 i

-- a block that has a cell is neither null nor past the end
pub cell_at_within : (cells : List Cell) (block : ℕ) (cell : Cell) → cell_at cells block ≡ Some cell → (0 < block) × (block ≤ length cells)
cell_at_within cells zero cell at = cc
cell_at_within cells (suc i) cell at = (omega arith, slice_get_within cells i cell at)

-- each block has a cell
pub cell_of : (cells : List Cell) (block : ℕ) → 0 < block → block ≤ length cells → (cell : Cell) × (cell_at cells block ≡ Some cell)
cell_of cells zero above within = absurd (omega arith)
cell_of cells (suc i) above within = (get_or cells i (Free 0), slice_get-get_or cells i (Free 0) within)

-- the cells that a function gives for blocks 1, 2 and so on
pub cell_at-range : (f : ℕ → Cell) (n block : ℕ) → 0 < block → block ≤ n → cell_at (map f (range_with_len 1 n)) block ≡ Some (f block)
cell_at-range f n zero above within = absurd (omega arith)
cell_at-range f n (suc i) above within =
    slice_get-get_or (map f (range_with_len 1 n)) i (Free 0) (rw (length-map-range_with_len f 1 n) within)
    ∙ ap Some (get_or-map-range_with_len f 1 n i (suc i) (Free 0) within (omega arith))
