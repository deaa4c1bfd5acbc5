-- Laws of the cells of blocks.
use Rattle.std.proofs.Common.{◌≡◌, ◌≢◌, refl, sym, ap, subst, ℕ, zero, suc, List, [], ◌∷◌, length, Some, slice_get}
use Rattle.std.specs.List.{slice_set, AllByRecursion}
use Rattle.std.proofs.lemmas.Option.{none-some}
use Rattle.tw_state.specs.States.{Cell, Free, Live, cell_at, with_cell}

module _ {A : Type 0} where
  get_set : (xs : List A) (i : ℕ) (x old : A) → slice_get xs i ≡ Some old → slice_get (slice_set xs i x) i ≡ Some x
  get_set [] i x old found = absurd (none-some old found)
  get_set (y ∷ xs) zero x old found = refl
  get_set (y ∷ xs) (suc i) x old found = get_set xs i x old found

  get_set-other : (xs : List A) (i j : ℕ) (x : A) → i ≢ j → slice_get (slice_set xs i x) j ≡ slice_get xs j
  get_set-other [] i j x other = refl
  get_set-other (y ∷ xs) zero zero x other = absurd (other refl)
  get_set-other (y ∷ xs) zero (suc j) x other = refl
  get_set-other (y ∷ xs) (suc i) zero x other = refl
  get_set-other (y ∷ xs) (suc i) (suc j) x other = get_set-other xs i j x (λ same. other (ap suc same))

  set_twice : (xs : List A) (i : ℕ) (x y : A) → slice_set (slice_set xs i x) i y ≡ slice_set xs i y
  set_twice [] i x y = refl
  set_twice (z ∷ xs) zero x y = refl
  set_twice (z ∷ xs) (suc i) x y = ap (λ rest. z ∷ rest) (set_twice xs i x y)

  set_back : (xs : List A) (i : ℕ) (x : A) → slice_get xs i ≡ Some x → slice_set xs i x ≡ xs
  set_back [] i x found = refl
  set_back (y ∷ xs) zero x found = ap (λ z. z ∷ xs) (sym (found_value found))
    where
      found_value : {x y : A} → Some x ≡ Some y → x ≡ y
      found_value same = cc
  set_back (y ∷ xs) (suc i) x found = ap (λ rest. y ∷ rest) (set_back xs i x found)

  set_all : (P : A → Type 0) (xs : List A) (i : ℕ) (x : A) → P x → AllByRecursion P xs → AllByRecursion P (slice_set xs i x)
  set_all P [] i x h all = tt
  set_all P (y ∷ xs) zero x h all = (h, all.1)
  set_all P (y ∷ xs) (suc i) x h all = (all.0, set_all P xs i x h all.1)

  pub get_all : (P : A → Type 0) (xs : List A) (i : ℕ) (x : A) → AllByRecursion P xs → slice_get xs i ≡ Some x → P x
  get_all P [] i x all found = absurd (none-some x found)
  get_all P (y ∷ xs) zero x all found = subst P (found_value found) all.0
    where
      found_value : {x y : A} → Some x ≡ Some y → x ≡ y
      found_value same = cc
  get_all P (y ∷ xs) (suc i) x all found = get_all P xs i x all.1 found

  set_length : (xs : List A) (i : ℕ) (x : A) → length (slice_set xs i x) ≡ length xs
  set_length [] i x = refl
  set_length (y ∷ xs) zero x = refl
  set_length (y ∷ xs) (suc i) x = ap suc (set_length xs i x)

-- the cell that a block was given
pub cell_put : (cells : List Cell) (block : ℕ) (cell old : Cell) → cell_at cells block ≡ Some old → cell_at (with_cell cells block cell) block ≡ Some cell
cell_put cells zero cell old found = absurd (none-some old found)
cell_put cells (suc i) cell old found = get_set cells i cell old found

-- other blocks keep their cells
pub cell_other : (cells : List Cell) (block other : ℕ) (cell : Cell) → block ≢ other → cell_at (with_cell cells block cell) other ≡ cell_at cells other
cell_other cells zero other cell differ = refl
cell_other cells (suc i) zero cell differ = refl
cell_other cells (suc i) (suc j) cell differ = get_set-other cells i j cell (λ same. differ (ap suc same))

-- the later of two cells stays
pub cell_twice : (cells : List Cell) (block : ℕ) (x y : Cell) → with_cell (with_cell cells block x) block y ≡ with_cell cells block y
cell_twice cells zero x y = refl
cell_twice cells (suc i) x y = set_twice cells i x y

-- the cell that is there changes nothing
pub cell_back : (cells : List Cell) (block : ℕ) (cell : Cell) → cell_at cells block ≡ Some cell → with_cell cells block cell ≡ cells
cell_back cells zero cell found = refl
cell_back cells (suc i) cell found = set_back cells i cell found

-- a property of all cells, with another cell of which it holds
pub cell_all : (P : Cell → Type 0) (cells : List Cell) (block : ℕ) (cell : Cell) → P cell → AllByRecursion P cells → AllByRecursion P (with_cell cells block cell)
cell_all P cells zero cell h all = all
cell_all P cells (suc i) cell h all = set_all P cells i cell h all

pub cell_has : (P : Cell → Type 0) (cells : List Cell) (block : ℕ) (cell : Cell) → AllByRecursion P cells → cell_at cells block ≡ Some cell → P cell
cell_has P cells zero cell all found = absurd (none-some cell found)
cell_has P cells (suc i) cell all found = get_all P cells i cell all found

pub cell_length : (cells : List Cell) (block : ℕ) (cell : Cell) → length (with_cell cells block cell) ≡ length cells
cell_length cells zero cell = refl
cell_length cells (suc i) cell = set_length cells i cell

-- the link of a free cell, and the target and the value of a live one, are determined
pub same_link : {x y : ℕ} → Free x ≡ Free y → x ≡ y
same_link {x} {y} same = ap link same
  where
    link : Cell → ℕ
    link (Free next) = next
    link (Live target value) = 0
