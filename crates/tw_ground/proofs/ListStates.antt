-- The state of a list is typed and well-formed.
use Rattle.std.proofs.Common.{◌≡◌, ◌∙◌, refl, sym, ap, subst, ℕ, zero, suc, ◌+◌, ◌-◌, ◌<◌, ◌≤◌, ◌^◌, List, [], ◌∷◌, ◌++◌, length, length-append, append_assoc, Some, slice_get, count_by, cond, arith}
use Rattle.std.specs.List.{AllByRecursion}
use Rattle.std.proofs.lemmas.List.Sums.{sum_by-cons}
use Rattle.tw_types.specs.Types.{Widths, Word, Pointer, PairTy, block_count}
use Rattle.tw_state.specs.States.{Cell, Free, Links}
use Rattle.tw_state.specs.FreeCells.{is_free, FormedAt, memory_of}
use Rattle.tw_state.specs.TypedLists.{IsTypedMemory}
use Rattle.tw_state.specs.TypedLists.{IsCell}
use Rattle.tw_state.proofs.FreeChains.{ends_formed}
use Rattle.tw_ground.specs.Lists.{list_targets, first_of, item_cells, free_cells, list_state}

-- the first of some blocks is a block, or null
pub first_within : (block count most : ℕ) → block + count ≤ suc most → first_of block count ≤ most
first_within block zero most within = omega arith
first_within block (suc count) most within = omega (arith, within)

length-items : (block : ℕ) (items : List ℕ) → length (item_cells block items) ≡ length items
length-items block [] = refl
length-items block (item ∷ items) = ap suc (length-items (suc block) items)

length-free : (block count : ℕ) → length (free_cells block count) ≡ count
length-free block zero = refl
length-free block (suc count) = ap suc (length-free (suc block) count)

-- there is a cell for each block
pub all_blocks : (widths : Widths) (items : List ℕ) → length items ≤ block_count widths → length (list_state widths items).cells ≡ block_count widths
all_blocks widths items fits =
    let sum = length-append (item_cells 1 items) (free_cells (suc (length items)) (block_count widths - length items)) in
    let first = length-items 1 items in
    let second = length-free (suc (length items)) (block_count widths - length items) in
    omega (arith, sum, first, second, fits)

module _ (widths : Widths) where
  items_typed : (block : ℕ) (items : List ℕ) → block + length items ≤ suc (block_count widths) → AllByRecursion (λ item. item < 2 ^ widths.word) items → AllByRecursion (IsCell widths list_targets) (item_cells block items)
  items_typed block [] within words = tt
  items_typed block (item ∷ items) within words = (
    (PairTy Word (Pointer 0), refl, (words.0, first_within (suc block) (length items) (block_count widths) (omega (arith, within)))),
    items_typed (suc block) items (omega (arith, within)) words.1,
  )

  free_typed : (block count : ℕ) → block + count ≤ suc (block_count widths) → AllByRecursion (IsCell widths list_targets) (free_cells block count)
  free_typed block zero within = tt
  free_typed block (suc count) within = (first_within (suc block) count (block_count widths) (omega (arith, within)), free_typed (suc block) count (omega (arith, within)))

  both_typed : (cells others : List Cell) → AllByRecursion (IsCell widths list_targets) cells → AllByRecursion (IsCell widths list_targets) others → AllByRecursion (IsCell widths list_targets) (cells ++ others)
  both_typed [] others all all2 = all2
  both_typed (cell ∷ cells) others all all2 = (all.0, both_typed cells others all.1 all2)

  -- the memory of a list of words is typed
  pub list_typed : (items : List ℕ) → AllByRecursion (λ item. item < 2 ^ widths.word) items → length items ≤ block_count widths → IsTypedMemory widths list_targets (list_state widths items)
  list_typed items words fits = record {
    head_within = first_within (suc (length items)) (block_count widths - length items) (block_count widths) (omega (arith, fits));
    all_blocks = all_blocks widths items fits;
    each_cell = both_typed (item_cells 1 items) (free_cells (suc (length items)) (block_count widths - length items))
        (items_typed 1 items (omega (arith, fits)) words) (free_typed (suc (length items)) (block_count widths - length items) (omega (arith, fits)));
  }

-- the blocks from one on
blocks_from : ℕ → ℕ → List ℕ
blocks_from block zero = []
blocks_from block (suc count) = block ∷ blocks_from (suc block) count

length-blocks : (block count : ℕ) → length (blocks_from block count) ≡ count
unfolding blocks_from
length-blocks block zero = refl
length-blocks block (suc count) = ap suc (length-blocks (suc block) count)

next_cell : (front : List Cell) (cell : Cell) (rest : List Cell) → slice_get (front ++ cell ∷ rest) (length front) ≡ Some cell
next_cell [] cell rest = refl
next_cell (other ∷ front) cell rest = next_cell front cell rest

-- the links of the free cells pass their blocks in rising order
free_links : (cells front : List Cell) (count : ℕ) → cells ≡ front ++ free_cells (suc (length front)) count → Links cells (first_of (suc (length front)) count) (blocks_from (suc (length front)) count)
unfolding blocks_from
free_links cells front zero is = refl
free_links cells front (suc count) is =
    let cell = Free (first_of (suc (suc (length front))) count) in
    let more : length (front ++ cell ∷ []) ≡ suc (length front) = length-append front (cell ∷ []) ∙ (let one : length front + 1 ≡ suc (length front) = omega arith in one) in (
      refl,
      (
        first_of (suc (suc (length front))) count,
        ap (λ cs. slice_get cs (length front)) is ∙ next_cell front cell (free_cells (suc (suc (length front))) count),
        subst (λ n. Links cells (first_of (suc n) count) (blocks_from (suc n) count)) more
            (free_links cells (front ++ cell ∷ []) count
            (is ∙ sym (append_assoc front (cell ∷ []) (free_cells (suc (suc (length front))) count)) ∙ ap (λ n. (front ++ cell ∷ []) ++ free_cells (suc n) count) (sym more))),
      ),
    )

count-free : (block count : ℕ) → count_by is_free (free_cells block count) ≡ count
count-free block zero = refl
count-free block (suc count) =
    sum_by-cons (λ (cell : Cell). cond (is_free cell) 1 0) (Free (first_of (suc block) count)) (free_cells (suc block) count)
    ∙ (let rest = count-free (suc block) count in let all : 1 + count_by is_free (free_cells (suc block) count) ≡ suc count = omega (arith, rest) in all)

count-items : (block : ℕ) (items : List ℕ) (rest : List Cell) → count_by is_free (item_cells block items ++ rest) ≡ count_by is_free rest
count-items block [] rest = refl
count-items block (item ∷ items) rest = count-items (suc block) items rest

-- the free list of the state of a list passes each free cell once
pub list_formed : (widths : Widths) (items : List ℕ) → length items ≤ block_count widths → FormedAt widths (list_state widths items)
list_formed widths items fits =
    let left = block_count widths - length items in
    let free = free_cells (suc (length items)) left in
    let cells = item_cells 1 items ++ free in
    let size = length-items 1 items in
    let links = free_links cells (item_cells 1 items) left (ap (λ n. item_cells 1 items ++ free_cells (suc n) left) (sym size)) in
    record {
      all_blocks = all_blocks widths items fits;
      well_formed = ends_formed (memory_of (list_state widths items)) (
        blocks_from (suc (length items)) left,
        subst (λ n. Links cells (first_of (suc n) left) (blocks_from (suc n) left)) size links,
        length-blocks (suc (length items)) left ∙ sym (count-items 1 items free ∙ count-free (suc (length items)) left),
      );
    }
