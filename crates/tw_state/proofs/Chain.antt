-- The chain of free cells under a renaming of the blocks.
use Rattle.std.proofs.Common.{◌≡◌, ℕ, ◌≤◌, ◌<◌, ◌+◌, inl, inr, Bool, cond, ◌==◌, List, [], ◌∷◌, length, map, fold, Option, Some, refl, ap, sym, ◌∙◌, arith, eq-zero-or-pos}
use Rattle.std.specs.List.{AllByRecursion}
use Rattle.std.proofs.lemmas.List.FromFn.{length-map-range_with_len}
use Rattle.std.proofs.lemmas.Bool.Decides.{Decides-eqb, same_from_decides}
use Rattle.tw_state.specs.States.{Cell, Free, Live, State, cell_at, Links, IsWellFormed}
use Rattle.tw_state.specs.Renaming.{Permutation, renamed_cell, cell_renamed_to, renamed_cells, renamed}
use Rattle.tw_state.proofs.Cells.{cell_at_within, cell_of, cell_at-range}

-- a function whose inverse takes 0 to 0 takes a block to a block
above_null : (to from : ℕ → ℕ) (block : ℕ) → from 0 ≡ 0 → from (to block) ≡ block → 0 < block → 0 < to block
above_null to from block null back above =
    elim (eq-zero-or-pos (to block)) [ inl none ↦ let at : block ≡ 0 = sym back ∙ (ap from none ∙ null) in absurd (omega arith) | inr some ↦ some ]

-- a cell that is free after the renaming was free
free_before : (to : ℕ → ℕ) (found : Option Cell) (cell : Cell) (next : ℕ) → found ≡ Some cell → renamed_cell to cell ≡ Free next → (old : ℕ) × (found ≡ Some (Free old))
free_before to found (Free old) next is free = (old, is)
free_before to found (Live target value) next is free = cc

-- the chain passes only blocks
links_within : (cells : List Cell) (address : ℕ) (chain : List ℕ) → Links cells address chain → AllByRecursion (λ block. block ≤ length cells) chain
links_within cells address [] links = tt
links_within cells address (block ∷ chain) links =
    ((cell_at_within cells block (Free links.1.0) links.1.1).1, links_within cells links.1.0 chain links.1.2)

-- the count of a block, one step on
abbrev pub counted : ℕ → ℕ → ℕ → ℕ
counted block n passed = n + cond (passed == block) 1 0

module _ {blocks : ℕ} (pi : Permutation blocks) where
  -- two blocks with one new address are equal
  one_block : (x y : ℕ) → x ≤ blocks → y ≤ blocks → pi.to x ≡ pi.to y → x ≡ y
  one_block x y hx hy same = sym (pi.from_to x hx) ∙ (ap pi.from same ∙ pi.from_to y hy)

  -- the tests for one block before and after the renaming are equal
  same_test : (x y : ℕ) → x ≤ blocks → y ≤ blocks → (pi.to x == pi.to y) ≡ (x == y)
  same_test x y hx hy =
      same_from_decides {P = x ≡ y} (pi.to x == pi.to y) (x == y)
      ((λ test. one_block x y hx hy ((Decides-eqb (pi.to x) (pi.to y)).0 test)), (λ e. (Decides-eqb (pi.to x) (pi.to y)).1 (ap pi.to e)))
      (Decides-eqb x y)

  -- the renamed chain passes a block as often as the chain passed it
  count_renamed : (block : ℕ) → block ≤ blocks → (chain : List ℕ) → AllByRecursion (λ passed. passed ≤ blocks) chain → (n : ℕ) → fold (counted (pi.to block)) n (map pi.to chain) ≡ fold (counted block) n chain
  count_renamed block h [] all n = refl
  count_renamed block h (passed ∷ chain) all n =
      ap (λ (test : Bool). fold (counted (pi.to block)) (n + cond test 1 0) (map pi.to chain)) (same_test passed block all.0 h)
      ∙ count_renamed block h chain all.1 (counted block n passed)

  module _ (cells : List Cell) (len : length cells ≡ blocks) where
    -- the new address of a block has the block's cell, renamed
    cell_at-renamed : (block : ℕ) (cell : Cell) → cell_at cells block ≡ Some cell → cell_at (renamed_cells pi cells) (pi.to block) ≡ Some (renamed_cell pi.to cell)
    cell_at-renamed block cell at =
        let within = cell_at_within cells block cell at in
        let known : block ≤ blocks = omega arith in
        let back = pi.from_to block known in
        cell_at-range (cell_renamed_to pi cells) (length cells) (pi.to block)
        (above_null pi.to pi.from block pi.from_null back within.0) (rw len (pi.to_within block known))
        ∙ rw (back, at)

    -- the renamed links pass the renamed chain
    links_renamed : (address : ℕ) (chain : List ℕ) → Links cells address chain → Links (renamed_cells pi cells) (pi.to address) (map pi.to chain)
    links_renamed address [] links = ap pi.to links ∙ pi.to_null
    links_renamed address (block ∷ chain) links =
        (ap pi.to links.0, (pi.to links.1.0, cell_at-renamed block (Free links.1.0) links.1.1, links_renamed links.1.0 chain links.1.2))

    -- a cell that is free after the renaming was free at the block's old address
    free_from : (block next : ℕ) → cell_at (renamed_cells pi cells) block ≡ Some (Free next) → (block ≤ blocks) × ((old : ℕ) × (cell_at cells (pi.from block) ≡ Some (Free old)))
    free_from block next at =
        let within = cell_at_within (renamed_cells pi cells) block (Free next) at in
        let known : block ≤ blocks = omega (arith, length-map-range_with_len (cell_renamed_to pi cells) 1 (length cells)) in
        let there = pi.to_from block known in
        let cell = cell_of cells (pi.from block) (above_null pi.from pi.to block pi.to_null there within.0) (rw len (pi.from_within block known)) in
        let moved = rw there at (cell_at-renamed (pi.from block) cell.0 cell.1) in
        (known, free_before pi.to (cell_at cells (pi.from block)) cell.0 next cell.1 cc)

-- a well-formed state is well-formed after the renaming
pub well_formed-renamed : {blocks : ℕ} (pi : Permutation blocks) (state : State) → length state.cells ≡ blocks → IsWellFormed state → IsWellFormed (renamed pi state)
well_formed-renamed pi state len formed = record {
  chain = map pi.to formed.chain;
  links = links_renamed pi state.cells len state.head formed.chain formed.links;
  once = λ block next at.
      let free = free_from pi state.cells len block next at in
      let within = rw len at (links_within state.cells state.head formed.chain formed.links) in
      let same = count_renamed pi (pi.from block) (pi.from_within block free.0) formed.chain within 0 in
      (rw (pi.to_from block free.0) at same) ∙ formed.once (pi.from block) free.1.0 free.1.1;
}
