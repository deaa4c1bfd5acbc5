-- Links that pass as many cells as are free, and then end, pass each free cell once.
use Rattle.std.proofs.Common.{◌≡◌, ◌≢◌, ◌↔◌, ◌∙◌, ◌+◌, ◌-◌, ◌==◌, ◌≤◌, ◌<◌, cond, refl, sym, ap, subst, subst₂, arith, ℕ, zero, suc, Bool, List, [], ◌∷◌, length, count_by, slice_get, Option, Some, None}
use Rattle.std.specs.List.{AllByRecursion}
use Rattle.std.proofs.lemmas.Bool.Decides.{Decides-eqb}
use Rattle.std.proofs.lemmas.List.Sums.{sum_by-cons}
use Rattle.std.proofs.lemmas.Option.{none-some}
use Rattle.std.specs.Bool.{Decides}
use Rattle.tw_types.specs.Types.{Widths, block_count}
use Rattle.tw_types.specs.Values.{Value}
use Rattle.tw_state.specs.States.{Cell, Free, Live, State, cell_at, Links, IsWellFormed}
use Rattle.tw_state.specs.FreeCells.{is_free, link_of, link_at, EndsAfter, memory_of, FormedAt}
use Rattle.tw_state.specs.FromCode.{ListedState}
use Rattle.tw_state.proofs.Basics.{some_value, by_test}
use Rattle.tw_state.proofs.Blocks.{same_link}
use Rattle.tw_state.proofs.Cells.{cell_at_within}
use Rattle.tw_state.proofs.FreeList.{by_block, IsApart}
use Rattle.tw_state.proofs.SingleSteps.{not_live_and_free}

-- the cell of a block other than 0
pub cell_at_block : (cells : List Cell) (block : ℕ) → 0 < block → cell_at cells block ≡ slice_get cells (block - 1)
cell_at_block cells zero above = absurd (omega (arith, above))
cell_at_block cells (suc i) above = let same : i ≡ suc i - 1 = omega arith in ap (slice_get cells) same

-- a cell with a link is a free one
free_link : (found : Option Cell) (next : ℕ) → link_of found ≡ Some next → found ≡ Some (Free next)
free_link (Some (Free other)) next is = ap (λ n. Some (Free n)) (some_value is)
free_link (Some (Live target value)) next is = absurd (none-some next is)
free_link None next is = absurd (none-some next is)

-- one link more
pub ends_one_later : (cells : List Cell) (address next count : ℕ) → 0 < count → link_at cells address ≡ Some next → EndsAfter cells address count ↔ EndsAfter cells next (count - 1)
ends_one_later cells address next count some is = (before, after)
  where
    after : EndsAfter cells next (count - 1) → EndsAfter cells address count
    after (chain, links, counted) = (address ∷ chain, (refl, (next, free_link (cell_at cells address) next is, links)), omega (arith, counted, some))

    before : EndsAfter cells address count → EndsAfter cells next (count - 1)
    before ([], links, counted) = absurd (omega (arith, counted, some))
    before (block ∷ chain, links, counted) =
        let here : cell_at cells address ≡ Some (Free links.1.0) = ap (cell_at cells) links.0 ∙ links.1.1 in
        let same : links.1.0 ≡ next = same_link (some_value (sym here ∙ free_link (cell_at cells address) next is)) in
        (chain, subst (λ n. Links cells n chain) same links.1.2, omega (arith, counted, some))

-- without a link nothing is passed
pub ends_at_once : (cells : List Cell) (address count : ℕ) → 0 < count → link_at cells address ≡ None → EndsAfter cells address count → ⊥
ends_at_once cells address count some none ([], links, counted) = omega (arith, counted, some)
ends_at_once cells address count some none (block ∷ chain, links, counted) =
    none-some links.1.0 (sym none ∙ ap link_of (ap (cell_at cells) links.0 ∙ links.1.1))

-- how often a chain passes a block
abbrev pub passes : ℕ → List ℕ → ℕ
passes block chain = count_by (λ passed. passed == block) chain

pub pass_here : (block : ℕ) (chain : List ℕ) → passes block (block ∷ chain) ≡ suc (passes block chain)
pass_here block chain =
    sum_by-cons (λ passed. cond (passed == block) 1 0) block chain
    ∙ ap (λ k. cond k 1 0 + passes block chain) ((Decides-eqb block block).1 refl)
    ∙ omega arith

pub pass_elsewhere : (block passed : ℕ) (chain : List ℕ) → passed ≢ block → passes block (passed ∷ chain) ≡ passes block chain
pass_elsewhere block passed chain differ =
    sum_by-cons (λ other. cond (other == block) 1 0) passed chain
    ∙ by_test (passed == block) (λ test. absurd (differ ((Decides-eqb passed block).0 test)))
    (λ test. ap (λ k. cond k 1 0 + passes block chain) test ∙ omega arith)

passes_none : (block : ℕ) (chain : List ℕ) → IsApart block chain → passes block chain ≡ 0
passes_none block [] apart = refl
passes_none block (passed ∷ chain) apart = pass_elsewhere block passed chain apart.0 ∙ passes_none block chain apart.1

-- two chains from one address have one length
one_length : (cells : List Cell) (address : ℕ) (chain other : List ℕ) → Links cells address chain → Links cells address other → length chain ≡ length other
one_length cells address [] [] links others = refl
one_length cells address [] (block ∷ other) links others = absurd (none-some (Free others.1.0) (ap (cell_at cells) (sym links ∙ others.0) ∙ others.1.1))
one_length cells address (block ∷ chain) [] links others = absurd (none-some (Free links.1.0) (ap (cell_at cells) (sym others ∙ links.0) ∙ links.1.1))
one_length cells address (block ∷ chain) (passed ∷ other) links others =
    let next = same_link (some_value (sym links.1.1 ∙ (ap (cell_at cells) (sym links.0 ∙ others.0) ∙ others.1.1))) in
    ap suc (one_length cells others.1.0 chain other (subst (λ n. Links cells n chain) next links.1.2) others.1.2)

-- a block with longer chains is not passed
not_passed : (cells : List Cell) (block n : ℕ) → ((chain : List ℕ) → Links cells block chain → length chain ≡ n) → (address : ℕ) (chain : List ℕ) → length chain < n → Links cells address chain → IsApart block chain
not_passed cells block n known address [] less links = tt
not_passed cells block n known address (passed ∷ chain) less links = (
  (λ same.
      let counted = known (passed ∷ chain) (subst (λ b. Links cells b (passed ∷ chain)) (links.0 ∙ same) links) in
      omega (arith, counted, less)),
  not_passed cells block n known links.1.0 chain (omega (arith, less)) links.1.2,
)

-- no block is passed twice
at_most_once : (cells : List Cell) (address block : ℕ) (chain : List ℕ) → Links cells address chain → passes block chain ≤ 1
at_most_once cells address block [] links = omega arith
at_most_once cells address block (passed ∷ chain) links =
    by_block passed block
    (λ same.
    let apart = not_passed cells block (suc (length chain)) (λ other others. one_length cells block other (passed ∷ chain) others (subst (λ b. Links cells b (passed ∷ chain)) (links.0 ∙ same) links)) links.1.0 chain (omega arith) links.1.2 in
    let none = passes_none block chain apart in
    subst (λ b. passes block (b ∷ chain) ≤ 1) (sym same) (rw (pass_here block chain, none) (omega arith)))
    (λ differ. rw (pass_elsewhere block passed chain differ) (at_most_once cells links.1.0 block chain links.1.2))

-- how often a chain passes the blocks of these cells, from a number on
abbrev passed_in : ℕ → List Cell → List ℕ → ℕ
passed_in first [] chain = 0
passed_in first (cell ∷ cells) chain = passes first chain + passed_in (suc first) cells chain

-- whether a cell is free, as a number
abbrev one_if_free : Cell → ℕ
one_if_free cell = cond (is_free cell) 1 0

below_first : (first : ℕ) (cells : List Cell) (passed : ℕ) (chain : List ℕ) → passed < first → passed_in first cells (passed ∷ chain) ≡ passed_in first cells chain
below_first first [] passed chain less = refl
below_first first (cell ∷ cells) passed chain less =
    rw (pass_elsewhere first passed chain (λ same. omega (arith, same, less)), below_first (suc first) cells passed chain (omega (arith, less))) refl

one_more : (first : ℕ) (cells : List Cell) (passed : ℕ) (chain : List ℕ) → first ≤ passed → passed < first + length cells → passed_in first cells (passed ∷ chain) ≡ suc (passed_in first cells chain)
one_more first [] passed chain from within = absurd (omega (arith, from, within))
one_more first (cell ∷ cells) passed chain from within =
    by_block passed first
    (λ same. subst (λ b. passes first (b ∷ chain) + passed_in (suc first) cells (b ∷ chain) ≡ suc (passes first chain + passed_in (suc first) cells chain)) (sym same)
    (rw (pass_here first chain, below_first (suc first) cells first chain (omega arith)) (omega arith)))
    (λ differ. rw (pass_elsewhere first passed chain differ, one_more (suc first) cells passed chain (omega (arith, from, differ)) (omega (arith, within))) (omega arith))

none_passed : (first : ℕ) (cells : List Cell) → passed_in first cells [] ≡ 0
none_passed first [] = refl
none_passed first (cell ∷ cells) = ap (λ n. 0 + n) (none_passed (suc first) cells)

-- a chain passes as many of the blocks as it is long
all_passed : (cells : List Cell) (chain : List ℕ) → AllByRecursion (λ block. (0 < block) × (block ≤ length cells)) chain → passed_in 1 cells chain ≡ length chain
all_passed cells [] within = none_passed 1 cells
all_passed cells (block ∷ chain) within =
    one_more 1 cells block chain (omega (arith, within.0.0)) (omega (arith, within.0.1)) ∙ ap suc (all_passed cells chain within.1)

count_one : (cell : Cell) (cells : List Cell) → count_by is_free (cell ∷ cells) ≡ one_if_free cell + count_by is_free cells
count_one cell cells = sum_by-cons one_if_free cell cells

-- a property of each cell with the number of its block, from a number on
abbrev Numbered : (ℕ → Cell → Type 0) → ℕ → List Cell → Type 0
Numbered P first [] = Unit {0}
Numbered P first (cell ∷ cells) = P first cell × Numbered P (suc first) cells

numbered : (P : ℕ → Cell → Type 0) (first : ℕ) (cells : List Cell) → ((i : ℕ) (cell : Cell) → slice_get cells i ≡ Some cell → P (first + i) cell) → Numbered P first cells
numbered P first [] each = tt
numbered P first (cell ∷ cells) each =
    let here : first + 0 ≡ first = omega arith in
    (subst (λ n. P n cell) here (each 0 cell refl), numbered P (suc first) cells (λ i other found. let there : first + suc i ≡ suc first + i = omega arith in subst (λ n. P n other) there (each (suc i) other found)))

number_at : (P : ℕ → Cell → Type 0) (first : ℕ) (cells : List Cell) → Numbered P first cells → (i : ℕ) (cell : Cell) → slice_get cells i ≡ Some cell → P (first + i) cell
number_at P first [] all i cell found = absurd (none-some cell found)
number_at P first (other ∷ cells) all zero cell found =
    let here : first ≡ first + 0 = omega arith in subst (λ n. P n cell) here (subst (P first) (some_value found) all.0)
number_at P first (other ∷ cells) all (suc i) cell found =
    let there : suc first + i ≡ first + suc i = omega arith in subst (λ n. P n cell) there (number_at P (suc first) cells all.1 i cell found)

-- each block is passed as often as it is free
abbrev IsOnce : List ℕ → ℕ → Cell → Type 0
IsOnce chain block cell = passes block chain ≡ one_if_free cell

-- no block is passed more often than it is free
abbrev IsAtMostOnce : List ℕ → ℕ → Cell → Type 0
IsAtMostOnce chain block cell = passes block chain ≤ one_if_free cell

counted_if_once : (first : ℕ) (cells : List Cell) (chain : List ℕ) → Numbered (IsOnce chain) first cells → passed_in first cells chain ≡ count_by is_free cells
counted_if_once first [] chain once = refl
counted_if_once first (cell ∷ cells) chain once = rw (once.0, counted_if_once (suc first) cells chain once.1, count_one cell cells) refl

at_most_counted : (first : ℕ) (cells : List Cell) (chain : List ℕ) → Numbered (IsAtMostOnce chain) first cells → passed_in first cells chain ≤ count_by is_free cells
at_most_counted first [] chain most = let none : count_by is_free [] ≡ 0 = refl in omega (arith, none)
at_most_counted first (cell ∷ cells) chain most =
    let rest = at_most_counted (suc first) cells chain most.1 in rw (count_one cell cells) (omega (arith, most.0, rest))

once_if_counted : (first : ℕ) (cells : List Cell) (chain : List ℕ) → Numbered (IsAtMostOnce chain) first cells → passed_in first cells chain ≡ count_by is_free cells → Numbered (IsOnce chain) first cells
once_if_counted first [] chain most counted = tt
once_if_counted first (cell ∷ cells) chain most counted =
    let rest = at_most_counted (suc first) cells chain most.1 in
    let all : passes first chain + passed_in (suc first) cells chain ≡ one_if_free cell + count_by is_free cells = counted ∙ count_one cell cells in
    let here : passes first chain ≤ one_if_free cell = most.0 in
    (omega (arith, here, rest, all), once_if_counted (suc first) cells chain most.1 (omega (arith, here, rest, all)))

-- a chain passes only blocks
passed_within : (cells : List Cell) (address : ℕ) (chain : List ℕ) → Links cells address chain → AllByRecursion (λ block. (0 < block) × (block ≤ length cells)) chain
passed_within cells address [] links = tt
passed_within cells address (block ∷ chain) links =
    (cell_at_within cells block (Free links.1.0) links.1.1, passed_within cells links.1.0 chain links.1.2)

-- the chain does not pass a live block
live_passed : (cells : List Cell) (block target : ℕ) (value : Value) (address : ℕ) (chain : List ℕ) → cell_at cells block ≡ Some (Live target value) → Links cells address chain → passes block chain ≡ 0
live_passed cells block target value address chain live links = passes_none block chain (apart address chain links)
  where
    apart : (address : ℕ) (chain : List ℕ) → Links cells address chain → IsApart block chain
    apart address [] links = tt
    apart address (passed ∷ chain) links =
        ((λ same. not_live_and_free links.1.1 (ap (cell_at cells) same ∙ live)), apart links.1.0 chain links.1.2)

-- a well-formed state's links pass as many cells as are free
pub formed_ends : (state : State) → IsWellFormed state → EndsAfter state.cells state.head (count_by is_free state.cells)
formed_ends state formed = (
  formed.chain,
  formed.links,
  sym (all_passed state.cells formed.chain (passed_within state.cells state.head formed.chain formed.links))
      ∙ counted_if_once 1 state.cells formed.chain (numbered (IsOnce formed.chain) 1 state.cells once),
)
  where
    once_cell : (block : ℕ) (cell : Cell) → cell_at state.cells block ≡ Some cell → IsOnce formed.chain block cell
    once_cell block (Free next) found = formed.once block next found
    once_cell block (Live target value) found = live_passed state.cells block target value state.head formed.chain found formed.links

    once : (i : ℕ) (cell : Cell) → slice_get state.cells i ≡ Some cell → IsOnce formed.chain (1 + i) cell
    once i cell found = let same : suc i ≡ 1 + i = omega arith in subst (λ n. IsOnce formed.chain n cell) same (once_cell (suc i) cell found)

-- a state whose links pass as many cells as are free, and then end, is well-formed
pub ends_formed : (state : State) → EndsAfter state.cells state.head (count_by is_free state.cells) → IsWellFormed state
ends_formed state (chain, links, counted) = record { chain = chain; links = links; once = once }
  where
    most_cell : (block : ℕ) (cell : Cell) → cell_at state.cells block ≡ Some cell → IsAtMostOnce chain block cell
    most_cell block (Free next) found = at_most_once state.cells state.head block chain links
    most_cell block (Live target value) found = let none = live_passed state.cells block target value state.head chain found links in omega (arith, none)

    most : (i : ℕ) (cell : Cell) → slice_get state.cells i ≡ Some cell → IsAtMostOnce chain (1 + i) cell
    most i cell found = let same : suc i ≡ 1 + i = omega arith in subst (λ n. IsAtMostOnce chain n cell) same (most_cell (suc i) cell found)

    all : Numbered (IsOnce chain) 1 state.cells
    all = once_if_counted 1 state.cells chain (numbered (IsAtMostOnce chain) 1 state.cells most) (all_passed state.cells chain (passed_within state.cells state.head chain links) ∙ counted)

    once : (block next : ℕ) → cell_at state.cells block ≡ Some (Free next) → passes block chain ≡ 1
    once zero next found = absurd (none-some (Free next) found)
    once (suc i) next found = let same : 1 + i ≡ suc i = omega arith in subst (λ n. passes n chain ≡ 1) same (number_at (IsOnce chain) 1 state.cells all i (Free next) found)

-- the test of a state's links tells whether the state is well-formed
pub formed_tested : (widths : Widths) (listed : ListedState) (test : Bool) (cells others : List Cell) (count : ℕ) → cells ≡ listed.cells → others ≡ listed.cells → count ≡ count_by is_free others
    → length listed.cells ≡ block_count widths → Decides test (EndsAfter cells listed.head count) → Decides test (FormedAt widths listed)
formed_tested widths listed test cells others count same equal counted all ends =
    let known = subst₂ (λ cs n. Decides test (EndsAfter cs listed.head n)) same (counted ∙ ap (count_by is_free) equal) ends in (
      (λ is. record { all_blocks = all; well_formed = ends_formed (memory_of listed) (known.0 is) }),
      λ formed. known.1 (formed_ends (memory_of listed) formed.well_formed),
    )
