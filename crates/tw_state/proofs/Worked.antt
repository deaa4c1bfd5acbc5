-- Worked examples that need more than evaluation: a well-formed state, and renamed blocks.
use Rattle.std.proofs.Common.{◌≡◌, ℕ, zero, suc, ◌≤◌, ◌==◌, List, [], ◌∷◌, count_by, Some, refl, arith, codes}
use Rattle.tw_types.specs.Values.{Number, Address, PairValue}
use Rattle.tw_state.specs.States.{Free, Live, Links, IsWellFormed, cell_at, empty}
use Rattle.tw_state.specs.Renaming.{Permutation, renamed_value, renamed}
use Rattle.tw_state.specs.Examples.{start}
use Rattle.tw_state.specs.Encoding.{one_live}

-- the one free cell is passed once
pub start_is_well_formed : IsWellFormed start
start_is_well_formed = record { chain = 1 ∷ []; links = (refl, (0, refl, refl)); once = once } where
  once : (block next : ℕ) → cell_at (Free 0 ∷ []) block ≡ Some (Free next) → count_by (λ passed. passed == block) (1 ∷ []) ≡ 1
  once zero next at = cc
  once (suc zero) next at = refl
  once (suc (suc i)) next at = cc

-- a free cell that no link reaches leaves a state that is not well-formed
pub lost_cell_is_not_well_formed : IsWellFormed (record start { head = 0 }) → ⊥
lost_cell_is_not_well_formed formed = lost formed.chain formed.links (formed.once 1 0 refl) where
  lost : (chain : List ℕ) → Links (Free 0 ∷ []) 0 chain → count_by (λ passed. passed == 1) chain ≡ 1 → ⊥
  lost [] links once = absurd (omega arith)
  lost (zero ∷ chain) links once = cc links.1.1
  lost (suc i ∷ chain) links once = absurd (omega (arith, links.0))

-- 1 to 3, 2 to 1 and 3 to 2
abbrev turn : ℕ → ℕ
turn (suc zero) = 3
turn (suc (suc zero)) = 1
turn (suc (suc (suc zero))) = 2
turn block = block

-- 3 to 1, 1 to 2 and 2 to 3
abbrev turn_back : ℕ → ℕ
turn_back (suc zero) = 2
turn_back (suc (suc zero)) = 3
turn_back (suc (suc (suc zero))) = 1
turn_back block = block

-- three blocks, rotated
pub turned : Permutation 3
turned = record {
  to = turn;
  from = turn_back;
  to_null = refl;
  from_null = refl;
  to_within = to_within;
  from_within = from_within;
  from_to = λ block within. from_to block;
  to_from = λ block within. to_from block;
} where
  to_within : (block : ℕ) → block ≤ 3 → turn block ≤ 3
  to_within zero within = within
  to_within (suc zero) within = omega arith
  to_within (suc (suc zero)) within = omega arith
  to_within (suc (suc (suc zero))) within = omega arith
  to_within (suc (suc (suc (suc n)))) within = within

  from_within : (block : ℕ) → block ≤ 3 → turn_back block ≤ 3
  from_within zero within = within
  from_within (suc zero) within = omega arith
  from_within (suc (suc zero)) within = omega arith
  from_within (suc (suc (suc zero))) within = omega arith
  from_within (suc (suc (suc (suc n)))) within = within

  from_to : (block : ℕ) → turn_back (turn block) ≡ block
  from_to zero = refl
  from_to (suc zero) = refl
  from_to (suc (suc zero)) = refl
  from_to (suc (suc (suc zero))) = refl
  from_to (suc (suc (suc (suc n)))) = refl

  to_from : (block : ℕ) → turn (turn_back block) ≡ block
  to_from zero = refl
  to_from (suc zero) = refl
  to_from (suc (suc zero)) = refl
  to_from (suc (suc (suc zero))) = refl
  to_from (suc (suc (suc (suc n)))) = refl

-- `free 2; 1 free 0; 2 free 3; 3 free 1` becomes `free 1; 1 free 2; 2 free 3; 3 free 0`
pub chain_turned : renamed turned (record { head = 2; cells = Free 0 ∷ Free 3 ∷ Free 1 ∷ []; store = empty }) ≡ record { head = 1; cells = Free 2 ∷ Free 3 ∷ Free 0 ∷ []; store = empty }
unfolding turned
chain_turned = refl

-- `free 3; 1 live list (2, @1); 2 free 0; 3 free 2` becomes `free 2; 1 free 0; 2 free 1; 3 live list (2, @3)`, and xs becomes @3
pub live_cell_turned : (renamed turned one_live).cells ≡ Free 0 ∷ Free 1 ∷ Live 0 (PairValue (Number 2) (Address 3)) ∷ []
unfolding turned
live_cell_turned = refl

pub head_turned : (renamed turned one_live).head ≡ 2
unfolding turned
head_turned = refl

pub pointer_turned : (renamed turned one_live).store (codes "xs") ≡ Some (Address 3)
unfolding turned
pointer_turned = refl

-- `(2, (&2, null))` becomes `(2, (&1, null))`: addresses are renamed, also in pairs, and numbers stay
pub addresses_turned : renamed_value turned.to (PairValue (Number 2) (PairValue (Address 2) (Address 0))) ≡ PairValue (Number 2) (PairValue (Address 1) (Address 0))
unfolding turned
addresses_turned = refl
