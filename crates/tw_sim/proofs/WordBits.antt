-- Bits of words, and lanes of words that are changed by `&` and `^`.
use Rattle.std.proofs.Common.{◌≡◌, ◌∙◌, ap, sym, refl, ℕ, zero, suc, ◌+◌, ◌%◌, ◌^◌, ◌-◌, ◌<◌, min, nat_eq, Bool, true, false, not, ◌&&◌, cond, List, [], ◌∷◌, length, get_or, set, drop, bit_and, bit_xor, arith}
use Rattle.std.proofs.Math.Bool.{and-true}
use Rattle.std.proofs.lemmas.Nat.Bits.{bit_at_and, bit_at_xor, bit_at-lt, bit_at-zero, bit_at_ones}
use Rattle.std.proofs.lemmas.List.{drop_more}
use Rattle.tw_bits.specs.Lists.{bit_at, flipped}
use Rattle.tw_gate.specs.Gates.{all_one}
use Rattle.tw_sim.specs.Lanes.{number_bit, lane}

both_one : (m n : ℕ) → m < 2 → n < 2 → nat_eq (min m n) 1 ≡ nat_eq m 1 && nat_eq n 1
both_one zero zero few few' = refl
both_one zero (suc zero) few few' = refl
both_one (suc zero) zero few few' = refl
both_one (suc zero) (suc zero) few few' = refl
both_one m (suc (suc n)) few few' = absurd (omega arith)
both_one (suc (suc m)) n few few' = absurd (omega arith)

one_of_two : (m n : ℕ) → m < 2 → n < 2 → nat_eq ((m + n) % 2) 1 ≡ cond (nat_eq n 1) (not (nat_eq m 1)) (nat_eq m 1)
one_of_two zero zero few few' = refl
one_of_two zero (suc zero) few few' = refl
one_of_two (suc zero) zero few few' = refl
one_of_two (suc zero) (suc zero) few few' = refl
one_of_two m (suc (suc n)) few few' = absurd (omega arith)
one_of_two (suc (suc m)) n few few' = absurd (omega arith)

-- a bit of `a & b`
pub number_bit-and : (place a b : ℕ) → number_bit place (bit_and a b) ≡ number_bit place a && number_bit place b
number_bit-and place a b = ap (λ n. nat_eq n 1) (bit_at_and a b place) ∙ both_one _ _ (bit_at-lt a place) (bit_at-lt b place)

-- `a ^ b` has the bits of `a`, flipped if `b` has a 1 there
pub number_bit-xor : (place a b : ℕ) → number_bit place (bit_xor a b) ≡ cond (number_bit place b) (not (number_bit place a)) (number_bit place a)
number_bit-xor place a b = ap (λ n. nat_eq n 1) (bit_at_xor a b place) ∙ one_of_two _ _ (bit_at-lt a place) (bit_at-lt b place)

-- the bit of a lane at a wire
bit_at-lane : (place : ℕ) (words : List ℕ) (wire : ℕ) → bit_at (lane place words) wire ≡ number_bit place (get_or words wire 0)
bit_at-lane place [] wire = ap (λ n. nat_eq n 1) (sym (bit_at-zero place))
bit_at-lane place (word ∷ words) zero = refl
bit_at-lane place (word ∷ words) (suc wire) = bit_at-lane place words wire

and_turned : (bit others lanes : Bool) → others && (lanes && bit) ≡ (bit && others) && lanes
and_turned true others lanes = ap (λ b. others && b) (and-true lanes)
and_turned false true true = refl
and_turned false true false = refl
and_turned false false lanes = refl

-- all bits of `u64::MAX` are 1
pub where_none : (place : ℕ) → place < 64 → (all : Bool) → all && number_bit place (2 ^ 64 - 1) ≡ all
where_none place few all = ap (λ n. all && nat_eq n 1) (bit_at_ones 64 place few) ∙ and-true all

-- the word of one more wire taken by `&`
pub where_more : (place : ℕ) (wires words : List ℕ) (index lanes : ℕ) → index < length wires →
    all_one (drop (index + 1) wires) (lane place words) && number_bit place (bit_and lanes (get_or words (get_or wires index 0) 0)) ≡ all_one (drop index wires) (lane place words) && number_bit place lanes
where_more place wires words index lanes inside =
    let wire : ℕ = get_or wires index 0 in
    ap (λ b. all_one (drop (index + 1) wires) (lane place words) && b) (number_bit-and place lanes (get_or words wire 0))
    ∙ and_turned (number_bit place (get_or words wire 0)) (all_one (drop (index + 1) wires) (lane place words)) (number_bit place lanes)
    ∙ ap (λ b. (b && all_one (drop (index + 1) wires) (lane place words)) && number_bit place lanes) (sym (bit_at-lane place words wire))
    ∙ ap (λ (ws : List ℕ). all_one ws (lane place words) && number_bit place lanes) (sym (drop_more wires index 0 inside))

-- a word changed by `^`
pub lane-xor : (place : ℕ) (words : List ℕ) (target flips : ℕ) → lane place (set words target (bit_xor (get_or words target 0) flips)) ≡ cond (number_bit place flips) (flipped (lane place words) target) (lane place words)
lane-xor place [] target flips = elim (number_bit place flips) as (λ b. lane place [] ≡ cond b (flipped (lane place []) target) (lane place [])) [ true ↦ refl | false ↦ refl ]
lane-xor place (word ∷ words) zero flips =
    ap (λ b. b ∷ lane place words) (number_bit-xor place word flips)
    ∙ elim (number_bit place flips) as (λ b. cond b (not (number_bit place word)) (number_bit place word) ∷ lane place words ≡ cond b (not (number_bit place word) ∷ lane place words) (number_bit place word ∷ lane place words)) [ true ↦ refl | false ↦ refl ]
lane-xor place (word ∷ words) (suc target) flips =
    ap (λ bits. number_bit place word ∷ bits) (lane-xor place words target flips)
    ∙ elim (number_bit place flips) as (λ b. number_bit place word ∷ cond b (flipped (lane place words) target) (lane place words) ≡ cond b (number_bit place word ∷ flipped (lane place words) target) (number_bit place word ∷ lane place words)) [ true ↦ refl | false ↦ refl ]
