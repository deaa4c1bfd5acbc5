-- A lane that is loaded wire by wire.
use Rattle.std.proofs.Common.{◌≡◌, ◌≢◌, ◌∙◌, ap, sym, refl, ℕ, zero, suc, ◌+◌, ◌*◌, ◌%◌, ◌^◌, ◌<◌, ◌≤◌, nat_eq, Bool, true, false, List, [], ◌∷◌, ◌++◌, length, map, take, get_or, set, replicate, bit_or, w64, arith}
use mir.Val.{bool_byte}
use Rattle.std.proofs.Math.Seq.{map-set_same}
use Rattle.std.proofs.lemmas.List.{map-set, take_more_set, map_more, get_or-set_other, length-map}
use Rattle.std.proofs.lemmas.Nat.Bits.{bit_at-zero, bit_at_set_same, bit_at_set_other}
use Rattle.std.specs.Int.Bits.{or_zero_r}
use Rattle.tw_sim.specs.Lanes.{number_bit, lane}
use Rattle.tw_sim.proofs.FrontLine.{digit_bit}

-- no bit is set by `n | 0 << place`
none_set : (place n : ℕ) → bit_or n (0 * 2 ^ place % 2 ^ 64) ≡ n
none_set place n = let nothing : 0 * 2 ^ place % 2 ^ 64 ≡ 0 = omega arith in ap (bit_or n) nothing ∙ or_zero_r n

-- the bit that was 0 has the value that `|` sets
set_here : (place n : ℕ) (bit : Bool) (m : ℕ) → place < 64 → m ≡ bool_byte bit → number_bit place n ≡ false → number_bit place (bit_or n (m * 2 ^ place % 2 ^ 64)) ≡ bit
set_here place n true m few is was = ap (λ k. number_bit place (bit_or n (k * 2 ^ place % 2 ^ 64))) is ∙ ap (λ k. nat_eq k 1) (bit_at_set_same w64 n place few)
set_here place n false m few is was = ap (λ k. number_bit place (bit_or n (k * 2 ^ place % 2 ^ 64))) is ∙ ap (number_bit place) (none_set place n) ∙ was

-- the other bits are unchanged
set_other : (place other n : ℕ) (bit : Bool) (m : ℕ) → place < 64 → m ≡ bool_byte bit → other ≢ place → number_bit other (bit_or n (m * 2 ^ place % 2 ^ 64)) ≡ number_bit other n
set_other place other n true m few is apart = ap (λ k. number_bit other (bit_or n (k * 2 ^ place % 2 ^ 64))) is ∙ ap (λ k. nat_eq k 1) (bit_at_set_other w64 n place few other apart)
set_other place other n false m few is apart = ap (λ k. number_bit other (bit_or n (k * 2 ^ place % 2 ^ 64))) is ∙ ap (number_bit other) (none_set place n)

-- the lane has the bits of the first wires and no others, and the other lanes are unchanged
pub record IsLoading (place : ℕ) (digits start words : List ℕ) (wire : ℕ) : Type 0 where
  pub loaded : take wire (lane place words) ≡ map digit_bit (take wire digits)
  pub zeros : (later : ℕ) → wire ≤ later → number_bit place (get_or words later 0) ≡ false
  pub others : (other : ℕ) → other ≢ place → lane other words ≡ lane other start

zero_bit : (place : ℕ) (words : List ℕ) (wire : ℕ) → lane place words ≡ replicate (length words) false → number_bit place (get_or words wire 0) ≡ false
zero_bit place [] wire e = ap (λ n. nat_eq n 1) (bit_at-zero place)
zero_bit place (word ∷ words) zero e = cc
zero_bit place (word ∷ words) (suc wire) e = zero_bit place words wire cc

pub loading_none : (place : ℕ) (digits words : List ℕ) → lane place words ≡ replicate (length words) false → IsLoading place digits words words 0
loading_none place digits words none = record { loaded = refl; zeros = λ later from. zero_bit place words later none; others = λ other apart. refl }

pub loading_more : {place : ℕ} {digits start words : List ℕ} {wire : ℕ} (m : ℕ) → place < 64 → wire < length words → wire < length digits → m ≡ bool_byte (digit_bit (get_or digits wire 0)) → IsLoading place digits start words wire →
    IsLoading place digits start (set words wire (bit_or (get_or words wire 0) (m * 2 ^ place % 2 ^ 64))) (wire + 1)
loading_more {place} {digits} {start} {words} {wire} m few inside within is loading =
    let bit : Bool = digit_bit (get_or digits wire 0) in
    let word : ℕ = get_or words wire 0 in
    let new : ℕ = bit_or word (m * 2 ^ place % 2 ^ 64) in
    let here : number_bit place new ≡ bit = set_here place word bit m few is (loading.zeros wire (omega arith)) in
    let count : length (lane place words) ≡ length words = length-map words (number_bit place) in
    record {
      loaded =
          ap (take (wire + 1)) (map-set (number_bit place) words wire new)
          ∙ take_more_set (lane place words) wire (number_bit place new) (omega arith)
          ∙ ap (λ b. take wire (lane place words) ++ b ∷ []) here
          ∙ ap (λ bits. bits ++ bit ∷ []) loading.loaded
          ∙ sym (map_more digit_bit digits wire 0 within);
      zeros = λ later from. ap (number_bit place) (get_or-set_other words wire later new 0 (λ e. omega arith)) ∙ loading.zeros later (omega arith);
      others = λ other apart. map-set_same (number_bit other) words wire new 0 (set_other place other word bit m few is apart) ∙ loading.others other apart;
    }
