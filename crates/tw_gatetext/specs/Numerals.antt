-- Numbers as gate files write them, including those above the greatest number of 64 bits.
use Rattle.std.proofs.Common.{arith}
use Rattle.std.specs.Prelude.{◌≡◌, ◌≢◌, ℕ, ◌<◌, ◌-◌, ◌^◌, List, [], ◌∷◌, decimal, codes, refl}
use Rattle.std.specs.Fmt.{digits}
use Rattle.tw_text.specs.Digits.{digit_run}

-- the first character is a digit other than 0
abbrev pub LeadsWithoutZero : List ℕ → Type 0
LeadsWithoutZero [] = ⊥
LeadsWithoutZero (digit ∷ digits) = digit ≢ 48

-- a run of digits without leading zero that writes a number above the greatest one of 64 bits
pub record IsLarger (run : List ℕ) : Type 0 where
  pub leads : LeadsWithoutZero run
  pub no_word : (n : ℕ) → n < 2 ^ 64 → run ≢ decimal n

-- The number that the longest prefix of digits writes, without leading zero. The greatest number of 64 bits represents all larger
-- numbers.
pub data Shows (text : List ℕ) (number : ℕ) : Type 0 where
  Word : number < 2 ^ 64 → digit_run text ≡ decimal number → Shows text number
  Larger : IsLarger (digit_run text) → number ≡ 2 ^ 64 - 1 → Shows text number

-- the text is the digits of a number of any size
pub record IsNumeral (text : List ℕ) : Type 0 where
  pub number : ℕ
  pub shows : Shows text number
  pub whole : digit_run text ≡ text

pub Shows-front : Shows (codes "1048577 junk") 1048577
unfolding digits
Shows-front = Word (omega arith) refl

-- a leading zero is followed by a digit
pub LeadsWithoutZero-zero : LeadsWithoutZero (codes "07") → ⊥
LeadsWithoutZero-zero leads = leads refl
