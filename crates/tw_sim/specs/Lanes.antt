-- Words as 64 lanes of bits: lane `j` has bit `j` of each word.
use Rattle.std.specs.Prelude.{◌≡◌, ℕ, ◌/◌, ◌%◌, ◌^◌, ◌==◌, ◌<◌, Bool, true, false, List, [], ◌∷◌, map, refl}
use Rattle.std.specs.List.{range_with_len}
use Rattle.tw_gate.specs.Gates.{PlainGate, act}

-- a bit of a number, the least at place 0
abbrev pub number_bit : ℕ → ℕ → Bool
number_bit place n = (n / 2 ^ place % 2 == 1)

-- a lane of the words
abbrev pub lane : ℕ → List ℕ → List Bool
lane place words = map (number_bit place) words

-- this number of lanes of the words, in order from the first
abbrev pub lanes : ℕ → List ℕ → List (List Bool)
lanes count words = map (λ place. lane place words) (range_with_len 0 count)

-- each lane of the words has become its image under the gates
abbrev pub LanesActed : List PlainGate → List ℕ → List ℕ → Type 0
LanesActed gates before now = (place : ℕ) → place < 64 → lane place now ≡ act gates (lane place before)

-- 5 is 101 and 3 is 011, greatest bit first
pub lanes-three : lanes 3 (5 ∷ 3 ∷ []) ≡ (true ∷ true ∷ []) ∷ (false ∷ true ∷ []) ∷ (true ∷ false ∷ []) ∷ []
lanes-three = refl
