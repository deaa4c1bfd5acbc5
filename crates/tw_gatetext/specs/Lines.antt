-- The lines that may follow the lines so far in a gate file.
use Rattle.std.proofs.Common.{arith}
use Rattle.std.specs.Prelude.{◌≡◌, ℕ, ◌+◌, ◌<◌, ◌≤◌, List, [], ◌∷◌, ◌++◌, length, codes, decimal, refl}
use Rattle.std.specs.Fmt.{digits}
use Rattle.tw_gate.specs.declared.gate.Level.{Level}
use Rattle.tw_gate.specs.declared.gate.Level.TheVariants as levels
use Rattle.tw_gate.specs.Gates.{PlainGate, X}
use Rattle.tw_text.specs.declared.limits.TheConstants.{WIRES_LIMIT, LINES_LIMIT}
use Rattle.tw_gatetext.specs.Text.{level_word, line, last_line}
use Rattle.tw_gatetext.specs.Valid.{FitsLevel, FitsWires}
use Rattle.tw_gatetext.specs.Numerals.{IsNumeral}

-- the values of the five header lines: the level, the number of wires, the number of gate lines, and the digits of the T-count
pub record Head : Type 0 where
  pub level : Level
  pub wires : ℕ
  pub gates : ℕ
  pub t_count : List ℕ

-- How far a file has come: the kind of the next line, and the values of the lines so far. After the header comes a gate line or,
-- after the last one, the line `end`; then the file is whole.
pub data Progress : Type 0 where
  AtVersion : Progress
  AtLevel : Progress
  AtWires : (level : Level) → Progress
  AtGates : (level : Level) (wires : ℕ) → Progress
  AtTCount : (level : Level) (wires gates : ℕ) → Progress
  InBody : (head : Head) (gates : List PlainGate) → Progress
  Whole : (head : Head) (gates : List PlainGate) → Progress

-- a line after the header, and how far the file has come after it: a gate that fits the level and the wires, or the last line
pub data IsBodyLine (head : Head) (gates : List PlainGate) (text : List ℕ) (next : Progress) : Type 0 where
  OfGate : (gate : PlainGate) → length gates < head.gates → FitsLevel head.level gate → FitsWires head.wires gate
      → text ≡ line gate → next ≡ InBody head (gates ++ gate ∷ []) → IsBodyLine head gates text next
  Last : length gates ≡ head.gates → text ≡ last_line → next ≡ Whole head gates → IsBodyLine head gates text next

-- the text is a right line at this point of a file, and `next` is the point after it
abbrev pub IsRight : Progress → List ℕ → Progress → Type 0
IsRight AtVersion text next = (text ≡ codes "tower-gates 1\n") × (next ≡ AtLevel)
IsRight AtLevel text next = (level : Level) × (text ≡ codes "level " ++ (level_word level ++ codes "\n")) × (next ≡ AtWires level)
IsRight (AtWires level) text next =
    (wires : ℕ) × (1 ≤ wires) × (wires ≤ WIRES_LIMIT) × (text ≡ codes "wires " ++ (decimal wires ++ codes "\n")) × (next ≡ AtGates level wires)
IsRight (AtGates level wires) text next =
    (gates : ℕ) × (gates ≤ LINES_LIMIT) × (text ≡ codes "gates " ++ (decimal gates ++ codes "\n")) × (next ≡ AtTCount level wires gates)
IsRight (AtTCount level wires gates) text next =
    (t_count : List ℕ) × IsNumeral t_count × (text ≡ codes "t-count " ++ (t_count ++ codes "\n"))
    × (next ≡ InBody (record { level = level; wires = wires; gates = gates; t_count = t_count }) [])
IsRight (InBody head gates) text next = IsBodyLine head gates text next
IsRight (Whole head gates) text next = ⊥

-- the bytes at this point of a file begin with a right line; `next` is the point after it,
-- and this is the rest
pub record StepsTo (progress : Progress) (bytes : List ℕ) (next : Progress) (rest : List ℕ) : Type 0 where
  pub text : List ℕ
  pub parts : bytes ≡ text ++ rest
  pub right : IsRight progress text next

-- the bytes are this number of right lines, which lead to this point of a file, then this rest
pub data Reaches (bytes : List ℕ) : ℕ → Progress → List ℕ → Type 0 where
  Start : Reaches bytes 0 AtVersion bytes
  Line : (lines : ℕ) (at : Progress) (behind : List ℕ) (progress : Progress) (rest : List ℕ) → Reaches bytes lines at behind → StepsTo at behind progress rest
      → Reaches bytes (lines + 1) progress rest

-- a file of level mcx on 7 wires with one gate line
abbrev pub example_head : Head
example_head = record { level = levels.Mcx; wires = 7; gates = 1; t_count = codes "0" }

pub IsRight-wires : IsRight (AtWires levels.Mcx) (codes "wires 7\n") (AtGates levels.Mcx 7)
unfolding digits
IsRight-wires = (7, omega arith, omega arith, refl, refl)

pub IsRight-gate : IsRight (InBody example_head []) (codes "cx 2 5\n") (InBody example_head (X (2 ∷ []) 5 ∷ []))
unfolding digits
IsRight-gate = OfGate (X (2 ∷ []) 5) (omega arith) (omega arith) ((tt, (λ same. cc, tt)), ((omega arith, tt), omega arith)) refl refl

pub IsRight-last : IsRight (InBody example_head (X [] 5 ∷ [])) (codes "end\n") (Whole example_head (X [] 5 ∷ []))
IsRight-last = Last refl refl refl
