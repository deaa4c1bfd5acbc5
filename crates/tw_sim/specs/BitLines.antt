-- Lines of bits: one for each state of the wires, wire 0 first; and how other texts are refused.
use Rattle.std.specs.Prelude.{◌≡◌, ◌≢◌, ℕ, ◌+◌, ◌<◌, ◌≤◌, Bool, true, false, List, [], ◌∷◌, ◌++◌, length, map, codes, refl}
use Rattle.std.specs.List.{AllByRecursion}
use Rattle.tw_text.specs.declared.refusal.Counted.TheVariants as counted
use Rattle.tw_text.specs.declared.limits.TheConstants.{STATES_LIMIT}
use Rattle.tw_text.specs.declared.refusal.Refusal.{Refusal}
use Rattle.tw_text.specs.Places.{first_place}
use Rattle.tw_text.specs.Refusals.{passed}
use Rattle.tw_sim.specs.declared.lines.LinesFault.{LinesFault}
use Rattle.tw_sim.specs.declared.lines.LinesFault.TheVariants as fault

-- the character of a bit: `0` or `1`
abbrev pub bit_digit : Bool → ℕ
bit_digit false = 48
bit_digit true = 49

-- the line of a state
abbrev pub bit_line : List Bool → List ℕ
bit_line bits = map bit_digit bits ++ codes "\n"

-- the lines of states, in order
abbrev pub bit_lines : List (List Bool) → List ℕ
bit_lines [] = []
bit_lines (bits ∷ states) = bit_line bits ++ bit_lines states

-- each state has a bit for each wire
abbrev pub HaveWires : ℕ → List (List Bool) → Type 0
HaveWires wires states = AllByRecursion (λ bits. length bits ≡ wires) states

-- the text is the lines of these states, with this number of wires each, and their number is within its limit
pub record AreLinesOf (wires : ℕ) (text : List ℕ) (states : List (List Bool)) : Type 0 where
  pub spelled : text ≡ bit_lines states
  pub wide : HaveWires wires states
  pub few : length states ≤ STATES_LIMIT

-- the text does not begin with a line of this number of bits
abbrev pub HasNoLine : ℕ → List ℕ → Type 0
HasNoLine wires text = (bits : List Bool) (rest : List ℕ) → length bits ≡ wires → text ≢ bit_line bits ++ rest

-- the refusal of too many lines; the limit and one more line are counted
abbrev pub too_many : Refusal
too_many = passed counted.States (STATES_LIMIT + 1) first_place

-- Why a text is not lines of this number of bits. Fewer right lines than the limit are followed by something else; lines count
-- from 1. Or as many right lines as the limit are followed by more, whatever it is.
pub data AreRefused (wires : ℕ) (text : List ℕ) (why : LinesFault) : Type 0 where
  WrongLine : (states : List (List Bool)) (rest : List ℕ) → text ≡ bit_lines states ++ rest → HaveWires wires states → length states < STATES_LIMIT
      → rest ≢ [] → HasNoLine wires rest → why ≡ fault.BitsLength (length states + 1) → AreRefused wires text why
  TooMany : (states : List (List Bool)) (rest : List ℕ) → text ≡ bit_lines states ++ rest → HaveWires wires states → length states ≡ STATES_LIMIT
      → rest ≢ [] → why ≡ fault.Over too_many → AreRefused wires text why

pub bit_lines-two : bit_lines ((true ∷ false ∷ []) ∷ (false ∷ false ∷ []) ∷ []) ≡ codes "10\n00\n"
bit_lines-two = refl
