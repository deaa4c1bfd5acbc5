-- Right lines after the header, and lines that are not right.
use Rattle.std.proofs.Common.{◌≡◌, ◌∙◌, ap, sym, ℕ, ◌<◌, ◌≤◌, ◌^◌, List, [], ◌∷◌, ◌++◌, length, None, refl, arith}
use Rattle.std.proofs.lemmas.Bool.Decides.{nat_tests}
use Rattle.std.proofs.lemmas.List.{length_push}
use Rattle.tw_gatetext.specs.declared.gate_words.TheConstants.{MOST_NUMBERS}
use Rattle.tw_gate.specs.Gates.{PlainGate, X, H, T, Tdg}
use Rattle.tw_gate.specs.declared.gate.Level.{Level}
use Rattle.tw_gatetext.specs.Text.{line, last_line, HasFewControls}
use Rattle.tw_gatetext.specs.Valid.{FitsLevel, FitsWires}
use Rattle.tw_gatetext.specs.LineWords.{letters, numbers_of}
use Rattle.tw_gatetext.specs.Lines.{Head, Progress, InBody, Whole, IsBodyLine, OfGate, Last, StepsTo}
use Rattle.tw_gatetext.specs.Refused.{controls_limit, limit_at, IsWrong}
use Rattle.tw_gatetext.specs.Reading.{HasNoSpace, AreLineNumbers, IsLineOf}
use Rattle.tw_gatetext.proofs.OneToOne.{line-letters}
use Rattle.tw_gatetext.proofs.Bounds.{HasFewControls-fits, numbers_below}
use Rattle.tw_gatetext.proofs.HeaderLines.{wrong_unlimited}
use Rattle.tw_gatetext.proofs.WordsOfLines.{words-delimited}

letters-no_space : (gate : PlainGate) → HasNoSpace (letters gate)
letters-no_space (X [] target) = (omega arith, tt)
letters-no_space (X (a ∷ []) target) = (omega arith, (omega arith, tt))
letters-no_space (X (a ∷ b ∷ []) target) = (omega arith, (omega arith, (omega arith, tt)))
letters-no_space (X (a ∷ b ∷ c ∷ rest) target) = (omega arith, (omega arith, (omega arith, tt)))
letters-no_space (H wire) = (omega arith, tt)
letters-no_space (T wire) = (omega arith, tt)
letters-no_space (Tdg wire) = (omega arith, (omega arith, (omega arith, tt)))

-- the number of numbers on the line of a gate
count : (gate : PlainGate) → HasFewControls gate → (1 ≤ length (numbers_of gate)) × (length (numbers_of gate) ≤ MOST_NUMBERS)
count (X [] target) few = (omega arith, omega arith)
count (X (a ∷ []) target) few = (omega arith, omega arith)
count (X (a ∷ b ∷ []) target) few = (omega arith, omega arith)
count (X (a ∷ b ∷ c ∷ rest) target) few = (omega (arith, length_push rest target), omega (arith, length_push rest target))
count (H wire) few = (omega arith, omega arith)
count (T wire) few = (omega arith, omega arith)
count (Tdg wire) few = (omega arith, omega arith)

line_numbers : (level : Level) (wires : ℕ) (gate : PlainGate) → wires < 2 ^ 32 → FitsLevel level gate → FitsWires wires gate → AreLineNumbers (numbers_of gate)
line_numbers level wires gate few level_fits fits =
    let counted = count gate (HasFewControls-fits level gate level_fits) in
    record { some = counted.0; few = counted.1; small = numbers_below (2 ^ 32) level wires gate (omega arith) (omega arith) level_fits fits }

-- no gate that fits has this word and these numbers
abbrev pub FitsNone : Head → List ℕ → List ℕ → Type 0
FitsNone head word ns = (gate : PlainGate) → FitsLevel head.level gate → FitsWires head.wires gate → word ≡ letters gate → ¬ (ns ≡ numbers_of gate)

no_gate : (head : Head) (gates : List PlainGate) (bytes text rest : List ℕ) (next : Progress) → length gates < head.gates
    → ((gate : PlainGate) → FitsLevel head.level gate → FitsWires head.wires gate → ¬ IsLineOf bytes (letters gate) (numbers_of gate) rest) → bytes ≡ text ++ rest → ¬ IsBodyLine head gates text next
no_gate head gates bytes text rest next more none parts (OfGate gate less level wires is comes) =
    none gate level wires (parts ∙ ap (λ (t : List ℕ). t ++ rest) is ∙ line-letters gate rest)
no_gate head gates bytes text rest next more none parts (Last all is comes) = omega arith

-- bytes that do not begin with a line of a word and numbers do not begin with a right line before the last one
pub no_words : (head : Head) (gates : List PlainGate) (bytes : List ℕ) → head.wires < 2 ^ 32 → length gates < head.gates → ((word ns rest : List ℕ) → HasNoSpace word → AreLineNumbers ns → ¬ IsLineOf bytes word ns rest)
    → (next : Progress) (rest : List ℕ) → ¬ StepsTo (InBody head gates) bytes next rest
no_words head gates bytes few more none next rest step =
    no_gate head gates bytes step.text rest next more
    (λ gate level wires. none (letters gate) (numbers_of gate) rest (letters-no_space gate) (line_numbers head.level head.wires gate few level wires)) step.parts step.right

-- neither do bytes whose first line has the word and the numbers of no gate that fits
pub no_fit : (head : Head) (gates : List PlainGate) (bytes word ns behind : List ℕ) → head.wires < 2 ^ 32 → length gates < head.gates → HasNoSpace word → AreLineNumbers ns → IsLineOf bytes word ns behind → FitsNone head word ns
    → (next : Progress) (rest : List ℕ) → ¬ StepsTo (InBody head gates) bytes next rest
no_fit head gates bytes word ns behind few more none are is fits next rest step =
    no_gate head gates bytes step.text rest next more
    (λ gate level wires e.
    let same = words-delimited bytes word ns behind (letters gate) (numbers_of gate) rest none are is (letters-no_space gate) (line_numbers head.level head.wires gate few level wires) e in
    fits gate level wires same.0 same.1) step.parts step.right

-- a gate that fits makes a right line
pub gate_steps : (head : Head) (gates : List PlainGate) (gate : PlainGate) (bytes word ns rest : List ℕ) → length gates < head.gates → FitsLevel head.level gate → FitsWires head.wires gate → word ≡ letters gate → ns ≡ numbers_of gate
    → IsLineOf bytes word ns rest → StepsTo (InBody head gates) bytes (InBody head (gates ++ gate ∷ [])) rest
gate_steps head gates gate bytes word ns rest more level wires letters_are numbers_are is =
    record {
      text = line gate;
      parts = is ∙ rw (letters_are, numbers_are) (sym (line-letters gate rest));
      right = OfGate gate more level wires refl refl;
    }

-- the limit that applies before the last line
pub limit_before : (head : Head) (gates : List PlainGate) → length gates < head.gates → limit_at (InBody head gates) ≡ controls_limit head.level
limit_before head gates more = grind (arith, nat_tests)

limit_last : (head : Head) (gates : List PlainGate) → length gates ≡ head.gates → limit_at (InBody head gates) ≡ None
limit_last head gates all = grind (arith, nat_tests)

pub last_steps : (head : Head) (gates : List PlainGate) (bytes rest : List ℕ) → length gates ≡ head.gates → bytes ≡ last_line ++ rest → StepsTo (InBody head gates) bytes (Whole head gates) rest
last_steps head gates bytes rest all is = record { text = last_line; parts = is; right = Last all refl refl }

not_last : (head : Head) (gates : List PlainGate) (bytes text rest : List ℕ) (next : Progress) → length gates ≡ head.gates → ¬ (bytes ≡ last_line ++ rest) → bytes ≡ text ++ rest → ¬ IsBodyLine head gates text next
not_last head gates bytes text rest next all none parts (OfGate gate less level wires is comes) = omega arith
not_last head gates bytes text rest next all none parts (Last all' is comes) = none (parts ∙ ap (λ (t : List ℕ). t ++ rest) is)

pub no_last : (head : Head) (gates : List PlainGate) (bytes : List ℕ) → length gates ≡ head.gates → ((rest : List ℕ) → ¬ (bytes ≡ last_line ++ rest)) → IsWrong (InBody head gates) bytes
no_last head gates bytes all none =
    wrong_unlimited (InBody head gates) bytes tt (limit_last head gates all) (λ next rest step. not_last head gates bytes step.text rest next all (none rest) step.parts step.right)
