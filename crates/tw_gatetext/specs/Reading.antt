-- What the functions of the reader return, by the lines that may follow.
use Rattle.std.specs.Prelude.{◌≡◌, ◌≢◌, ℕ, ◌<◌, ◌≤◌, ◌^◌, List, ◌++◌, length, codes}
use Rattle.std.specs.List.{AllByRecursion}
use Rattle.tw_gatetext.specs.declared.gate_words.TheConstants.{MOST_NUMBERS}
use Rattle.tw_gate.specs.Gates.{PlainGate}
use Rattle.tw_gatetext.specs.Text.{File, spaced}
use Rattle.tw_gatetext.specs.declared.file.GateFault.{GateFault}
use Rattle.tw_gatetext.specs.declared.file.GateFault.TheVariants as fault
use Rattle.tw_gatetext.specs.declared.line_fault.NumberLimit.{NumberLimit}
use Rattle.tw_gatetext.specs.declared.header.Header.{Header}
use Rattle.tw_gatetext.specs.Lines.{Progress, Head}
use Rattle.tw_gatetext.specs.Refused.{Limit, Passes, PassesLimit, IsWrong}

-- a limit of the code, whose keyword is a reference
abbrev pub limit_seen : NumberLimit → Limit
limit_seen limit = record { word = limit.word.now; what = limit.what }

-- a header of the code, whose T-count is a reference into the bytes
abbrev pub head_seen : Header → Head
head_seen header = record { level = header.level; wires = header.wires; gates = header.gates; t_count = header.t_count.now }

-- the file of a header of the code, with these gates of this T-count
abbrev pub file_with : Header → ℕ → List PlainGate → File
file_with header sum gates = record { level = header.level; wires = header.wires; t_count = sum; gates = gates }

-- the bytes at this point of a file begin with a line, of this number, that is refused for this reason
abbrev pub IsRefusedLine : Progress → List ℕ → ℕ → GateFault → Type 0
IsRefusedLine progress bytes line (fault.BadGateText at) = (at ≡ line) × IsWrong progress bytes
IsRefusedLine progress bytes line (fault.Over refusal) = Passes progress bytes refusal
IsRefusedLine progress bytes line fault.Memory = ⊥

-- the line of this number passes the limit and is refused for it, or does not pass it
abbrev pub IsTried : Limit → List ℕ → ℕ → GateFault → Type 0
IsTried limit bytes line (fault.BadGateText at) = (at ≡ line) × ((refusal : _) → ¬ PassesLimit limit bytes refusal)
IsTried limit bytes line (fault.Over refusal) = PassesLimit limit bytes refusal
IsTried limit bytes line fault.Memory = ⊥

-- no byte is a space
abbrev pub HasNoSpace : List ℕ → Type 0
HasNoSpace word = AllByRecursion (λ byte. byte ≢ 32) word

-- the numbers that a line can hold: from one to a count, the controls and a target, each below 2 ^ 32
pub record AreLineNumbers (ns : List ℕ) : Type 0 where
  pub some : 1 ≤ length ns
  pub few : length ns ≤ MOST_NUMBERS
  pub small : AllByRecursion (λ n. n < 2 ^ 32) ns

-- the bytes are a line of this word and these numbers, then this rest
abbrev pub IsLineOf : List ℕ → List ℕ → List ℕ → List ℕ → Type 0
IsLineOf bytes word ns rest = bytes ≡ word ++ (spaced ns ++ (codes "\n" ++ rest))
