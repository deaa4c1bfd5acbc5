-- The answer to an input that is read as a gate file, and what may follow the file.
use Rattle.std.specs.Prelude.{◌≡◌, ℕ, ◌+◌, List, length}
use Rattle.tw_text.specs.declared.refusal.Refusal.{Refusal}
use Rattle.tw_text.specs.declared.diagnostic.Diagnostic.TheVariants as diagnostic
use Rattle.tw_gatetext.specs.declared.file.GateFault.TheVariants as fault
use Rattle.tw_gatetext.specs.Text.{File}
use Rattle.tw_gatetext.specs.Files.{BeginsWith}
use Rattle.tw_gatetext.specs.Refused.{IsRefusedText}
use Rattle.tower.specs.Outcomes.{Outcome, Refuses}

-- the answer to the file and the rest that the input is, or the refusal of an input that begins with no file
pub data GatesAnswer (bytes : List ℕ) (OnFile : File → List ℕ → Outcome → Type 0) (outcome : Outcome) : Type 0 where
  OnPrefix : (file : File) (rest : List ℕ) → BeginsWith bytes file rest → OnFile file rest outcome → GatesAnswer bytes OnFile outcome
  WrongLine : (line : ℕ) → IsRefusedText bytes (fault.BadGateText line) → outcome ≡ Refuses (diagnostic.BadGateText line) → GatesAnswer bytes OnFile outcome
  PastLimit : (refusal : Refusal) → IsRefusedText bytes (fault.Over refusal) → outcome ≡ Refuses (diagnostic.Refused refusal) → GatesAnswer bytes OnFile outcome

-- the number of the line after a gate file: five header lines, a line for each gate and the last line precede it
abbrev pub next_line : File → ℕ
next_line file = length file.gates + 7
