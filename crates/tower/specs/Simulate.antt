-- The answer to `sim`, and what it promises.
use Rattle.std.specs.Prelude.{◌≡◌, ◌≢◌, ℕ, ◌++◌, Bool, List, [], map, codes, Option}
use Rattle.tw_io.specs.Devices.{Appends}
use Rattle.tw_text.specs.declared.refusal.Refusal.{Refusal}
use Rattle.tw_text.specs.declared.diagnostic.Diagnostic.TheVariants as diagnostic
use Rattle.tw_gate.specs.declared.gate.Level.TheVariants as levels
use Rattle.tw_gate.specs.Gates.{act, IsPermutation}
use Rattle.tw_gatetext.specs.Text.{File}
use Rattle.tw_gatetext.specs.Files.{BeginsWith}
use Rattle.tw_sim.specs.declared.lines.LinesFault.TheVariants as fault
use Rattle.tw_sim.specs.BitLines.{bit_lines, AreLinesOf, AreRefused}
use Rattle.tower.specs.Outcomes.{Outcome, Prints, Refuses}
use Rattle.tower.specs.GateInputs.{next_line}

-- The lines of bits that follow a gate file are those after a line `%%`.
-- There are none if the input ends with the file or with `%%`.
pub data HasLines (rest lines : List ℕ) : Type 0 where
  AtEnd : rest ≡ [] → lines ≡ [] → HasLines rest lines
  AtMark : rest ≡ codes "%%" → lines ≡ [] → HasLines rest lines
  AfterMark : rest ≡ codes "%%\n" ++ lines → HasLines rest lines

-- Lines of bits are answered by their images under the gates.
-- If they are wrong, the first wrong line is refused, or the number of lines that passes its limit.
pub data LinesAnswer (file : File) (lines : List ℕ) (outcome : Outcome) : Type 0 where
  OnStates : (states : List (List Bool)) → AreLinesOf file.wires lines states → outcome ≡ Prints (bit_lines (map (act file.gates) states)) → LinesAnswer file lines outcome
  WrongLine : (line : ℕ) → AreRefused file.wires lines (fault.BitsLength line) → outcome ≡ Refuses (diagnostic.BitsLength line) → LinesAnswer file lines outcome
  PastLimit : (refusal : Refusal) → AreRefused file.wires lines (fault.Over refusal) → outcome ≡ Refuses (diagnostic.Refused refusal) → LinesAnswer file lines outcome

-- A file of level t is refused, whatever follows it. A file of another level is refused if another line than `%%` follows it.
pub data SimulateAnswer (file : File) (rest : List ℕ) (outcome : Outcome) : Type 0 where
  OfLevelT : file.level ≡ levels.T → outcome ≡ Refuses diagnostic.LevelT → SimulateAnswer file rest outcome
  OnLines : file.level ≢ levels.T → (lines : List ℕ) → HasLines rest lines → LinesAnswer file lines outcome → SimulateAnswer file rest outcome
  OtherLine : file.level ≢ levels.T → ((lines : List ℕ) → ¬ HasLines rest lines) → outcome ≡ Refuses (diagnostic.BadGateText (next_line file)) → SimulateAnswer file rest outcome

-- The input is a valid gate file of X gates, then lines of bits, and the sink took the image of each line under the gates.
pub record Simulated (bytes : List ℕ) (before now : Option (List ℕ)) : Type 0 where
  pub file : File
  pub rest : List ℕ
  pub begins : BeginsWith bytes file rest
  pub classical : file.level ≢ levels.T
  pub lines : List ℕ
  pub has : HasLines rest lines
  pub states : List (List Bool)
  pub spelled : AreLinesOf file.wires lines states
  pub printed : Appends before now (bit_lines (map (act file.gates) states))
  pub permutes : IsPermutation file.wires file.gates
