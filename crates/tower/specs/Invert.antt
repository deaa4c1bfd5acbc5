-- The answer to `invert`, and what it promises.
use Rattle.std.specs.Prelude.{◌≡◌, ◌≢◌, ℕ, List, [], Option}
use Rattle.tw_io.specs.Devices.{Appends}
use Rattle.tw_text.specs.declared.diagnostic.Diagnostic.TheVariants as diagnostic
use Rattle.std.specs.List.{AllByRecursion}
use Rattle.tw_gate.specs.Gates.{inverse, IsClassical, IsPermutation}
use Rattle.tw_gatetext.specs.Text.{File, file_text}
use Rattle.tw_gatetext.specs.Valid.{IsValid}
use Rattle.tw_gatetext.specs.Files.{BeginsWith}
use Rattle.tower.specs.Outcomes.{Outcome, Prints, Refuses}
use Rattle.tower.specs.GateInputs.{next_line}

-- the same file with the inverse of its gates
abbrev pub inverse_file : File → File
inverse_file file = record { level = file.level; wires = file.wires; t_count = file.t_count; gates = inverse file.gates }

-- a file is answered by the text of the inverse file; an input that continues after the file is refused at the next line
pub data InvertAnswer (file : File) (rest : List ℕ) (outcome : Outcome) : Type 0 where
  AtEnd : rest ≡ [] → outcome ≡ Prints (file_text (inverse_file file)) → InvertAnswer file rest outcome
  GoesOn : rest ≢ [] → outcome ≡ Refuses (diagnostic.BadGateText (next_line file)) → InvertAnswer file rest outcome

-- The input is a valid gate file, and the sink took the text of the inverse file. That file is valid, and the given file is its
-- inverse.
-- Without Hadamard and T gates, the gates permute lists of bits, and the inverse gates undo them.
pub record Inverted (bytes : List ℕ) (before now : Option (List ℕ)) : Type 0 where
  pub file : File
  pub begins : BeginsWith bytes file []
  pub printed : Appends before now (file_text (inverse_file file))
  pub valid : IsValid (inverse_file file)
  pub twice : inverse_file (inverse_file file) ≡ file
  pub permutes : AllByRecursion IsClassical file.gates → IsPermutation file.wires file.gates
