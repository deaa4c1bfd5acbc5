-- Gate files in memory, without the addresses of their gates.
use Rattle.std.specs.Prelude.{◌≡◌, ℕ, List, ◌++◌, length}
use Rattle.tw_gatetext.specs.declared.file.GateFile.{GateFile}
use Rattle.tw_gatetext.specs.declared.file.FileText.{FileText}
use Rattle.tw_gatetext.specs.Text.{File, lines, header, file_text}
use Rattle.tw_gatetext.specs.Valid.{IsValid}

-- a file of the code
abbrev pub plain_file : GateFile → File
plain_file file = record { level = file.level; wires = file.wires; t_count = file.t_count; gates = file.gates }

-- the bytes are the text of this valid file, then this rest
pub record BeginsWith (bytes : List ℕ) (file : File) (rest : List ℕ) : Type 0 where
  pub valid : IsValid file
  pub text : bytes ≡ file_text file ++ rest

-- the parts of the text of this file
pub record IsTextOf (text : FileText) (file : File) : Type 0 where
  pub header : text.header.now ≡ header file.level file.wires (length file.gates) file.t_count
  pub lines : text.lines.now ≡ lines file.gates
  pub gates : text.gates ≡ length file.gates
