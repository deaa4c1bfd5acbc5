-- The text of the inverse file, from the parts of the text of a file.
use Rattle.std.proofs.Common.{◌≡◌, ◌++◌, refl}
use Rattle.tw_gate.specs.Gates.{inverse}
use Rattle.tw_gate.proofs.Inverse.{length-inverse}
use Rattle.tw_gatetext.specs.declared.file.FileText.{FileText}
use Rattle.tw_gatetext.specs.Text.{File, lines, last_line, file_text}
use Rattle.tw_gatetext.specs.Files.{IsTextOf}
use Rattle.tw_gatetext.specs.Inverting.{HaveSmallNumbers}
use Rattle.tw_gatetext.specs.Valid.{IsValid}
use Rattle.tw_gatetext.proofs.Bounds.{small_gates}

pub inverse_text : (text : FileText) (file : File) → IsTextOf text file → file_text (record file { gates = inverse file.gates }) ≡ text.header.now ++ (lines (inverse file.gates) ++ last_line)
unfolding file_text
inverse_text text file is = rw (is.header, length-inverse file.gates) refl

pub small_file : (file : File) → IsValid file → HaveSmallNumbers file.gates
small_file file valid = small_gates file.level file.wires file.gates valid.few_wires valid.fit_level valid.fit_wires
