use Rattle.std.proofs.Common.{◌≡◌, ◌+◌, ◌*◌, ◌≤◌, ◌++◌, length, drop}
use Rattle.arrayvec.specs.ArrayString.{array_string_len}
use Rattle.tw_gatetext.specs.Text.{x_words, spaced}
use Rattle.tw_gatetext.proofs.pieces.push_x_line.Given as goal

abbrev pub invariant-loop-control : goal.invariant-loop-control
invariant-loop-control l = record {
  text : l.text.bytes ++ spaced (drop l.control-index l.controls) ≡ l.fn.text.bytes ++ (x_words (length l.controls) ++ spaced l.controls);
  room : array_string_len l.text ≤ 124 + 11 * l.control-index;
}
