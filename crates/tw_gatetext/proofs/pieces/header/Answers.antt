use Rattle.std.proofs.Common.{append_assoc}
use Rattle.tw_gatetext.specs.Text.{header}
use Rattle.tw_gatetext.proofs.pieces.header.Goals as goal

pub returns : goal.returns
unfolding header
returns c =
    rw (
      c.push_str-9.ensures.bytes,
      c.push_str-8.ensures.bytes,
      c.format-3.ensures.text,
      c.push_str-7.ensures.bytes,
      c.push_str-6.ensures.bytes,
      c.format-2.ensures.text,
      c.push_str-5.ensures.bytes,
      c.push_str-4.ensures.bytes,
      c.format.ensures.text,
      c.push_str-3.ensures.bytes,
      c.push_str-2.ensures.bytes,
      c.level_word.ensures.word,
      c.push_str.ensures.bytes,
      c.new-text.ensures,
    )
    (simp append_assoc)
