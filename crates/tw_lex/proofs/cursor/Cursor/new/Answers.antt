use Rattle.tw_lex.specs.Left.{left_of}
use Rattle.tw_lex.proofs.Cursors.{from}
use Rattle.tw_lex.proofs.cursor.Cursor.new.Goals as goal

pub at-requires : goal.at-requires
at-requires c = rw (c.of.ensures.text, c.of.ensures.place) (from _ _ c.requires.counted.0 c.requires.counted.1, c.requires.counted.2)

pub returns : goal.returns
unfolding left_of
returns c =
    let same = rw (c.of.ensures.text, c.of.ensures.place) at c.at.ensures in
    rw (same (from _ _ c.requires.counted.0 c.requires.counted.1)) c.requires.counted.1
