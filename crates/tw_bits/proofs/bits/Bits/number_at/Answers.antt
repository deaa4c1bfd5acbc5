use Rattle.std.proofs.Common.{arith}
use Rattle.tw_bits.proofs.Places.{length-seen, number_read}
use Rattle.tw_bits.proofs.bits.Bits.number_at.Goals as goal

pub two_words-requires : goal.two_words-requires
two_words-requires c = omega (arith, c.requires.within, c.self.invariant, c.deref.ensures.len, length-seen _ _ _ c.self.view_is)

pub returns-clause-bits : goal.returns-clause-bits
returns-clause-bits c =
    number_read _ _ _ c.self.view_is c.args.off c.args.len c.two_words.result c.requires.word c.requires.within
    (rw c.deref.ensures.value at c.two_words.ensures)
