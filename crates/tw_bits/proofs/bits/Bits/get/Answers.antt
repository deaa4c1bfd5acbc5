use Rattle.std.proofs.Common.{arith}
use Rattle.tw_bits.proofs.Places.{length-seen, bit_read}
use Rattle.tw_bits.proofs.bits.Bits.get.Goals as goal

pub word-requires : goal.word-requires
word-requires c = omega (arith, c.requires, c.self.invariant, c.deref.ensures.len, length-seen _ _ _ c.self.view_is)

pub returns : goal.returns
returns c = bit_read _ _ _ c.self.view_is c.args.i c.word.result c.requires (rw c.deref.ensures.value at c.word.ensures)
