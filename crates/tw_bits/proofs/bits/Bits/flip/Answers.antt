use Rattle.std.proofs.Common.{◌∙◌, ap, sym, arith}
use Rattle.std.proofs.lemmas.List.{with_items_is}
use Rattle.tw_bits.specs.Words.{words_number}
use Rattle.tw_bits.proofs.Laws.{length-number_bits}
use Rattle.tw_bits.proofs.Places.{length-seen, bit_flipped}
use Rattle.tw_bits.proofs.bits.Bits.flip.Goals as goal

pub flip_word-requires : goal.flip_word-requires
flip_word-requires c = omega (arith, c.requires, c.self.invariant, c.deref_mut.ensures.len, length-seen _ _ _ c.self.view_is)

pub returns-clause-bits : goal.returns-clause-bits
returns-clause-bits c =
    bit_flipped _ _ _ c.self.view_is c.args.i _
    (ap words_number (with_items_is c.self.inside.words c.flip_word.new.words (c.flip_word.ensures.len ∙ c.deref_mut.ensures.len))
    ∙ rw c.deref_mut.ensures.value at c.flip_word.ensures.number)

pub returns-clause-len : goal.returns-clause-len
returns-clause-len c = length-number_bits _ _ ∙ sym (length-seen _ _ _ c.self.view_is)
