use Rattle.std.proofs.Common.{◌∙◌, ap, sym, arith}
use Rattle.std.proofs.lemmas.List.{with_items_is}
use Rattle.tw_bits.specs.Words.{words_number}
use Rattle.tw_bits.proofs.Laws.{length-number_bits}
use Rattle.tw_bits.proofs.Places.{length-seen, number_put}
use Rattle.tw_bits.proofs.bits.Bits.put_number.Goals as goal

pub flip_two_words-requires : goal.flip_two_words-requires
flip_two_words-requires c = omega (arith, c.requires.within, c.self.invariant, c.deref_mut.ensures.len, length-seen _ _ _ c.self.view_is)

pub returns-clause-bits : goal.returns-clause-bits
returns-clause-bits c =
    number_put _ _ _ c.self.view_is c.args.off c.args.len c.args.value c.number_at.result _ c.requires.word c.requires.within c.requires.fits c.number_at.ensures.fits
    c.number_at.ensures.bits
    (ap words_number (with_items_is c.self.inside.words c.flip_two_words.new.words (c.flip_two_words.ensures.len ∙ c.deref_mut.ensures.len))
    ∙ rw c.deref_mut.ensures.value at c.flip_two_words.ensures.number)

pub returns-clause-len : goal.returns-clause-len
returns-clause-len c = length-number_bits _ _ ∙ sym (length-seen _ _ _ c.self.view_is)
