use Rattle.std.proofs.Common.{◌∙◌, ap, bit_xor, ◌+◌, ◌*◌, ◌/◌, ◌^◌}
use Rattle.tw_bits.proofs.WordNumbers.{two_flips}
use Rattle.tw_bits.proofs.words.flip_two_words.Goals as goal

pub returns-clause-number : goal.returns-clause-number
returns-clause-number c =
    c.flip_word-2.ensures.number
    ∙ ap (λ n. bit_xor n (c.args.flips / 2 ^ 64 * 2 ^ (64 * (c.args.at + 1)))) c.flip_word.ensures.number
    ∙ two_flips _ c.args.flips c.args.at
