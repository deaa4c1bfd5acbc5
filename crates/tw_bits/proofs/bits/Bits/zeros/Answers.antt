use Rattle.std.proofs.Common.{◌∙◌, ap}
use Rattle.tw_bits.specs.Numbers.{number_bits}
use Rattle.tw_bits.specs.Words.{words_number}
use Rattle.tw_bits.proofs.Laws.{number_bits-zero}
use Rattle.tw_bits.proofs.WordNumbers.{words_number-zeros}
use Rattle.tw_bits.proofs.bits.Bits.zeros.Goals as goal

pub returns : goal.returns
returns c =
    ap (λ words. number_bits c.args.n (words_number words)) (c.in_ok-vec.ensures.items_if_clones_equal (λ y h. h))
    ∙ ap (number_bits c.args.n) (words_number-zeros _)
    ∙ number_bits-zero c.args.n
