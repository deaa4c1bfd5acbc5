use Rattle.std.proofs.Common.{sym}
use Rattle.tw_bits.proofs.WordNumbers.{two_digits}
use Rattle.tw_bits.proofs.words.two_words.Goals as goal

pub returns : goal.returns
returns c = sym (two_digits c.args.words.now c.args.at c.requires c.type_inv.words)
