use Rattle.std.proofs.Common.{sym}
use Rattle.tw_bits.proofs.WordNumbers.{one_digit}
use Rattle.tw_bits.proofs.words.word.Goals as goal

pub returns : goal.returns
returns c = sym (one_digit c.args.words.now c.args.at c.requires c.type_inv.words)
