use Rattle.std.proofs.Common.{rules}
use Rattle.tw_bits.proofs.WordNumbers.{words_number-xor}
use Rattle.tw_bits.proofs.words.flip_word.Goals as goal

pub returns-clause-number : goal.returns-clause-number
returns-clause-number c = search (rules, words_number-xor)
