use Rattle.std.proofs.Common.{◌≡◌, drop}
use Rattle.tw_lex.specs.Symbols.{find_symbol}
use Rattle.tw_lex.proofs.word.symbol_with.Given as goal

abbrev pub invariant-loop-symbol : goal.invariant-loop-symbol
invariant-loop-symbol l = find_symbol (drop l.symbol-index l.list) l.text ≡ find_symbol l.list l.text
