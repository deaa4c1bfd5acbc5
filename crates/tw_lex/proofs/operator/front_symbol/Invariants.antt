use Rattle.std.proofs.Common.{◌≡◌, drop}
use Rattle.std.specs.Str.{chars}
use Rattle.tw_lex.specs.Symbols.{find_prefix}
use Rattle.tw_lex.proofs.operator.front_symbol.Given as goal

abbrev pub invariant-loop-symbol : goal.invariant-loop-symbol
invariant-loop-symbol l = find_prefix (drop l.symbol-index l.list) (chars l.text) ≡ find_prefix l.list (chars l.text)
