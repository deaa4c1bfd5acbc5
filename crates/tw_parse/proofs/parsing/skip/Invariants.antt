use Rattle.std.proofs.Common.{◌≡◌, drop}
use Rattle.tw_lex.specs.Left.{left_of}
use Rattle.tw_parse.proofs.parsing.skip.Given as goal

abbrev pub invariant-loop : goal.invariant-loop
invariant-loop l = left_of l.cursor ≡ drop l.counter (left_of l.initial.cursor)
