use Rattle.std.proofs.Common.{◌-◌, map}
use Rattle.tw_syntax.specs.Names.{name_tree}
use Rattle.tw_lex.specs.declared.symbol.Symbol.TheVariants as symbols
use Rattle.tw_lex.specs.Left.{left_of}
use Rattle.tw_parse.specs.reading.Steps.{leads, all_at, put_first}
use Rattle.tw_parse.specs.reading.Terms.{comma_name_at}
use Rattle.tw_parse.proofs.code.Many.{Reads}
use Rattle.tw_parse.proofs.calls.more_names.Given as goal

abbrev pub invariant-loop : goal.invariant-loop
invariant-loop l =
    Reads (leads symbols.Comma) comma_name_at (map name_tree l.names.items) (l.count - l.counter) (left_of l.cursor)
    (put_first (name_tree l.fn.first) (all_at (leads symbols.Comma) comma_name_at (left_of l.initial.cursor)))
