use Rattle.std.proofs.Common.{◌-◌, suc, map}
use Rattle.tw_syntax.specs.Programs.{param_tree}
use Rattle.tw_lex.specs.declared.symbol.Symbol.TheVariants as symbols
use Rattle.tw_lex.specs.Left.{left_of}
use Rattle.tw_parse.specs.reading.Steps.{leads, all_at, put_first}
use Rattle.tw_parse.specs.reading.Terms.{type_at}
use Rattle.tw_parse.specs.reading.Statements.{comma_param_with}
use Rattle.tw_parse.proofs.code.Many.{Reads}
use Rattle.tw_parse.proofs.functions.more_params.Given as goal

abbrev pub invariant-loop : goal.invariant-loop
invariant-loop l =
    Reads (leads symbols.Comma) (comma_param_with (type_at (suc l.fn.room))) (map param_tree l.params.items) (l.count - l.counter) (left_of l.cursor)
    (put_first (param_tree l.fn.first) (all_at (leads symbols.Comma) (comma_param_with (type_at (suc l.fn.room))) (left_of l.initial.cursor)))
