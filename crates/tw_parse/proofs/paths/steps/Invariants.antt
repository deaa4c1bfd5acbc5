use Rattle.std.proofs.Common.{◌-◌}
use Rattle.tw_lex.specs.declared.symbol.Symbol.TheVariants as symbols
use Rattle.tw_lex.specs.Left.{left_of}
use Rattle.tw_parse.specs.reading.Steps.{leads, all_at}
use Rattle.tw_parse.specs.reading.Terms.{step_at}
use Rattle.tw_parse.proofs.code.Many.{Reads}
use Rattle.tw_parse.proofs.paths.steps.Given as goal

abbrev pub invariant-loop : goal.invariant-loop
invariant-loop l = Reads (leads symbols.Dot) step_at l.steps.items (l.count - l.counter) (left_of l.cursor) (all_at (leads symbols.Dot) step_at (left_of l.initial.cursor))
