use Rattle.std.proofs.Common.{◌-◌}
use Rattle.tw_print.specs.Progress.{Goes}
use Rattle.tw_print.specs.Programs.{indent}
use Rattle.tw_print.specs.declared.progress.Progress.{Progress}
use Rattle.tw_print.proofs.statements.print_indent.Given as goal

abbrev pub invariant-loop : goal.invariant-loop
invariant-loop g l =
    (c : g.row.K.Denot) (r : Progress) → Goes g.K.Sink.taken g.K.Sink.faults l.sink c l.progress r (indent (l.depth - l.counter))
    → Goes g.K.Sink.taken g.K.Sink.faults l.fn.sink c l.fn.progress r (indent l.depth)
