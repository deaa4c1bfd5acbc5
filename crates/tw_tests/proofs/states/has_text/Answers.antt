use Rattle.tw_resolve.specs.Resolved.{resolved_setting}
use Rattle.tw_state.specs.declared.state.Side.TheVariants as side
use Rattle.tw_state.specs.FromCode.{listed_of}
use Rattle.tw_state.proofs.Printable.{entry_printable}
use Rattle.tw_tests.proofs.states.has_text.Goals as goal

pub print_state-printed-requires-clause-printable : goal.print_state-printed-requires-clause-printable
print_state-printed-requires-clause-printable c =
    entry_printable (resolved_setting c.in_ok-checked.checked.resolved) c.in_ok-entry.entry.fun side.Start (listed_of c.args.state.now) (c.typed.ensures.0 c.if-not-typed.false)
