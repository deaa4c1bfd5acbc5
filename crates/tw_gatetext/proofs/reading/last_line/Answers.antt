use Rattle.std.proofs.Common.{codes}
use Rattle.std.proofs.lemmas.Option.{IfSome_then}
use Rattle.tw_gatetext.proofs.HeaderLines.{after_some, after_none, IfNone_then}
use Rattle.tw_gatetext.proofs.BodyLines.{last_steps, no_last}
use Rattle.tw_gatetext.proofs.reading.last_line.Goals as goal

pub returns-clause-some : goal.returns-clause-some
returns-clause-some c =
    IfSome_then c.after.result (after_some (codes "end\n") c.args.bytes.now _ c.after.ensures) (λ rest is head gates all. last_steps head gates c.args.bytes.now rest.now all is)

pub returns-clause-line : goal.returns-clause-line
returns-clause-line c = IfSome_then c.after.result (after_some (codes "end\n") c.args.bytes.now _ c.after.ensures) (λ rest is. is)

pub returns-clause-none : goal.returns-clause-none
returns-clause-none c =
    IfNone_then c.after.result (after_none (codes "end\n") c.args.bytes.now _ c.after.ensures) (λ none head gates all. no_last head gates c.args.bytes.now all none)
