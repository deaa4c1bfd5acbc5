use Rattle.std.proofs.Common.{◌∙◌, sym, rules}
use Rattle.tw_lex.proofs.Runs.{runs_more}
use Rattle.tw_lex.proofs.run.after_more.Goals as goal

pub loop-c-preserved : goal.loop-c-preserved
loop-c-preserved c = record { text = search rules; runs = runs_more _ c.args.text.now _ _ _ _ c.loop-c.invariant.runs c.in-Some.ensures.some (sym c.goes_on.ensures ∙ c.if-not-goes_on.false) }
