use Rattle.std.proofs.lemmas.List.{drop_more}
use Rattle.tw_print.proofs.Going.{goes_then}
use Rattle.tw_print.proofs.types.print_steps.Goals as goal

pub loop-step-preserved : goal.loop-step-preserved
loop-step-preserved g c = λ s r rest. c.loop-step.invariant s r (let two = goes_then c.text-progress.ensures (goes_then c.number-progress.ensures rest) in rw (drop_more c.args.steps.now c.loop-step.step-index 0 c.loop-step-test.true) (rw c.from.ensures at two))
