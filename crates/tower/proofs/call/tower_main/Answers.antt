use Rattle.std.proofs.Common.{⊎_elim}
use Rattle.tower.specs.Requests.{Format, Check, Compile, Run, Encode, Simulate, Invert}
use Rattle.tower.proofs.OneAnswer.{one_answer}
use Rattle.tower.proofs.WhenEnded.{only_where, comes, usage_only, complete}
use Rattle.tower.proofs.Promises.{promised}
use Rattle.tower.proofs.PrintedRuns.{stuck_run}
use Rattle.tower.proofs.call.tower_main.Goals as goal

pub returns-clause-one_answer : goal.returns-clause-one_answer
returns-clause-one_answer g c = one_answer c.args.words.now

pub returns-clause-complete : goal.returns-clause-complete
returns-clause-complete g c =
    λ no_read no_write. complete _ _ _ c.args.words.now c.run.result (λ e. no_read (c.run.ensures.source.rose e)) (λ e. no_write (c.run.ensures.sink.rose e)) c.run.ensures.answered

pub returns-clause-headline : goal.returns-clause-headline
returns-clause-headline g c = λ request. promised (Compile request) _ _ _ c.args.words.now c.run.result c.run.ensures.answered

pub returns-clause-formatted : goal.returns-clause-formatted
returns-clause-formatted g c = promised Format _ _ _ c.args.words.now c.run.result c.run.ensures.answered

pub returns-clause-checked : goal.returns-clause-checked
returns-clause-checked g c = λ widths. promised (Check widths) _ _ _ c.args.words.now c.run.result c.run.ensures.answered

pub returns-clause-ran : goal.returns-clause-ran
returns-clause-ran g c =
    λ request asks ended.
    ⊎_elim (promised (Run request) _ _ _ c.args.words.now c.run.result c.run.ensures.answered asks) (stuck_run request _ _ _ c.args.words.now c.run.result c.run.ensures.answered asks) ended

pub returns-clause-encoded : goal.returns-clause-encoded
returns-clause-encoded g c = λ request. promised (Encode request) _ _ _ c.args.words.now c.run.result c.run.ensures.answered

pub returns-clause-inverted : goal.returns-clause-inverted
returns-clause-inverted g c = promised Invert _ _ _ c.args.words.now c.run.result c.run.ensures.answered

pub returns-clause-simulated : goal.returns-clause-simulated
returns-clause-simulated g c = promised Simulate _ _ _ c.args.words.now c.run.result c.run.ensures.answered

pub returns-clause-only_where : goal.returns-clause-only_where
returns-clause-only_where g c = only_where _ _ _ c.args.words.now c.run.result c.run.ensures.answered

pub returns-clause-comes : goal.returns-clause-comes
returns-clause-comes g c = comes _ _ _ c.args.words.now c.run.result c.run.ensures.answered

pub returns-clause-usage_only : goal.returns-clause-usage_only
returns-clause-usage_only g c = usage_only _ _ _ c.args.words.now c.run.result c.run.ensures.answered
