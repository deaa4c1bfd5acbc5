use denote.Bor.{Bor}
use Rattle.std.proofs.Common.{sym, subst₂, IfOk, IfErr}
use Rattle.tw_text.specs.declared.limits.TheConstants.{DEPTH_LIMIT}
use Rattle.tw_check.specs.declared.checked.Checked.{Checked}
use Rattle.tw_check.specs.declared.entry.Entry.{Entry}
use Rattle.tw_resolve.specs.Resolved.{resolved_setting}
use Rattle.tw_state.specs.Depth.{EntryWithin}
use Rattle.tw_state.specs.FromCode.{listed_of}
use Rattle.tw_interp.specs.Runs.{IsAnswerOf, IsFaultOf}
use Rattle.tw_interp.proofs.entry.run_entry.Goals as goal

pub run-requires-clause-depth : goal.run-requires-clause-depth
run-requires-clause-depth c =
    subst₂ (λ (checked : Bor Checked) (entry : Entry). EntryWithin (resolved_setting checked.now.resolved) DEPTH_LIMIT entry.fun entry.bound) (sym c.in_ok-runner.ensures.0) (sym c.in_ok-runner.ensures.1) c.requires.depth

pub returns-clause-answer : goal.returns-clause-answer
returns-clause-answer c =
    subst₂ (λ (checked : Bor Checked) (entry : Entry). IfOk c.run.result (λ answer. ∥ IsAnswerOf (resolved_setting checked.now.resolved) entry.fun entry.bound c.args.back (listed_of c.args.state) (listed_of answer) ∥₁))
    c.in_ok-runner.ensures.0 c.in_ok-runner.ensures.1 c.run.ensures.answer

pub returns-clause-fault : goal.returns-clause-fault
returns-clause-fault c =
    subst₂ (λ (checked : Bor Checked) (entry : Entry). IfErr c.run.result (λ e. ∥ IsFaultOf (resolved_setting checked.now.resolved) entry.fun entry.bound c.args.back (listed_of c.args.state) e ∥₁))
    c.in_ok-runner.ensures.0 c.in_ok-runner.ensures.1 c.run.ensures.fault
