use Rattle.std.proofs.Common.{subst}
use Rattle.std.proofs.Math.Logic.{∥∥₁_elim, ∥∥₁_prop}
use Rattle.tw_syntax.specs.Programs.{FunTree}
use Rattle.tw_resolve.specs.Resolved.{resolved_setting}
use Rattle.tw_state.specs.FromCode.{listed_of}
use Rattle.tw_state.proofs.Basics.{same_some}
use Rattle.tw_interp.specs.Following.{reason_of}
use Rattle.tw_interp.specs.declared.fault.RunFault.{RunFault}
use Rattle.tw_interp.specs.Runs.{IsAnswer, IsFaultOf, IsStuck}
use Rattle.tower.proofs.Printable.{answer_of-printable}
use Rattle.tower.proofs.replies.reply_to.Goals as goal

pub returns-in-Ok-clause-reply : goal.returns-in-Ok-clause-reply
returns-in-Ok-clause-reply c = λ fun there.
    ∥∥₁_elim c.in-Ok.ensures.answer ∥∥₁_prop
    (λ a. ∣ subst (λ (f : FunTree). IsAnswer (resolved_setting c.args.runner.now.checked.now.resolved) f c.args.runner.now.entry.bound c.args.back (listed_of c.args.state) (listed_of c.in-Ok.answer)) (same_some a.1 there) a.2 ∣₁)

pub returns-in-Ok-clause-printable : goal.returns-in-Ok-clause-printable
returns-in-Ok-clause-printable c =
    answer_of-printable (resolved_setting c.args.runner.now.checked.now.resolved) c.args.runner.now.entry.fun c.args.runner.now.entry.bound c.args.back (listed_of c.args.state) (listed_of c.in-Ok.answer) c.in-Ok.ensures.answer

pub returns-in-Err-Stuck-clause-reply : goal.returns-in-Err-Stuck-clause-reply
returns-in-Err-Stuck-clause-reply c = λ fun there.
    let setting = resolved_setting c.args.runner.now.checked.now.resolved in
    ∥∥₁_elim (subst (λ (e : RunFault). ∥ IsFaultOf setting c.args.runner.now.entry.fun c.args.runner.now.entry.bound c.args.back (listed_of c.args.state) e ∥₁) c.in-Err-Stuck.field-0-is c.in-Err-Stuck.ensures.fault) ∥∥₁_prop
    (λ a. ∣ subst (λ (f : FunTree). IsStuck setting f c.args.runner.now.entry.bound c.args.back (listed_of c.args.state) (reason_of c.in-Err-Stuck.reason) c.in-Err-Stuck.at) (same_some a.1 there) a.2 ∣₁)
