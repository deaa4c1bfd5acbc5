use denote.Bor.{Bor}
use Rattle.std.proofs.Common.{sym, subst₂}
use Rattle.tw_text.specs.declared.limits.TheConstants.{DEPTH_LIMIT}
use Rattle.tw_check.specs.declared.checked.Checked.{Checked}
use Rattle.tw_check.specs.declared.entry.Entry.{Entry}
use Rattle.tw_resolve.specs.Resolved.{resolved_setting}
use Rattle.tw_state.specs.Depth.{EntryWithin}
use Rattle.tw_state.specs.FromCode.{listed_of}
use Rattle.tw_interp.specs.Runs.{IsGivenTo}
use Rattle.tower.specs.Replies.{HasText, IsReplyOf, reply_seen}
use Rattle.tower.proofs.RepliesSoFar.{none_run, next_given, one_more, all_replied, all_texts}
use Rattle.tower.proofs.replies.replies_to.Goals as goal

pub reply_to-requires-clause-given : goal.reply_to-requires-clause-given
reply_to-requires-clause-given c =
    subst₂ (λ (checked : Bor Checked) (entry : Entry). IsGivenTo (resolved_setting checked.now.resolved) entry.fun c.args.back (listed_of c.in-Some.state)) (sym c.in_ok-runner.ensures.0) (sym c.in_ok-runner.ensures.1)
    (next_given (resolved_setting c.args.checked.now.resolved) c.args.entry.fun c.args.entry.bound c.args.back c.args.states.items c.loop-state.states.items c.pop.new.self.items c.loop-state.replies.items c.in-Some.state
    c.loop-state.invariant c.in-Some.ensures.items c.requires.given)

pub reply_to-requires-clause-depth : goal.reply_to-requires-clause-depth
reply_to-requires-clause-depth c =
    subst₂ (λ (checked : Bor Checked) (entry : Entry). EntryWithin (resolved_setting checked.now.resolved) DEPTH_LIMIT entry.fun entry.bound) (sym c.in_ok-runner.ensures.0) (sym c.in_ok-runner.ensures.1) c.requires.depth

pub loop-state-preserved : goal.loop-state-preserved
loop-state-preserved c =
    let reply = reply_seen c.in_ok-reply_to.field-0 in
    one_more (resolved_setting c.args.checked.now.resolved) c.args.entry.fun c.args.entry.bound c.args.back c.args.states.items c.loop-state.states.items c.pop.new.self.items c.loop-state.replies.items c.push.new.self.items c.in-Some.state
    c.in_ok-reply_to.field-0 c.loop-state.invariant c.in-Some.ensures.items c.in_ok-push.ensures.items
    (subst₂ (λ (checked : Bor Checked) (entry : Entry). IsReplyOf (resolved_setting checked.now.resolved) entry.fun entry.bound c.args.back (listed_of c.in-Some.state) reply) c.in_ok-runner.ensures.0 c.in_ok-runner.ensures.1
    c.in_ok-reply_to.ensures.reply)
    (subst₂ (λ (checked : Bor Checked) (entry : Entry). HasText (resolved_setting checked.now.resolved) entry.fun c.args.back reply) c.in_ok-runner.ensures.0 c.in_ok-runner.ensures.1 c.in_ok-reply_to.ensures.printable)
