use Rattle.std.proofs.Common.{◌≡◌, ◌∙◌, ◌⊎◌, sym, subst, ap, map, if◌then◌else◌}
use Rattle.std.specs.List.{list_any}
use Rattle.tower.specs.Run.{is_stuck}
use Rattle.tower.specs.Replies.{reply_seen}
use Rattle.tw_resolve.specs.Resolved.{resolved_setting}
use Rattle.tw_state.specs.declared.state.Side.{Side}
use Rattle.tw_state.specs.FromCode.{listed_of}
use Rattle.tw_state.specs.StateRefusals.{AreStatesIn, IsRefusedIn}
use Rattle.tw_state.specs.declared.state_fault.StateFault.TheVariants as state_fault
use Rattle.tower.specs.declared.status.Status.TheVariants as status
use Rattle.tower.proofs.Running.{did_states, are_given, did_reply, did_fail}
use Rattle.tower.proofs.run.answer_states.Goals as goal

pub returns-in_err-states : goal.returns-in_err-states
returns-in_err-states g c = λ fun measured there none.
    let setting = resolved_setting c.args.checked.now.resolved in
    let refused = subst (λ (s : Side). (c.in_err-states.field-0.0 ≡ state_fault.Memory) ⊎ IsRefusedIn setting c.args.entry.fun s c.args.lines.now c.in_err-states.field-0.0) c.first_side.ensures c.in_err-states.ensures.refused in
    did_states g.K.Sink.taken g.K.Sink.faults setting c.args.entry.fun fun there c.args.entry.bound c.args.back measured c.args.lines.now none c.args.output.now c.in_err-states.field-0.0 c.from_residual.result c.from_residual.ensures.1 refused

pub replies_to-requires-clause-given : goal.replies_to-requires-clause-given
replies_to-requires-clause-given g c =
    let setting = resolved_setting c.args.checked.now.resolved in
    let are = subst (λ (s : Side). AreStatesIn setting c.args.entry.fun s c.args.lines.now (map listed_of c.in_ok-states.states.items)) c.first_side.ensures c.in_ok-states.ensures.read in
    are_given setting c.args.entry.fun c.args.back c.args.lines.now (map listed_of c.in_ok-states.states.items) are

pub returns-in_err-write_replies : goal.returns-in_err-write_replies
returns-in_err-write_replies g c = λ fun measured there none.
    let setting = resolved_setting c.args.checked.now.resolved in
    let are = subst (λ (s : Side). AreStatesIn setting c.args.entry.fun s c.args.lines.now (map listed_of c.in_ok-states.states.items)) c.first_side.ensures c.in_ok-states.ensures.read in
    did_fail g.K.Sink.taken g.K.Sink.faults setting c.args.entry.fun fun there c.args.entry.bound c.args.back measured c.args.lines.now none (map listed_of c.in_ok-states.states.items) c.in_ok-replies.replies.items c.deref.result.now
    c.deref.ensures.value are c.in_ok-replies.ensures.replies _ _ c.in_err-write_replies.field-0.0 c.from_residual-in_err-write_replies.result c.from_residual-in_err-write_replies.ensures.1 c.in_err-write_replies.ensures

pub returns-then-is_one_stuck : goal.returns-then-is_one_stuck
returns-then-is_one_stuck g c = λ fun measured there none.
    let setting = resolved_setting c.args.checked.now.resolved in
    let are = subst (λ (s : Side). AreStatesIn setting c.args.entry.fun s c.args.lines.now (map listed_of c.in_ok-states.states.items)) c.first_side.ensures c.in_ok-states.ensures.read in
    did_reply g.K.Sink.taken g.K.Sink.faults setting c.args.entry.fun fun there c.args.entry.bound c.args.back measured c.args.lines.now none (map listed_of c.in_ok-states.states.items) c.in_ok-replies.replies.items c.deref.result.now
    c.deref.ensures.value are c.in_ok-replies.ensures.replies _ _ status.Stuck c.is_one_stuck.result (c.is_one_stuck.ensures ∙ ap (list_any (λ reply. is_stuck (reply_seen reply))) (c.deref-2.ensures.value ∙ sym c.deref.ensures.value)) (ap (λ b. if b then status.Stuck else status.Ok) c.if-is_one_stuck.true) c.in_ok-write_replies.ensures

pub returns : goal.returns
returns g c = λ fun measured there none.
    let setting = resolved_setting c.args.checked.now.resolved in
    let are = subst (λ (s : Side). AreStatesIn setting c.args.entry.fun s c.args.lines.now (map listed_of c.in_ok-states.states.items)) c.first_side.ensures c.in_ok-states.ensures.read in
    did_reply g.K.Sink.taken g.K.Sink.faults setting c.args.entry.fun fun there c.args.entry.bound c.args.back measured c.args.lines.now none (map listed_of c.in_ok-states.states.items) c.in_ok-replies.replies.items c.deref.result.now
    c.deref.ensures.value are c.in_ok-replies.ensures.replies _ _ status.Ok c.is_one_stuck.result (c.is_one_stuck.ensures ∙ ap (list_any (λ reply. is_stuck (reply_seen reply))) (c.deref-2.ensures.value ∙ sym c.deref.ensures.value)) (ap (λ b. if b then status.Stuck else status.Ok) c.if-is_one_stuck.false) c.in_ok-write_replies.ensures
