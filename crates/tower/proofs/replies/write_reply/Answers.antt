use Rattle.std.proofs.Common.{sym, subst}
use Rattle.tw_resolve.specs.Resolved.{resolved_setting}
use Rattle.tw_state.specs.declared.state.Side.{Side}
use Rattle.tw_state.specs.FromCode.{listed_of}
use Rattle.tw_state.specs.StateText.{IsPrintableOn}
use Rattle.tower.specs.declared.replies.Reply.{Reply}
use Rattle.tower.specs.Replies.{HasText, reply_seen}
use Rattle.tower.proofs.replies.write_reply.Goals as goal

pub print_state-requires-clause-printable : goal.print_state-requires-clause-printable
print_state-requires-clause-printable g c =
    let setting = resolved_setting c.args.checked.now.resolved in
    subst (λ (s : Side). IsPrintableOn setting c.args.entry.fun s (listed_of c.in-Ends.state)) (sym c.last_side.ensures)
    (subst (λ (r : Reply). HasText setting c.args.entry.fun c.args.back (reply_seen r)) c.in-Ends.is c.requires.printable)
