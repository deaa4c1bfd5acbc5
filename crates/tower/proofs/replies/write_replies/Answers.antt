use Rattle.std.proofs.Common.{◌∷◌, ◌≡◌, List}
use Rattle.std.proofs.lemmas.Result.{err_from_is_err_and}
use Rattle.tw_resolve.specs.Resolved.{resolved_setting}
use Rattle.tower.proofs.RepliesSoFar.{first_broke, first_then}
use Rattle.tower.proofs.replies.write_replies.Goals as goal

pub returns-in_err-write_reply : goal.returns-in_err-write_reply
returns-in_err-write_reply g c =
    let p = err_from_is_err_and c.from_residual.result c.from_residual.ensures.1 in
    rw (p.1, p.2) (first_broke g.K.Sink.taken g.K.Sink.faults (resolved_setting c.args.checked.now.resolved) c.args.entry.fun c.args.back _ _ _ c.args.replies.now c.in-Some.first.now c.in-Some.following.now c.in-Some.ensures.cases.0 c.in_err-write_reply.ensures)

pub returns : goal.returns
returns g c =
    first_then g.K.Sink.taken g.K.Sink.faults (resolved_setting c.args.checked.now.resolved) c.args.entry.fun c.args.back _ _ _ _ c.args.replies.now c.in-Some.first.now c.in-Some.following.now c.in-Some.ensures.cases.0 c.in_ok-write_reply.ensures c.write_following.ensures
