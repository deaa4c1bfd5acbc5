use Rattle.std.proofs.Common.{◌∙◌, ap, sym, arith, Some}
use Rattle.std.proofs.Math.ListN.{drop_of_length-le}
use Rattle.std.proofs.lemmas.Option.{slice_get-get_or}
use Rattle.std.proofs.lemmas.Result.{err_from_is_err_and}
use Rattle.tw_resolve.specs.Resolved.{resolved_setting}
use Rattle.tower.proofs.RepliesSoFar.{separator_broke, reply_broke, reply_then, none_follow, text_at}
use Rattle.tower.proofs.replies.write_following.Goals as goal

pub write_reply-requires-clause-printable : goal.write_reply-requires-clause-printable
write_reply-requires-clause-printable g c =
    let replies = c.args.replies.now in
    let found = slice_get-get_or replies c.loop-reply.reply-index c.reply-item.result c.loop-reply-test.true ∙ ap Some (sym c.reply-item.is) in
    text_at g.K.Sink.taken g.K.Sink.faults (resolved_setting c.args.checked.now.resolved) c.args.entry.fun c.args.back replies c.loop-reply.reply-index c.reply-item.result found c.requires.printable

pub returns-in_err-write_all : goal.returns-in_err-write_all
returns-in_err-write_all g c =
    let p = err_from_is_err_and c.from_residual.result c.from_residual.ensures.1 in
    let replies = c.args.replies.now in
    let found = slice_get-get_or replies c.loop-reply.reply-index c.reply-item.result c.loop-reply-test.true ∙ ap Some (sym c.reply-item.is) in
    rw (p.1, p.2)
    (c.loop-reply.invariant _ _
    (separator_broke g.K.Sink.taken g.K.Sink.faults (resolved_setting c.args.checked.now.resolved) c.args.entry.fun c.args.back _ _ _ replies c.loop-reply.reply-index c.reply-item.result found c.in_err-write_all.ensures.wrote))

pub returns-in_err-write_reply : goal.returns-in_err-write_reply
returns-in_err-write_reply g c =
    let p = err_from_is_err_and c.from_residual-in_err-write_reply.result c.from_residual-in_err-write_reply.ensures.1 in
    let replies = c.args.replies.now in
    let found = slice_get-get_or replies c.loop-reply.reply-index c.reply-item.result c.loop-reply-test.true ∙ ap Some (sym c.reply-item.is) in
    rw (p.1, p.2)
    (c.loop-reply.invariant _ _
    (reply_broke g.K.Sink.taken g.K.Sink.faults (resolved_setting c.args.checked.now.resolved) c.args.entry.fun c.args.back _ _ _ _ replies c.loop-reply.reply-index c.reply-item.result found c.in_ok-write_all.ensures.wrote c.in_err-write_reply.ensures))

pub loop-reply-preserved : goal.loop-reply-preserved
loop-reply-preserved g c =
    let replies = c.args.replies.now in
    let found = slice_get-get_or replies c.loop-reply.reply-index c.reply-item.result c.loop-reply-test.true ∙ ap Some (sym c.reply-item.is) in
    λ s r later. c.loop-reply.invariant s r
    (reply_then g.K.Sink.taken g.K.Sink.faults (resolved_setting c.args.checked.now.resolved) c.args.entry.fun c.args.back _ _ _ _ _ replies c.loop-reply.reply-index c.reply-item.result found c.in_ok-write_all.ensures.wrote c.in_ok-write_reply.ensures later)

pub returns : goal.returns
returns g c =
    let none = drop_of_length-le c.args.replies.now (omega (arith, c.loop-reply-test.false)) in
    c.loop-reply.invariant _ _ (none_follow g.K.Sink.taken g.K.Sink.faults (resolved_setting c.args.checked.now.resolved) c.args.entry.fun c.args.back _ _ none)
