use Rattle.std.proofs.Common.{Result, drop, map}
use Rattle.tw_io.specs.declared.device.WriteFault.{WriteFault}
use Rattle.tw_resolve.specs.Resolved.{resolved_setting}
use Rattle.tower.specs.Replies.{WroteFollowing, reply_seen}
use Rattle.tower.proofs.replies.write_following.Given as goal

abbrev pub invariant-loop-reply : goal.invariant-loop-reply
invariant-loop-reply g l =
    let k = g.K.Sink in
    let setting = resolved_setting l.fn.checked.resolved in
    (c : _) (r : Result (Unit {0}) WriteFault) → WroteFollowing k.taken k.faults l.output c r setting l.fn.entry.fun l.fn.back (map reply_seen (drop l.reply-index l.replies))
    → WroteFollowing k.taken k.faults l.fn.output c r setting l.fn.entry.fun l.fn.back (map reply_seen l.replies)
