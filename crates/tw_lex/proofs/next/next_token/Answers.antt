use Rattle.std.proofs.Common.{arith}
use Rattle.tw_lex.proofs.Growing.{join, token, token-shorter}
use Rattle.tw_lex.proofs.next.next_token.Goals as goal

pub returns-in-Some-scanned : goal.returns-in-Some-scanned
returns-in-Some-scanned c =
    let found = c.in-Some-scanned.ensures.some in
    let taken = c.before-in-Some-scanned in
    let t = token c.after_spaces-start.result.text.now taken.result.now _ _ _ c.after_spaces-start.result.at found taken.ensures.spelled taken.utf8 in
    let shorter = token-shorter c.after_spaces-start.result.text.now _ _ _ found in
    (rw (c.past.ensures.text, c.past.ensures.place) (join c.after_spaces-start.ensures.spaces t.0), t.1, rw c.past.ensures.text (omega (arith, shorter, c.after_spaces-start.ensures.shorter)))
