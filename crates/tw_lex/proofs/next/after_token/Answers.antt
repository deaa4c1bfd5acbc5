use Rattle.std.proofs.Common.{rules, arith}
use Rattle.tw_lex.proofs.Growing.{join, some_token, token-shorter}
use Rattle.tw_lex.proofs.next.after_token.Goals as goal

pub returns-in-Some-after_scanned : goal.returns-in-Some-after_scanned
returns-in-Some-after_scanned c =
    let found = c.in-Some-after_scanned.ensures.some in
    let t = some_token c.after_spaces-start.result.text.now _ _ found.0 c.after_spaces-start.result.at found.1 (search rules) (search rules) in
    let shorter = token-shorter c.after_spaces-start.result.text.now _ _ found.0 found.1 in
    (t.0, rw (c.past.ensures.text, c.past.ensures.place) (join c.after_spaces-start.ensures.spaces t.1), rw c.past.ensures.text (omega (arith, shorter, c.after_spaces-start.ensures.shorter)))
