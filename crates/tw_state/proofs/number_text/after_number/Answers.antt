use Rattle.std.proofs.Common.{rules, ◌∙◌, ◌<◌, ◌^◌, sym, arith}
use Rattle.tw_state.proofs.ReadPrefixes.{delimits-append}
use Rattle.tw_state.proofs.ReadValues.{one_number}
use Rattle.tw_state.proofs.number_text.after_number.Goals as goal

pub returns-then-read-from-clause-none : goal.returns-then-read-from-clause-none
returns-then-read-from-clause-none c delimits rest e =
    let small : c.args.number < 2 ^ 64 = grind (arith, c.ranges.number.fits) in
    let read : c.in_ok-read.read < 2 ^ 64 = search rules in
    let both = one_number c.in_ok-read.read c.args.number _ _ read small (delimits-append c.args.tail.now c.in_ok-read.rest.now delimits) (delimits-append c.args.tail.now rest delimits) (sym c.in_ok-read.ensures.some.1 ∙ e) in
    let same = both.0 in
    let differ = c.if-read-from.true in
    search rules
