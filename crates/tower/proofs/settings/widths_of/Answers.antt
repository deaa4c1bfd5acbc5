use Rattle.std.proofs.Common.{arith}
use Rattle.tower.proofs.Wanted.{if_missing, none_is_none, out_of_range}
use Rattle.tower.proofs.settings.widths_of.Goals as goal

pub returns-clause-none : goal.returns-clause-none
returns-clause-none c =
    if_missing c.new.result (λ missing. out_of_range c.args.word.now c.args.addr.now c.in_ok-word.word c.in_ok-addr.addr (omega (arith, c.in_ok-word.ensures.some.1)) (omega (arith, c.in_ok-addr.ensures.some.1))
    c.in_ok-word.ensures.some.0 c.in_ok-addr.ensures.some.0 (λ range. none_is_none c.new.result (c.new.ensures.exact.1 range) missing))
