use Rattle.std.proofs.Common.{sym, refl}
use Rattle.tw_text.proofs.Prefixes.{append-after}
use Rattle.tw_gatetext.specs.Reading.{limit_seen}
use Rattle.tw_gatetext.proofs.Limits.{no_word, no_number, within_limit}
use Rattle.tw_gatetext.proofs.line_fault.refused_line.Goals as goal

pub returns-in_default : goal.returns-in_default
returns-in_default c = (refl, no_word (limit_seen c.args.limit.now) c.args.bytes.now c.in_default.ensures)

pub returns-in_default-number_shown : goal.returns-in_default-number_shown
returns-in_default-number_shown c = (refl, no_number (limit_seen c.args.limit.now) c.args.bytes.now _ c.in-Some.ensures c.in_default-number_shown.ensures.none)

pub returns-then-found-limit : goal.returns-then-found-limit
returns-then-found-limit c = (refl, within_limit (limit_seen c.args.limit.now) c.args.bytes.now _ _ c.in-Some.ensures c.in-Some-number_shown.ensures.some (rw c.limit.ensures at c.if-found-limit.true))

pub returns : goal.returns
returns c =
    record {
      behind = c.in-Some.behind.now;
      begins = append-after c.args.limit.now.word.now c.args.bytes.now c.in-Some.behind.now (sym c.in-Some.ensures);
      found = c.in-Some-number_shown.found;
      shows = c.in-Some-number_shown.ensures.some;
      above = rw c.limit.ensures at c.if-found-limit.false;
      refused = c.passed.ensures;
    }
