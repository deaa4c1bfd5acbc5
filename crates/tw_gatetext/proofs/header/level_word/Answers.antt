use Rattle.std.proofs.Common.{sym, codes}
use Rattle.tw_text.proofs.Prefixes.{append-after}
use Rattle.tw_gatetext.proofs.HeaderLines.{no_level_word}
use Rattle.tw_gatetext.proofs.header.level_word.Goals as goal

pub returns-in-Some-clause-some : goal.returns-in-Some-clause-some
returns-in-Some-clause-some c = append-after (codes "mcx\n") c.args.bytes.now _ (sym c.in-Some.ensures)

pub returns-in-Some-after-clause-some : goal.returns-in-Some-after-clause-some
returns-in-Some-after-clause-some c = append-after (codes "tof\n") c.args.bytes.now _ (sym c.in-Some-after.ensures)

pub returns-in_err-rest-clause-none : goal.returns-in_err-rest-clause-none
returns-in_err-rest-clause-none c =
    rw c.from_residual.ensures (no_level_word c.args.bytes.now c.in_default.ensures c.in_default-after.ensures c.in_err-rest.ensures)

pub returns-clause-some : goal.returns-clause-some
returns-clause-some c = append-after (codes "t\n") c.args.bytes.now _ (sym c.in_ok-rest.ensures)
