use Rattle.tw_text.proofs.Suffixes.{begins}
use Rattle.tw_text.proofs.cut.first_char.Goals as goal

pub returns-clause-some : goal.returns-clause-some
returns-clause-some c = rw c.as_str.ensures (begins c.args.text.now _ _ c.utf8.text (rw (c.chars-letters.ensures.rest) at c.in_ok-first.ensures.steps.0))
