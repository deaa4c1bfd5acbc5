use Rattle.tw_lex.proofs.Growing.{spaces}
use Rattle.tw_lex.proofs.space.after_gap.Goals as goal

pub returns-clause-spaces : goal.returns-clause-spaces
returns-clause-spaces c = rw (c.past.ensures.text, c.past.ensures.place) (spaces c.args.suffix.text.now _ _ c.args.suffix.at c.after_run-count.ensures)
