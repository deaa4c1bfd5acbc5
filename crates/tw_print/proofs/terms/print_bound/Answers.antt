use Rattle.tw_print.proofs.Going.{goes_then}
use Rattle.tw_print.proofs.terms.print_bound.Goals as goal

pub returns-in-Less : goal.returns-in-Less
returns-in-Less g c = rw (c.in-Less.is, ← c.from-in-Less.ensures) (goes_then c.text-progress.ensures (goes_then c.text-progress-in-Less.ensures c.number-in-Less.ensures))
