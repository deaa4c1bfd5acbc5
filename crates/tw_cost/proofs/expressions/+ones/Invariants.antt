use Rattle.tw_cost.proofs.expressions.+ones.Given as goal

abbrev pub decreases-ones : goal.decreases-ones
decreases-ones l = l.width
