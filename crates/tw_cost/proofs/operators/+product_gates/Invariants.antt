use Rattle.tw_cost.proofs.operators.+product_gates.Given as goal

abbrev pub decreases-product_gates : goal.decreases-product_gates
decreases-product_gates l = l.bits
