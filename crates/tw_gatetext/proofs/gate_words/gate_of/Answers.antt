use Rattle.std.proofs.Common.{rules}
use Rattle.tw_gatetext.proofs.LineGates.{no_x, no_cx, no_ccx, no_mcx}
use Rattle.tw_gatetext.proofs.gate_words.gate_of.Goals as goal

pub returns-in-x-clause-none : goal.returns-in-x-clause-none
returns-in-x-clause-none c = search (rules, no_x)

pub returns-in-cx-clause-none : goal.returns-in-cx-clause-none
returns-in-cx-clause-none c = search (rules, no_cx)

pub returns-in-ccx-clause-none : goal.returns-in-ccx-clause-none
returns-in-ccx-clause-none c = search (rules, no_ccx)

pub returns-in-mcx-clause-none : goal.returns-in-mcx-clause-none
returns-in-mcx-clause-none c = search (rules, no_mcx)
