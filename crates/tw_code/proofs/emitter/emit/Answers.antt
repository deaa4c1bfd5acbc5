use Rattle.tw_code.specs.Trees.{code_tree}
use Rattle.tw_code.proofs.Counting.{counts-emitted}
use Rattle.tw_code.proofs.Emission.{act-emitted, proper-emitted}
use Rattle.tw_code.proofs.emitter.emit.Goals as goal

pub returns-clause-acts : goal.returns-clause-acts
returns-clause-acts g c = act-emitted (code_tree c.args.code.now) c.args.back c.args.controls.now c.requires.proper c.requires.unused

pub returns-clause-proper : goal.returns-clause-proper
returns-clause-proper g c = proper-emitted (code_tree c.args.code.now) c.args.back c.args.controls.now c.requires.proper c.requires.ascending c.requires.unused

pub returns-clause-counted : goal.returns-clause-counted
returns-clause-counted g c = counts-emitted (code_tree c.args.code.now) c.args.back c.args.controls.now
