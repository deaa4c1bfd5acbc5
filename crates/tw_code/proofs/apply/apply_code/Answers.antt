use Rattle.tw_code.specs.Trees.{code_tree}
use Rattle.tw_code.proofs.Meaning.{mean-undone}
use Rattle.tw_code.proofs.apply.apply_code.Goals as goal

pub returns-clause-undone : goal.returns-clause-undone
returns-clause-undone c = rw (c.apply_tree.ensures.bits) (mean-undone (code_tree c.args.code.now) c.args.back c.args.bits.now c.requires.proper)
