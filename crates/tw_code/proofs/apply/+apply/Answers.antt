use Rattle.std.proofs.Common.{rules, subst, arith}
use Rattle.tw_code.specs.declared.code.Code.{the_lemmas}
use Rattle.tw_code.specs.Wires.{UsesWiresBelow}
use Rattle.tw_code.proofs.Parts.{seq_is}
use Rattle.tw_code.proofs.Wires.{below_at}
use Rattle.tw_code.proofs.apply.+apply.Goals as goal

pub apply_parts-apply_tree-requires : goal.apply_parts-apply_tree-requires
apply_parts-apply_tree-requires t c = (
  search (rules, the_lemmas),
  below_at _ _ _ _ _ c.loop-left.invariant.len c.index-parts-left.is (omega arith) c.requires,
)

pub apply_parts-apply_tree-requires-in-loop-part :
    goal.apply_parts-apply_tree-requires-in-loop-part
apply_parts-apply_tree-requires-in-loop-part t c = (
  search (rules, the_lemmas),
  below_at _ _ _ _ _ c.loop-part.invariant.len c.part-item.is (omega arith) c.requires,
)

pub apply_tree-apply_parts-requires : goal.apply_tree-apply_parts-requires
apply_tree-apply_parts-requires t c = (search (rules, the_lemmas), subst (UsesWiresBelow _) (seq_is _ _ c.in-Seq.is) c.requires)
