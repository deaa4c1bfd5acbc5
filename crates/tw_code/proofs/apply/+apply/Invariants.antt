use Rattle.std.proofs.Common.{◌≡◌, ◌≤◌, true, false, length, map, take, drop}
use Rattle.tw_code.specs.Trees.{code_tree, sequence}
use Rattle.tw_code.specs.Meaning.{mean}
use Rattle.tw_code.proofs.apply.+apply.Given as goal

abbrev pub invariant-apply_parts-loop-left : goal.invariant-apply_parts-loop-left
invariant-apply_parts-loop-left l = record {
  in_range : l.left ≤ length l.parts;
  rest : mean (sequence (map code_tree (take l.left l.parts))) true l.bits ≡ mean (sequence (map code_tree l.parts)) true l.initial.bits;
  len : length l.bits ≡ length l.initial.bits;
}

abbrev pub decreases-apply_parts-loop-left : goal.decreases-apply_parts-loop-left
decreases-apply_parts-loop-left l = l.left

abbrev pub invariant-apply_parts-loop-part : goal.invariant-apply_parts-loop-part
invariant-apply_parts-loop-part l = record {
  rest : mean (sequence (map code_tree (drop l.part-index l.parts))) false l.bits ≡ mean (sequence (map code_tree l.parts)) false l.initial.bits;
  len : length l.bits ≡ length l.initial.bits;
}
