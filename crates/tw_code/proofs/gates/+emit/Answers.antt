use Rattle.std.proofs.Common.{rules, ◌≡◌, ap, ◌-◌, true, false, map, take, arith}
use Rattle.std.proofs.lemmas.List.{drop_all}
use Rattle.std.proofs.lemmas.Result.{err_from_is_err_and}
use Rattle.tw_code.specs.declared.code.Code.{the_lemmas}
use Rattle.tw_code.specs.Trees.{code_tree, sequence}
use Rattle.tw_code.specs.Emission.{emitted}
use Rattle.tw_code.specs.Present.{present_list}
use Rattle.tw_code.proofs.Lists.{all_prefix, all_suffix}
use Rattle.tw_code.proofs.Joining.{completes_next, completes_all, completes_stop, can_later, with_parts, conj_parts}
use Rattle.tw_code.proofs.Parts.{seq_is, emitted_next, emitted_last}
use Rattle.tw_code.proofs.gates.+emit.Goals as goal

pub emit_parts-emit_tree-requires : goal.emit_parts-emit_tree-requires
emit_parts-emit_tree-requires g t c κs within =
    let e = emitted_last c.args.parts.now (c.loop-left.left - 1) c.loop-left.left _ (present_list c.args.present.now) c.index-parts-left.is (omega arith) c.loop-left.invariant.in_range in
    (search (rules, the_lemmas), (within, all_prefix _ _ _ (rw e at c.loop-left.invariant.can)))

pub emit_parts-loop-left-preserved : goal.emit_parts-loop-left-preserved
emit_parts-loop-left-preserved g t c =
    let e = emitted_last c.args.parts.now (c.loop-left.left - 1) c.loop-left.left _ (present_list c.args.present.now) c.index-parts-left.is (omega arith) c.loop-left.invariant.in_range in
    record {
      in_range = omega arith;
      can = can_later g.O.GateOut.took g.O.GateOut.fits g.met.O.GateOut.fits_stays _ _ _ _ _ _ c.emit_tree.auto.buffer c.in_ok-emit_tree.ensures.whole (all_suffix _ _ _ (rw e at c.loop-left.invariant.can));
      rest = completes_next g.met.O.GateOut.took_both g.met.O.GateOut.broke_later _ _ _ _ _ _ _ e c.loop-left.invariant.rest c.in_ok-emit_tree.ensures;
    }

pub emit_parts-returns-in_err-emit_tree : goal.emit_parts-returns-in_err-emit_tree
emit_parts-returns-in_err-emit_tree g t c =
    let e = emitted_last c.args.parts.now (c.loop-left.left - 1) c.loop-left.left _ (present_list c.args.present.now) c.index-parts-left.is (omega arith) c.loop-left.invariant.in_range in
    let p = err_from_is_err_and c.from_residual.result c.from_residual.ensures.1 in
    rw (p.1, c.if-back.true) (completes_stop g.met.O.GateOut.broke_longer _ _ _ _ _ _ _ _ e c.loop-left.invariant.rest c.in_err-emit_tree.ensures)

pub emit_parts-emit_tree-requires-in-loop-part : goal.emit_parts-emit_tree-requires-in-loop-part
emit_parts-emit_tree-requires-in-loop-part g t c κs within =
    let e = emitted_next c.args.parts.now c.loop-part.part-index _ (present_list c.args.present.now) c.part-item.is (omega arith) in
    (search (rules, the_lemmas), (within, all_prefix _ _ _ (rw e at c.loop-part.invariant.can)))

pub emit_parts-loop-part-preserved : goal.emit_parts-loop-part-preserved
emit_parts-loop-part-preserved g t c =
    let e = emitted_next c.args.parts.now c.loop-part.part-index _ (present_list c.args.present.now) c.part-item.is (omega arith) in
    record {
      can = can_later g.O.GateOut.took g.O.GateOut.fits g.met.O.GateOut.fits_stays _ _ _ _ _ _ c.emit_tree-in-loop-part.auto.buffer c.in_ok-emit_tree-2.ensures.whole (all_suffix _ _ _ (rw e at c.loop-part.invariant.can));
      rest = completes_next g.met.O.GateOut.took_both g.met.O.GateOut.broke_later _ _ _ _ _ _ _ e c.loop-part.invariant.rest c.in_ok-emit_tree-2.ensures;
    }

pub emit_parts-returns-in_err-emit_tree-2 : goal.emit_parts-returns-in_err-emit_tree-2
emit_parts-returns-in_err-emit_tree-2 g t c =
    let e = emitted_next c.args.parts.now c.loop-part.part-index _ (present_list c.args.present.now) c.part-item.is (omega arith) in
    let p = err_from_is_err_and c.from_residual-in_err-emit_tree-2.result c.from_residual-in_err-emit_tree-2.ensures.1 in
    rw (p.1, c.if-back.false) (completes_stop g.met.O.GateOut.broke_longer _ _ _ _ _ _ _ _ e c.loop-part.invariant.rest c.in_err-emit_tree-2.ensures)

pub emit_parts-returns-after-loop-left : goal.emit_parts-returns-after-loop-left
emit_parts-returns-after-loop-left g t c =
    let e : c.loop-left.left ≡ 0 = omega (arith, c.loop-left-test.false) in
    rw c.if-back.true (completes_all g.met.O.GateOut.took_none _ _ _ _ (ap (λ n. emitted (sequence (map code_tree (take n c.args.parts.now))) true (present_list c.args.present.now)) e) c.loop-left.invariant.rest)

pub emit_parts-returns-after-loop-part : goal.emit_parts-returns-after-loop-part
emit_parts-returns-after-loop-part g t c =
    let e = drop_all c.loop-part.part-index c.args.parts.now c.loop-part-test.false in
    rw c.if-back.false (completes_all g.met.O.GateOut.took_none _ _ _ _ (ap (λ parts. emitted (sequence (map code_tree parts)) false (present_list c.args.present.now)) e) c.loop-part.invariant.rest)

pub emit_tree-emit_parts-requires : goal.emit_tree-emit_parts-requires
emit_tree-emit_parts-requires g t c κs within = (search (rules, the_lemmas), (within, rw (seq_is _ _ c.in-Seq.is) at c.requires))

pub emit_tree-emit_tree-requires-in-With : goal.emit_tree-emit_tree-requires-in-With
emit_tree-emit_tree-requires-in-With g t c κs within =
    let can = with_parts _ _ _ _ _ _ (ap code_tree c.in-With.is) c.requires in
    (search (rules, the_lemmas), (within, can.0))

pub emit_tree-emit_tree-requires-in-With-2 : goal.emit_tree-emit_tree-requires-in-With-2
emit_tree-emit_tree-requires-in-With-2 g t c κs within =
    let can = with_parts _ _ _ _ _ _ (ap code_tree c.in-With.is) c.requires in
    let later = can_later g.O.GateOut.took g.O.GateOut.fits g.met.O.GateOut.fits_stays in
    (search (rules, the_lemmas), (within, later _ _ _ _ _ _ c.emit_tree-in-With.auto.buffer c.in_ok-emit_tree-in-With.ensures.whole can.1))

pub emit_tree-emit_tree-requires-in-With-3 : goal.emit_tree-emit_tree-requires-in-With-3
emit_tree-emit_tree-requires-in-With-3 g t c κs within =
    let can = with_parts _ _ _ _ _ _ (ap code_tree c.in-With.is) c.requires in
    let later = can_later g.O.GateOut.took g.O.GateOut.fits g.met.O.GateOut.fits_stays in
    let after = later _ _ _ _ _ _ c.emit_tree-in-With.auto.buffer c.in_ok-emit_tree-in-With.ensures.whole can.2 in
    (search (rules, the_lemmas), (within, later _ _ _ _ _ _ c.emit_tree-in-With-2.auto.buffer c.in_ok-emit_tree-in-With-2.ensures.whole after))

pub emit_tree-emit_tree-requires-in-Conj : goal.emit_tree-emit_tree-requires-in-Conj
emit_tree-emit_tree-requires-in-Conj g t c κs within =
    let can = conj_parts _ _ _ _ _ _ (ap code_tree c.in-Conj.is) c.requires in
    (search (rules, the_lemmas), (within, can.0))

pub emit_tree-emit_tree-requires-in-Conj-2 : goal.emit_tree-emit_tree-requires-in-Conj-2
emit_tree-emit_tree-requires-in-Conj-2 g t c κs within =
    let can = conj_parts _ _ _ _ _ _ (ap code_tree c.in-Conj.is) c.requires in
    let later = can_later g.O.GateOut.took g.O.GateOut.fits g.met.O.GateOut.fits_stays in
    (search (rules, the_lemmas), (within, later _ _ _ _ _ _ c.emit_tree-in-Conj.auto.buffer c.in_ok-emit_tree-in-Conj.ensures.whole can.1))

pub emit_tree-emit_tree-requires-in-Conj-3 : goal.emit_tree-emit_tree-requires-in-Conj-3
emit_tree-emit_tree-requires-in-Conj-3 g t c κs within =
    let can = conj_parts _ _ _ _ _ _ (ap code_tree c.in-Conj.is) c.requires in
    let later = can_later g.O.GateOut.took g.O.GateOut.fits g.met.O.GateOut.fits_stays in
    let after = later _ _ _ _ _ _ c.emit_tree-in-Conj.auto.buffer c.in_ok-emit_tree-in-Conj.ensures.whole can.2 in
    (search (rules, the_lemmas), (within, later _ _ _ _ _ _ c.emit_tree-in-Conj-2.auto.buffer c.in_ok-emit_tree-in-Conj-2.ensures.whole after))
