use Rattle.std.proofs.Common.{◌∙◌, sym, refl, add-one, arith, true, false, length, ◌<◌}
use Rattle.tower.proofs.Encoding.{next_moved, length-moved, line_ended, all_zero}
use Rattle.tower.proofs.encode.move_bits.Goals.{then-get, else-get}
use Rattle.tower.proofs.encode.move_bits.Goals as goal

pub loop-place-preserved : goal.loop-place-preserved
loop-place-preserved c =
    let long = length-moved c.loop-place.place c.args.bits.now c.loop-place.bits c.loop-place.line c.loop-place.invariant in
    let inside : c.loop-place.place < length c.loop-place.bits = omega (arith, long, c.loop-place-test.true, c.len-place-end.ensures) in
    rw (add-one c.loop-place.place)
    (elim c.if-get.branch [
      | then-get w ↦ next_moved c.loop-place.place c.args.bits.now c.loop-place.bits _ c.loop-place.line _ true c.loop-place.invariant inside (sym c.get.ensures ∙ w.if-get.true) (w.bits-is ∙ w.flip.ensures.bits) w.line-is
      | else-get w ↦ next_moved c.loop-place.place c.args.bits.now c.loop-place.bits _ c.loop-place.line _ false c.loop-place.invariant inside (sym c.get.ensures ∙ w.if-get.false) w.bits-is w.line-is
    ])

pub returns-clause-line : goal.returns-clause-line
returns-clause-line c =
    let long = length-moved c.loop-place.place c.args.bits.now c.loop-place.bits c.loop-place.line c.loop-place.invariant in
    line_ended c.loop-place.place c.args.bits.now c.loop-place.bits c.loop-place.line c.loop-place.invariant (omega (arith, long, c.len-place-end.ensures, c.loop-place-test.false)) c.len.result _
    (omega (arith, long, c.len.ensures, c.len-place-end.ensures, c.loop-place-test.false)) refl

pub returns-clause-bits : goal.returns-clause-bits
returns-clause-bits c =
    let long = length-moved c.loop-place.place c.args.bits.now c.loop-place.bits c.loop-place.line c.loop-place.invariant in
    all_zero c.loop-place.place c.args.bits.now c.loop-place.bits c.loop-place.line c.loop-place.invariant (omega (arith, long, c.len-place-end.ensures, c.loop-place-test.false))
