use Rattle.std.proofs.Common.{◌∙◌, ap, sym, arith, refl}
use Rattle.std.specs.Option.{option_copied}
use Rattle.tower.proofs.Marking.{passed_next, parted_at_mark, parted_at_end}
use Rattle.tower.proofs.marks.split_at_mark.Goals as goal

pub loop-place-init : goal.loop-place-init
loop-place-init c = (omega arith, refl)

pub returns-in-Some : goal.returns-in-Some
returns-in-Some c =
    parted_at_mark c.args.bytes.now c.in-Some.rest.now c.loop-place.place c.loop-place.begins c.loop-place-test.true (sym c.after_mark_at.ensures ∙ ap option_copied c.in-Some.is) c.loop-place.invariant

pub loop-place-preserved : goal.loop-place-preserved
loop-place-preserved c = passed_next c.args.bytes.now c.loop-place.place c.loop-place.begins c.loop-place-test.true (sym c.after_mark_at.ensures ∙ ap option_copied c.in_default.is) c.loop-place.invariant

pub returns : goal.returns
returns c = parted_at_end c.args.bytes.now c.loop-place.place c.loop-place.begins c.loop-place-test.false c.loop-place.invariant
