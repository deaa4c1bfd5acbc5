use Rattle.std.proofs.Common.{◌≡◌, ◌+◌, ◌∷◌, drop, slice_index_or, add-one, drop-cons}
use Rattle.tw_gatetext.proofs.Controls.{follow_step}
use Rattle.tw_gatetext.proofs.gate_fits.controls_fit.Goals as goal

pub loop-control-preserved : goal.loop-control-preserved
loop-control-preserved c =
    let controls = c.args.controls.now in
    let i = c.loop-control.control-index in
    let split : drop i controls ≡ slice_index_or controls i 0 ∷ drop (i + 1) controls = rw add-one (drop-cons controls i 0 c.loop-control-test.true) in
    let step = follow_step c.args.wires c.args.target c.loop-control.least _ _ _ split c.if-control-least.false c.if-control-wires.false c.if-control-target.false in
    let so = c.loop-control.invariant in
    (λ all. step.0 (so.0 all), λ all. so.1 (step.1 all))
