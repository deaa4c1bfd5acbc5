use Rattle.std.proofs.Common.{◌∙◌, append-nil, refl}
use Rattle.std.proofs.Math.ListN.{drop_of_length-le}
use Rattle.tw_gatetext.proofs.Lists.{x_line-pushed}
use Rattle.tw_gatetext.proofs.pieces.push_x_line.Goals as goal

pub returns : goal.returns
returns c =
    let begun = rw (drop_of_length-le c.args.controls.now c.loop-control-test.false, append-nil) at c.loop-control.invariant.text in
    x_line-pushed c.args.controls.now c.args.target c.args.text.now.bytes c.loop-control.text.bytes c.push_str.new.self.bytes begun
    (c.push_str.ensures.bytes ∙ rw c.push_number-2.ensures.text refl)
