use Rattle.std.proofs.Common.{ap}
use Rattle.tw_syntax.specs.Terms.{NumberAtom, NullAtom, ZeroAtom, atom_kind_tree, atom_tree}
use Rattle.tw_syntax.specs.Types.{written_tree}
use Rattle.tw_frames.specs.Found.{setting_of}
use Rattle.tw_lower.specs.FrameWires.{plain_frame}
use Rattle.tw_lower.proofs.Constants.{null_is, number_is, operand_made, zero_is}
use Rattle.tw_lower.proofs.operand.operand.Goals as goal

pub returns-in-Number : goal.returns-in-Number
returns-in-Number c =
    let setting = setting_of c.args.frame.now.body in
    let frame = plain_frame c.args.frame.now in
    let at = c.args.atom.now.at in
    operand_made setting frame at c.args.width c.constant.result (atom_tree c.args.atom.now) (NumberAtom at c.in-Number.number) c.in-Number.number (ap (atom_kind_tree at) c.in-Number.is)
    (number_is setting frame at c.args.width c.in-Number.number) c.requires c.constant.ensures

pub returns-in-Null : goal.returns-in-Null
returns-in-Null c =
    let setting = setting_of c.args.frame.now.body in
    let frame = plain_frame c.args.frame.now in
    let at = c.args.atom.now.at in
    let to = written_tree c.in-Null.field-0.now in
    operand_made setting frame at c.args.width c.constant-in-Null.result (atom_tree c.args.atom.now) (NullAtom at to) 0 (ap (atom_kind_tree at) c.in-Null.is) (null_is setting frame at c.args.width to) c.requires
    c.constant-in-Null.ensures

pub returns-in-Zero : goal.returns-in-Zero
returns-in-Zero c =
    let setting = setting_of c.args.frame.now.body in
    let frame = plain_frame c.args.frame.now in
    let at = c.args.atom.now.at in
    let written = written_tree c.in-Zero.field-0.now in
    operand_made setting frame at c.args.width c.constant-in-Zero.result (atom_tree c.args.atom.now) (ZeroAtom at written) 0 (ap (atom_kind_tree at) c.in-Zero.is) (zero_is setting frame at c.args.width written) c.requires
    c.constant-in-Zero.ensures
