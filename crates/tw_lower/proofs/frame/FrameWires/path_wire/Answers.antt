use Rattle.std.proofs.Common.{◌≡◌, ◌∙◌, sym, ap, arith, option_map}
use Rattle.tw_syntax.specs.Names.{path_tree}
use Rattle.tw_types.specs.FromCode.{ty_of}
use Rattle.tw_types.specs.Types.{Widths}
use Rattle.tw_resolve.specs.Setting.{reported}
use Rattle.tw_frames.specs.Found.{setting_of}
use Rattle.tw_lower.specs.FrameWires.{plain_frame}
use Rattle.tw_lower.specs.Operands.{part_offset}
use Rattle.tw_lower.proofs.PartOffsets.{IsFound, path_found}
use Rattle.tw_lower.proofs.frame.FrameWires.path_wire.Goals as goal

found : (c : goal.After-part_offset) → IsFound (setting_of c.args.self.now.body) (plain_frame c.args.self.now) (path_tree c.args.path.now) c.wire-first.result c.part_offset.result
found c =
    path_found (setting_of c.args.self.now.body) (plain_frame c.args.self.now) (path_tree c.args.path.now) (ty_of c.in-Some.ty) c.wire-first.result c.part_offset.result
    (sym c.type_of.ensures.types ∙ ap (option_map ty_of) c.in-Some.is) (c.args.self.now.within c.args.path.now.root.text.now) c.wire-first.ensures
    (c.part_offset.ensures ∙ ap (λ (w : Widths). reported (part_offset w c.args.path.now.steps.now (ty_of c.in-Some.ty))) c.widths.ensures)

pub overflow_cast-result : goal.overflow_cast-result
overflow_cast-result c = omega (arith, (found c).fits)

pub overflow_add-result : goal.overflow_add-result
overflow_add-result c = omega (arith, (found c).sum_fits)

pub returns-in-Some : goal.returns-in-Some
returns-in-Some c = (found c).is
