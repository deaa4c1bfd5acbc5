use Rattle.std.proofs.Common.{◌∙◌, ap, sym}
use Rattle.tw_syntax.specs.Terms.{atom_tree, expr_kind_tree}
use Rattle.tw_types.specs.Types.{Widths}
use Rattle.tw_code.specs.Rows.{pair_rows}
use Rattle.tw_frames.specs.Found.{setting_of, types_of}
use Rattle.tw_frames.specs.Inventory.{expr_rows, load_of, op_rows}
use Rattle.tw_frames.specs.Sizes.{atom_size}
use Rattle.tw_cost.specs.Costs.{capped_cost, cost_of, in_turn}
use Rattle.tw_cost.proofs.Capping.{join}
use Rattle.tw_cost.proofs.expressions.cost_of_expr.Goals as goal

pub returns-in-Op : goal.returns-in-Op
returns-in-Op c =
    let level = c.args.level in
    let setting = setting_of c.args.body.now in
    let types = types_of c.args.body.now in
    let bits = atom_size setting types (atom_tree c.in-Op.left) in
    let x = load_of setting types (atom_tree c.in-Op.left) in
    let y = load_of setting types (atom_tree c.in-Op.right) in
    let once = c.cost_of_pair-loads.ensures in
    let loads = join level (pair_rows x y 0) (pair_rows x y 0) once once c.then.ensures in
    c.then-in-Op.ensures
    ∙ ap (λ cost. capped_cost (in_turn cost c.cost_of_operator-work.result)) loads
    ∙ c.cost_of_operator-work.ensures bits c.bits_of_atom-bits.ensures x y
    ∙ ap (λ (w : Widths). cost_of level (op_rows w.word bits c.in-Op.operator x y c.args.under)) c.widths.ensures
    ∙ ap (λ kind. cost_of level (expr_rows setting types (expr_kind_tree c.args.expr.now.at kind) c.args.under)) (sym c.in-Op.is)
