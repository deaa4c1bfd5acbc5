use Rattle.std.proofs.Common.{◌∙◌, ap, sym}
use Rattle.tw_syntax.specs.Names.{path_tree}
use Rattle.tw_syntax.specs.Terms.{atom_kind_tree}
use Rattle.tw_code.specs.Rows.{load_rows}
use Rattle.tw_resolve.specs.Setting.{reported}
use Rattle.tw_frames.specs.Found.{setting_of, types_of}
use Rattle.tw_frames.specs.Inventory.{load_of}
use Rattle.tw_frames.specs.Sizes.{type_size}
use Rattle.tw_frames.proofs.PathTypes.{path_types}
use Rattle.tw_cost.specs.Costs.{cost_of}
use Rattle.tw_cost.proofs.expressions.cost_of_load.Goals as goal

pub returns-in-Place : goal.returns-in-Place
returns-in-Place c =
    let setting = setting_of c.args.body.now in
    c.cost_of_copies.ensures (type_size setting.widths _) (c.bits_of_path.ensures ∙ ap (λ ty. reported (type_size setting.widths ty)) (path_types setting c.args.body.now.fun (path_tree c.in-Place.path)))
    ∙ ap (λ kind. cost_of c.args.level (load_rows (load_of setting (types_of c.args.body.now) (atom_kind_tree c.args.atom.now.at kind)) c.args.under)) (sym c.in-Place.is)
