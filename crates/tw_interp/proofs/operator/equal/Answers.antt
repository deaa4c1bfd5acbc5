use Rattle.std.proofs.lemmas.Bool.Decides.{same_from_decides}
use Rattle.tw_types.specs.FromCode.{value_of}
use Rattle.tw_state.specs.Evaluation.{same_value}
use Rattle.tw_state.proofs.Deciding.{same_value-Decides}
use Rattle.tw_interp.proofs.operator.equal.Goals as goal

pub returns : goal.returns
returns c =
    let x = value_of c.args.x.now in
    let y = value_of c.args.y.now in
    same_from_decides c.same.result (same_value x y) c.same.ensures (same_value-Decides x y)
