use Rattle.std.proofs.Common.{◌≡◌, arith, ap}
use Rattle.tw_syntax.specs.Programs.{FunTree, fun_tree}
use Rattle.tw_state.proofs.Basics.{same_some}
use Rattle.tw_frames.specs.Frames.{if_count}
use Rattle.tw_frames.proofs.frames.frame_size.Goals as goal

pub returns : goal.returns
returns c =
    λ fun is.
    let same : fun ≡ fun_tree c.fun_at.result.now = same_some is c.fun_at.ensures in
    let ifs = c.count_ifs-ifs.ensures in
    let count : if_count fun.body ≡ if_count (fun_tree c.fun_at.result.now).body = ap (λ (f : FunTree). if_count f.body) same in
    let locals = c.bits_of_locals.ensures fun is in
    let total = c.saturating_add.ensures in
    omega (arith, ifs, count, locals, total)
