use Rattle.std.proofs.Common.{drop}
use Rattle.tw_resolve.specs.Resolved.{locals_at}
use Rattle.tw_frames.specs.Found.{setting_of}
use Rattle.tw_frames.proofs.Counting.{LeftSum}
use Rattle.tw_frames.proofs.Locals.{variables_size}
use Rattle.tw_frames.proofs.frames.bits_of_locals.Given as goal

abbrev pub invariant-loop-place : goal.invariant-loop-place
invariant-loop-place l =
    let locals = locals_at (setting_of l.body) l.body.fun in
    LeftSum (variables_size l.widths locals) (variables_size l.widths (drop l.place locals)) l.total
