use Rattle.std.proofs.Common.{◌≡◌, Some, drop}
use Rattle.tw_types.specs.FromCode.{ty_of}
use Rattle.tw_resolve.specs.Expressions.{part}
use Rattle.tw_resolve.proofs.paths.part.Given as goal

abbrev pub invariant-loop-step : goal.invariant-loop-step
invariant-loop-step l = part l.steps (Some (ty_of l.initial.found)) ≡ part (drop l.step-index l.steps) (Some (ty_of l.found))
