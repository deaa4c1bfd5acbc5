use denote.Bor.{Bor}
use Rattle.std.proofs.Common.{ℕ, List, drop, map, flat_map}
use Rattle.tw_syntax.specs.declared.written.Written.{Written}
use Rattle.tw_syntax.specs.Programs.{param_tree}
use Rattle.tw_resolve.specs.Collects.{Collects}
use Rattle.tw_resolve.specs.Declarations.{targets_in}
use Rattle.tw_resolve.proofs.targets.add_params.Given as goal

abbrev pub invariant-loop-param : goal.invariant-loop-param
invariant-loop-param l =
    (new : List (Bor (List ℕ) × Bor Written)) → Collects l.targets.table.entries new (flat_map (λ param. targets_in param.ty) (map param_tree (drop l.param-index l.params)))
    → Collects l.fn.targets.table.entries new (flat_map (λ param. targets_in param.ty) (map param_tree l.params))
