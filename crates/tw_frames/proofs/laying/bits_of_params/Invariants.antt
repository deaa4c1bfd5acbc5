use Rattle.std.proofs.Common.{drop, map}
use Rattle.tw_syntax.specs.Programs.{param_tree}
use Rattle.tw_frames.specs.Found.{setting_of, types_of}
use Rattle.tw_frames.specs.Sizes.{names_size}
use Rattle.tw_frames.proofs.Counting.{LeftSum}
use Rattle.tw_frames.proofs.laying.bits_of_params.Given as goal

abbrev pub invariant-loop-param : goal.invariant-loop-param
invariant-loop-param l =
    LeftSum (names_size (setting_of l.body).widths (types_of l.body) (map (λ param. (param_tree param).name.text) l.params))
    (names_size (setting_of l.body).widths (types_of l.body) (map (λ param. (param_tree param).name.text) (drop l.param-index l.params))) l.total
