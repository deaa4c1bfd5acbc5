use Rattle.std.proofs.Common.{◌≡◌, ◌∙◌, sym, ap, List, map}
use Rattle.std.proofs.lemmas.List.{at_drop_all}
use Rattle.std.proofs.lemmas.Simd.{map-map}
use Rattle.tw_syntax.specs.Programs.{ParamTree, fun_tree, param_tree}
use Rattle.tw_resolve.specs.Expressions.{Types}
use Rattle.tw_resolve.specs.Setting.{reported}
use Rattle.tw_state.specs.Listed.{names_at_start}
use Rattle.tw_state.specs.States.{Name}
use Rattle.tw_state.specs.Steps.{fun_types}
use Rattle.tw_state.proofs.Basics.{same_some}
use Rattle.tw_frames.specs.Found.{setting_of, types_of}
use Rattle.tw_frames.specs.Sizes.{names_size}
use Rattle.tw_frames.proofs.Counting.{sum_last}
use Rattle.tw_frames.proofs.PathTypes.{types_are}
use Rattle.tw_frames.proofs.laying.bits_of_params.Goals as goal

pub returns : goal.returns
returns c =
    λ fun is.
    let setting = setting_of c.args.body.now in
    let params = c.fun_at.result.now.params.now in
    let same : fun ≡ fun_tree c.fun_at.result.now = same_some is c.fun_at.ensures in
    sum_last c.loop-param.invariant (at_drop_all (λ ps. names_size setting.widths (types_of c.args.body.now) (map (λ param. (param_tree param).name.text) ps)) params c.loop-param.param-index c.loop-param-test.false)
    ∙ ap (λ (types : Types). reported (names_size setting.widths types (map (λ param. (param_tree param).name.text) params))) (types_are setting c.args.body.now.fun fun is)
    ∙ ap (λ (names : List Name). reported (names_size setting.widths (fun_types setting fun) names))
    (sym (map-map (λ (param : ParamTree). param.name.text) param_tree params) ∙ ap names_at_start (sym same))
