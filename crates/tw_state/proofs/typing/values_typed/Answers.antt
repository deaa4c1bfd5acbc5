use Rattle.std.proofs.Common.{◌∙◌, sym, ap, subst, map, length, take, option_map, Some}
use Rattle.std.specs.Bool.{Decides}
use Rattle.std.proofs.lemmas.Option.{slice_get-map, slice_get-get_or}
use Rattle.tw_syntax.specs.Programs.{fun_tree}
use Rattle.tw_types.specs.FromCode.{value_of}
use Rattle.tw_resolve.specs.Resolved.{resolved_setting}
use Rattle.tw_state.specs.Listed.{names_at_end}
use Rattle.tw_state.specs.Results.{Fits}
use Rattle.tw_state.specs.Steps.{fun_types}
use Rattle.tw_state.proofs.EntryNames.{get_taken, typed_step, type_found, tests_stop, tests_go_on}
use Rattle.tw_state.proofs.typing.values_typed.Goals as goal

pub returns-then-not-value_typed : goal.returns-then-not-value_typed
returns-then-not-value_typed c =
    let setting = resolved_setting c.args.checked.now.resolved in
    let fun = fun_tree c.args.fun.now in
    let values = c.args.values.now in
    let place = c.loop-place.place in
    let name = c.name_at.result.now in
    let step = typed_step setting.widths (fun_types setting fun) (take (length values) (names_at_end fun)) (map value_of values) place name (value_of c.index-values-place.result)
    (get_taken (names_at_end fun) (length values) place c.loop-place-test.true ∙ c.name_at.ensures)
    (slice_get-map value_of values place ∙ ap (option_map value_of) (slice_get-get_or values place c.index-values-place.result c.loop-place-test.true ∙ ap Some (sym c.index-values-place.is))) in
    let here = subst (λ ty. Decides c.value_typed.result (Fits setting.widths ty (Some (value_of c.index-values-place.result)))) (type_found setting c.args.number fun name c.requires.function) c.value_typed.ensures in
    tests_stop c.loop-place.invariant step here c.if-not-value_typed.true

pub loop-place-preserved : goal.loop-place-preserved
loop-place-preserved c =
    let setting = resolved_setting c.args.checked.now.resolved in
    let fun = fun_tree c.args.fun.now in
    let values = c.args.values.now in
    let place = c.loop-place.place in
    let name = c.name_at.result.now in
    let step = typed_step setting.widths (fun_types setting fun) (take (length values) (names_at_end fun)) (map value_of values) place name (value_of c.index-values-place.result)
    (get_taken (names_at_end fun) (length values) place c.loop-place-test.true ∙ c.name_at.ensures)
    (slice_get-map value_of values place ∙ ap (option_map value_of) (slice_get-get_or values place c.index-values-place.result c.loop-place-test.true ∙ ap Some (sym c.index-values-place.is))) in
    let here = subst (λ ty. Decides c.value_typed.result (Fits setting.widths ty (Some (value_of c.index-values-place.result)))) (type_found setting c.args.number fun name c.requires.function) c.value_typed.ensures in
    tests_go_on c.loop-place.invariant step here c.if-not-value_typed.false
