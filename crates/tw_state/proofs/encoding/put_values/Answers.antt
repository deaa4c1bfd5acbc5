use Rattle.std.proofs.Common.{◌∙◌, sym, ap, subst, arith, length, map, flat_map, take, option_map, Some, length-append}
use Rattle.std.proofs.lemmas.Option.{slice_get-map, slice_get-get_or}
use Rattle.tw_syntax.specs.Programs.{fun_tree}
use Rattle.tw_types.specs.FromCode.{value_of}
use Rattle.tw_types.specs.Values.{value_bits}
use Rattle.tw_resolve.specs.Resolved.{resolved_setting}
use Rattle.tw_state.specs.EntryEncoding.{Appends}
use Rattle.tw_state.specs.Listed.{names_at_end}
use Rattle.tw_state.specs.Results.{Fits}
use Rattle.tw_state.specs.Steps.{fun_types}
use Rattle.tw_state.proofs.Appending.{appends_both}
use Rattle.tw_state.proofs.CellBits.{one_more_given, given_within}
use Rattle.tw_state.proofs.EntryNames.{get_taken, type_found, value_fits}
use Rattle.tw_state.proofs.encoding.put_values.Goals as goal

pub put_value-next-requires-clause-typed : goal.put_value-next-requires-clause-typed
put_value-next-requires-clause-typed c =
    let setting = resolved_setting c.args.checked.now.resolved in
    let fun = fun_tree c.args.fun.now in
    let values = c.args.values.now in
    let place = c.loop-place.place in
    let found = slice_get-map value_of values place ∙ ap (option_map value_of) (slice_get-get_or values place c.index-values-place.result c.loop-place-test.true ∙ ap Some (sym c.index-values-place.is)) in
    subst (λ ty. Fits setting.widths ty (Some (value_of c.index-values-place.result))) (sym (type_found setting c.args.number fun c.name_at.result.now c.requires.function))
    (value_fits setting.widths (fun_types setting fun) (take (length values) (names_at_end fun)) (map value_of values) place c.name_at.result.now (value_of c.index-values-place.result)
    (get_taken (names_at_end fun) (length values) place c.loop-place-test.true ∙ c.name_at.ensures) found c.requires.typed)

pub put_value-next-requires-clause-within : goal.put_value-next-requires-clause-within
put_value-next-requires-clause-within c =
    let widths = c.args.checked.now.resolved.tables.types.widths in
    let values = c.args.values.now in
    let place = c.loop-place.place in
    let so = c.loop-place.invariant in
    let found = slice_get-map value_of values place ∙ ap (option_map value_of) (slice_get-get_or values place c.index-values-place.result c.loop-place-test.true ∙ ap Some (sym c.index-values-place.is)) in
    let part = given_within (value_bits widths) (map value_of values) place (value_of c.index-values-place.result) found in
    let after = so.after in
    let same = so.appended.as_many in
    let whole = c.requires.within in
    omega (arith, part, after, same, whole)

pub loop-place-preserved : goal.loop-place-preserved
loop-place-preserved c =
    let widths = c.args.checked.now.resolved.tables.types.widths in
    let values = c.args.values.now in
    let place = c.loop-place.place in
    let value = value_of c.index-values-place.result in
    let so = c.loop-place.invariant in
    let found = slice_get-map value_of values place ∙ ap (option_map value_of) (slice_get-get_or values place c.index-values-place.result c.loop-place-test.true ∙ ap Some (sym c.index-values-place.is)) in
    let done = flat_map (value_bits widths) (take place (map value_of values)) in
    let more = one_more_given (value_bits widths) (map value_of values) place value found in
    let whole = ap length more ∙ length-append done (value_bits widths value) in
    let next = c.put_value-next.ensures.next in
    let after = so.after in
    record {
      after = omega (arith, whole, next, after);
      appended = subst (λ bits. Appends c.args.at bits c.args.bits.now c.put_value-next.new.bits) (sym more)
          (appends_both c.args.at c.loop-place.next done (value_bits widths value) c.args.bits.now c.loop-place.bits c.put_value-next.new.bits so.after so.appended c.put_value-next.ensures.bits);
    }
