use Rattle.std.proofs.Common.{◌∙◌, sym, ap, arith, Some}
use Rattle.std.proofs.Math.ListN.{drop_of_length-le}
use Rattle.std.proofs.lemmas.Option.{slice_get-get_or}
use Rattle.std.proofs.lemmas.Result.{err_from_is_err_and}
use Rattle.tw_syntax.specs.Programs.{fun_tree}
use Rattle.tw_state.specs.Listed.{names_at_end}
use Rattle.tw_state.proofs.Writing.{part_then, part_broke, all_written, values_from, no_values}
use Rattle.tw_state.proofs.printing.write_values.Goals as goal

pub returns-in_err-write_named : goal.returns-in_err-write_named
returns-in_err-write_named g c =
    let p = err_from_is_err_and c.from_residual.result c.from_residual.ensures.1 in
    let values = c.args.values.now in
    let i = c.loop-place.place in
    let found = slice_get-get_or values i c.index-values-place.result c.loop-place-test.true ∙ ap Some (sym c.index-values-place.is) in
    record { wrote = rw (p.1, p.2) (c.loop-place.invariant _ _ (part_broke _ _ _ _ _ _ _ _ (values_from (names_at_end (fun_tree c.args.fun.now)) values i c.name_at.result.now c.index-values-place.result c.name_at.ensures found) c.in_err-write_named.ensures.wrote)) }

pub loop-place-preserved : goal.loop-place-preserved
loop-place-preserved g c =
    let values = c.args.values.now in
    let i = c.loop-place.place in
    let found = slice_get-get_or values i c.index-values-place.result c.loop-place-test.true ∙ ap Some (sym c.index-values-place.is) in
    λ s r later. c.loop-place.invariant s r (part_then _ _ _ _ _ _ _ _ _ (values_from (names_at_end (fun_tree c.args.fun.now)) values i c.name_at.result.now c.index-values-place.result c.name_at.ensures found) c.in_ok-write_named.ensures.wrote later)

pub returns : goal.returns
returns g c =
    let none = drop_of_length-le c.args.values.now (omega (arith, c.loop-place-test.false)) in
    record { wrote = c.loop-place.invariant _ _ (all_written _ _ _ _ (no_values _ _ none)) }
