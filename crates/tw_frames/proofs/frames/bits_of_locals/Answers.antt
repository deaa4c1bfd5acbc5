use Rattle.std.proofs.Common.{◌∙◌, ◌≤◌, ◌<◌, sym, ap, subst, [], length}
use Rattle.std.proofs.lemmas.List.{at_drop_more, at_drop_all}
use Rattle.std.proofs.lemmas.Option.{slice_get-get_or}
use Rattle.tw_types.specs.Types.{UnitTy, size}
use Rattle.tw_resolve.specs.Declarations.{Name}
use Rattle.tw_resolve.specs.Resolved.{locals_at, locals_of}
use Rattle.tw_resolve.specs.Setting.{reported}
use Rattle.tw_types.specs.Types.{Ty, Widths}
use Rattle.tw_state.proofs.Basics.{some_value}
use Rattle.tw_frames.specs.Found.{setting_of}
use Rattle.tw_frames.proofs.Counting.{sum_first, sum_next, sum_last}
use Rattle.tw_frames.proofs.Locals.{variables_size, locals_sizes}
use Rattle.tw_frames.proofs.frames.bits_of_locals.Goals as goal

abbrev other : Name × Ty
other = ([], UnitTy)

pub loop-place-init : goal.loop-place-init
loop-place-init c = sum_first (variables_size c.widths-widths.result (locals_at (setting_of c.args.body.now) c.args.body.now.fun))

pub loop-place-preserved : goal.loop-place-preserved
loop-place-preserved c =
    let locals = locals_at (setting_of c.args.body.now) c.args.body.now.fun in
    let within : c.loop-place.place < length locals = subst (λ n. c.loop-place.place < n) c.local_count-place-end.ensures c.loop-place-test.true in
    let found = slice_get-get_or locals c.loop-place.place other within in
    sum_next _ _ c.loop-place.invariant (at_drop_more (variables_size c.widths-widths.result) locals c.loop-place.place other within)
    (c.bits_of.ensures ∙ ap (λ (variable : Name × Ty). reported (size c.widths-widths.result variable.1)) (some_value (sym c.local.ensures ∙ found)))
    c.saturating_add-total.ensures

pub returns : goal.returns
returns c =
    λ fun is.
    let past : length (locals_at (setting_of c.args.body.now) c.args.body.now.fun) ≤ c.loop-place.place = subst (λ n. n ≤ c.loop-place.place) c.local_count-place-end.ensures c.loop-place-test.false in
    sum_last c.loop-place.invariant (at_drop_all (variables_size c.widths-widths.result) (locals_at (setting_of c.args.body.now) c.args.body.now.fun) c.loop-place.place past)
    ∙ ap (λ (w : Widths). reported (variables_size w (locals_at (setting_of c.args.body.now) c.args.body.now.fun))) c.widths-widths.ensures
    ∙ ap (λ f. reported (variables_size (setting_of c.args.body.now).widths (locals_of (setting_of c.args.body.now) f))) is
    ∙ ap reported (sym (locals_sizes (setting_of c.args.body.now) fun))
