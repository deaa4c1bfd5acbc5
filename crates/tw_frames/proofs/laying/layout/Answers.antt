use Rattle.std.proofs.Common.{◌≡◌, ◌∙◌, sym, ap, subst}
use Rattle.tw_text.specs.declared.limits.TheConstants.{DEPTH_LIMIT}
use Rattle.tw_resolve.specs.Resolved.{resolved_setting}
use Rattle.tw_state.specs.Depth.{EntryIsWithin}
use Rattle.tw_state.proofs.Basics.{same_some}
use Rattle.tw_frames.specs.declared.measured.Measured.{Measured}
use Rattle.tw_frames.specs.Layout.{flag_count, ladder_size, region_sizes, in_order, capped_sizes, IsLaidOut, IsPlaced}
use Rattle.tw_frames.specs.Measures.{MeasuresEntry}
use Rattle.tw_frames.specs.Regions.{AreInOrder}
use Rattle.tw_frames.proofs.OneMeasure.{entry_measure_determined}
use Rattle.tw_frames.proofs.OneLayout.{one_layout, in_order-regions, if_ok}
use Rattle.tw_frames.proofs.Reached.{checked_frames}
use Rattle.tw_frames.proofs.laying.layout.Goals as goal

pub returns-clause-placed : goal.returns-clause-placed
returns-clause-placed c =
    λ whole laid.
    let setting = resolved_setting c.args.checked.now.resolved in
    let bound = c.args.entry.bound in
    let within = subst (λ f. EntryIsWithin setting DEPTH_LIMIT f bound) (same_some c.requires.within.1 laid.at) c.requires.within.2 in
    let workspace = c.enter-workspace.ensures laid.fun laid.at within laid.workspace laid.needs in
    let measured : c.args.measure.now ≡ laid.measured
    = entry_measure_determined setting (subst (λ f. MeasuresEntry setting f bound c.args.measure.now) (same_some c.requires.measured.at laid.at) c.requires.measured.measures) laid.measures in
    let flags = c.flag_count-flags.ensures ∙ ap (λ (m : Measured). flag_count c.args.options m.if_depth) measured in
    let ladder = c.ladder_size.ensures in
    let sizes = c.sizes_of-sizes.ensures laid.fun laid.workspace laid.at workspace ∙ (λ i. capped_sizes (region_sizes setting laid.fun laid.workspace (flags i) (ladder i))) in
    let whole_sizes = region_sizes setting laid.fun laid.workspace (flag_count c.args.options laid.measured.if_depth) (ladder_size c.args.level c.args.most_controls) in
    subst (λ l. IsPlaced l c.place.result) (ap (λ w. in_order w whole_sizes) c.widths.ensures ∙ sym laid.is) (c.place.ensures whole_sizes sizes)

pub returns-clause-one : goal.returns-clause-one
returns-clause-one c = one_layout (resolved_setting c.args.checked.now.resolved) c.args.entry c.args.options c.args.level c.args.most_controls c.args.measure.now c.requires.measured

pub returns-clause-laid_out : goal.returns-clause-laid_out
returns-clause-laid_out c =
    let one = returns-clause-one c in
    let placed = returns-clause-placed c one.layout one.is in
    if_ok c.place.result (λ layout is. subst (IsLaidOut (resolved_setting c.args.checked.now.resolved) c.args.entry c.args.options c.args.level c.args.most_controls) (sym is) one.is) placed.placed

pub returns-clause-regions : goal.returns-clause-regions
returns-clause-regions c =
    let widths = (resolved_setting c.args.checked.now.resolved).widths in
    let one = returns-clause-one c in
    let placed = returns-clause-placed c one.layout one.is in
    if_ok c.place.result (λ layout is. subst (AreInOrder widths) (sym (is ∙ one.is.is)) (in_order-regions widths _)) placed.placed

pub returns-clause-frames : goal.returns-clause-frames
returns-clause-frames c =
    if_ok c.place.result (λ layout laid. checked_frames c.args.checked.now c.args.entry c.args.options c.args.level c.args.most_controls layout laid) (returns-clause-laid_out c)
