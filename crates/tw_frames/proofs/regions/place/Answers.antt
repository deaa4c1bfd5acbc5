use Rattle.std.proofs.Common.{◌∙◌, ◌≤◌, ◌<◌, ◌*◌, ◌+◌, arith, sym, ap, subst, min}
use Rattle.tw_types.specs.Types.{block_count}
use Rattle.tw_state.proofs.CellBits.{some_blocks}
use Rattle.tw_frames.specs.declared.regions.RegionSizes.{RegionSizes}
use Rattle.tw_frames.proofs.Counting.{greatest}
use Rattle.tw_frames.proofs.Placing.{limit, block_fits, first_within, last_within, refuses, places}
use Rattle.tw_frames.proofs.regions.place.Goals as goal

pub overflow_cast-result : goal.overflow_cast-result
overflow_cast-result c =
    let ladder = first_within _ _ c.saturating_add-wires.ensures c.if-too_many.false in
    let flags = first_within _ _ c.saturating_add-ladder.ensures ladder in
    let scratch = first_within _ _ c.saturating_add-flags.ensures flags in
    let frame = first_within _ _ c.saturating_add-scratch.ensures scratch in
    let out = first_within _ _ c.saturating_add-frame.ensures frame in
    let args = first_within _ _ c.saturating_add-out.ensures out in
    let blocks = last_within _ _ c.saturating_add-args.ensures args in
    let some = some_blocks c.args.widths (omega (arith, ap (λ w. w.addr) c.widths.view_is, c.widths.invariant.addr_from)) in
    let count = c.from.ensures ∙ c.block_count.ensures in
    let fits = block_fits c.from.result c.args.sizes.block (subst (λ n. 0 < n) (sym count) some) (subst (λ n. n ≤ limit) c.saturating_mul-blocks.ensures blocks) in
    omega (arith, fits)

pub returns-then-too_many : goal.returns-then-too_many
returns-then-too_many c =
    λ whole is.
    refuses c.args.widths whole
    (record {
      blocks_are = c.saturating_mul-blocks.ensures ∙ ap (λ n. min (n * c.args.sizes.block) greatest) (c.from.ensures ∙ c.block_count.ensures) ∙ ap (λ (s : RegionSizes). min (block_count c.args.widths * s.block) greatest) is;
      args_are = c.saturating_add-args.ensures ∙ ap (λ n. min (n + c.saturating_mul-blocks.result) greatest) (c.from-2.ensures ∙ ap (λ w. w.addr) c.widths.view_is);
      out_are = c.saturating_add-out.ensures ∙ ap (λ (s : RegionSizes). min (c.saturating_add-args.result + s.args) greatest) is;
      frame_are = c.saturating_add-frame.ensures ∙ ap (λ (s : RegionSizes). min (c.saturating_add-out.result + s.out) greatest) is;
      scratch_are = c.saturating_add-scratch.ensures ∙ ap (λ (s : RegionSizes). min (c.saturating_add-frame.result + s.frames) greatest) is;
      flags_are = c.saturating_add-flags.ensures ∙ ap (λ (s : RegionSizes). min (c.saturating_add-scratch.result + s.scratch) greatest) is;
      ladder_are = c.saturating_add-ladder.ensures ∙ ap (λ (s : RegionSizes). min (c.saturating_add-flags.result + s.flags) greatest) is;
      wires_are = c.saturating_add-wires.ensures ∙ ap (λ (s : RegionSizes). min (c.saturating_add-ladder.result + s.ladder) greatest) is;
    })
    c.if-too_many.true c.passed.ensures

pub returns : goal.returns
returns c =
    λ whole is.
    places c.args.widths whole
    (record {
      blocks_are = c.saturating_mul-blocks.ensures ∙ ap (λ n. min (n * c.args.sizes.block) greatest) (c.from.ensures ∙ c.block_count.ensures) ∙ ap (λ (s : RegionSizes). min (block_count c.args.widths * s.block) greatest) is;
      args_are = c.saturating_add-args.ensures ∙ ap (λ n. min (n + c.saturating_mul-blocks.result) greatest) (c.from-2.ensures ∙ ap (λ w. w.addr) c.widths.view_is);
      out_are = c.saturating_add-out.ensures ∙ ap (λ (s : RegionSizes). min (c.saturating_add-args.result + s.args) greatest) is;
      frame_are = c.saturating_add-frame.ensures ∙ ap (λ (s : RegionSizes). min (c.saturating_add-out.result + s.out) greatest) is;
      scratch_are = c.saturating_add-scratch.ensures ∙ ap (λ (s : RegionSizes). min (c.saturating_add-frame.result + s.frames) greatest) is;
      flags_are = c.saturating_add-flags.ensures ∙ ap (λ (s : RegionSizes). min (c.saturating_add-scratch.result + s.scratch) greatest) is;
      ladder_are = c.saturating_add-ladder.ensures ∙ ap (λ (s : RegionSizes). min (c.saturating_add-flags.result + s.flags) greatest) is;
      wires_are = c.saturating_add-wires.ensures ∙ ap (λ (s : RegionSizes). min (c.saturating_add-ladder.result + s.ladder) greatest) is;
    })
    (some_blocks c.args.widths (omega (arith, ap (λ w. w.addr) c.widths.view_is, c.widths.invariant.addr_from))) c.if-too_many.false (ap (λ (s : RegionSizes). s.block) is)
