use Rattle.std.proofs.Common.{◌∙◌, ◌≡◌, ◌+◌, sym, ap, arith, max, drop}
use Rattle.tw_types.specs.Types.{block_size}
use Rattle.tw_types.specs.FromCode.{ty_of}
use Rattle.tw_state.proofs.CellBits.{one_target_more, greatest_first}
use Rattle.tw_state.proofs.Sizes.{size-le-block_size}
use Rattle.tw_state.proofs.encoding.block_bits.Goals as goal

pub loop-number-init : goal.loop-number-init
loop-number-init c =
    let widths = c.args.widths in
    let targets = c.args.targets.now in
    record {
      rest = ap (λ n. max n (block_size widths targets)) c.bit_count-most.ensures ∙ greatest_first widths targets;
      least = let first : c.bit_count-most.result ≡ widths.addr = c.bit_count-most.ensures in omega (arith, first);
    }

pub bit_count-requires : goal.bit_count-requires
bit_count-requires c =
    let room = size-le-block_size c.args.widths c.args.targets.now c.loop-number.number (ty_of c.ty.result) c.ty.ensures in
    let whole = c.requires in
    omega (arith, room, whole)

pub loop-number-preserved : goal.loop-number-preserved
loop-number-preserved c =
    let widths = c.args.widths in
    let targets = c.args.targets.now in
    let so = c.loop-number.invariant in
    let step = one_target_more widths targets c.loop-number.number c.loop-number.most (ty_of c.ty.result) c.ty.ensures in
    let greatest = c.max-most.ensures ∙ ap (max c.loop-number.most) c.bit_count.ensures in
    record {
      rest = ap (λ n. max n (block_size widths (drop (c.loop-number.number + 1) targets))) greatest ∙ sym step ∙ so.rest;
      least = let least = so.least in omega (arith, least, greatest);
    }
