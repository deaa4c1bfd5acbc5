use Rattle.std.proofs.Common.{◌≡◌, ◌∙◌, ◌≤◌, ◌<◌, ◌^◌, arith, sym, ap, subst, [], length, drop, option_map}
use Rattle.std.proofs.lemmas.List.{at_drop_more, at_drop_all}
use Rattle.std.proofs.lemmas.Option.{slice_get-get_or}
use Rattle.tw_types.specs.Types.{Target, UnitTy, block_size, size}
use Rattle.tw_resolve.specs.Setting.{reported}
use Rattle.tw_state.proofs.Basics.{some_value}
use Rattle.tw_frames.proofs.Counting.{max_first, max_next, max_end}
use Rattle.tw_frames.proofs.sizes.bits_of_block.Goals as goal

abbrev other : Target
other = record { written = []; ty = UnitTy }

pub loop-number-init : goal.loop-number-init
loop-number-init c = max_first (block_size c.args.widths c.args.targets.now)

pub loop-number-preserved : goal.loop-number-preserved
loop-number-preserved c =
    let targets = c.args.targets.now in
    let within : c.loop-number.number < length targets = subst (λ n. c.loop-number.number < n) c.len-number-end.ensures.count c.loop-number-test.true in
    let found = slice_get-get_or targets c.loop-number.number other within in
    max_next _ _ c.loop-number.invariant (at_drop_more (block_size c.args.widths) targets c.loop-number.number other within)
    (c.bits_of.ensures ∙ ap (λ ty. reported (size c.args.widths ty)) (some_value (sym c.ty.ensures ∙ ap (option_map (λ (target : Target). target.ty)) found)))
    c.max-most.ensures

pub returns : goal.returns
returns c =
    let past = subst (λ n. n ≤ c.loop-number.number) c.len-number-end.ensures.count c.loop-number-test.false in
    let rest : block_size c.args.widths (drop c.loop-number.number c.args.targets.now) ≡ c.args.widths.addr = at_drop_all (block_size c.args.widths) c.args.targets.now c.loop-number.number past in
    let addr : c.widths.inside.addr ≡ c.args.widths.addr = ap (λ w. w.addr) c.widths.view_is in
    let last = c.from.ensures in
    let small : c.from.result < 2 ^ 64 = c.from.type_inv in
    let most = c.max.ensures in
    max_end c.loop-number.invariant (omega (arith, rest, addr, last, small)) (omega (arith, rest, addr, last, most))
