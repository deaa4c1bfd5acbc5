use Rattle.std.proofs.Common.{sym, ap, subst₂, arith, length, map}
use Rattle.std.specs.List.{AllByRecursion}
use Rattle.std.proofs.lemmas.List.{length-map}
use Rattle.std.proofs.lemmas.Result.{err_from_is_err_and}
use Rattle.tw_io.proofs.Devices.{wrote_then, wrote_prefix}
use Rattle.tw_syntax.specs.Programs.{fun_tree}
use Rattle.tw_types.specs.FromCode.{value_of}
use Rattle.tw_resolve.specs.Resolved.{resolved_setting}
use Rattle.tw_state.specs.FromCode.{cell_of, listed_of}
use Rattle.tw_state.specs.StateText.{HasTarget}
use Rattle.tw_state.proofs.EntryEncodings.{targets_are}
use Rattle.tw_state.proofs.Writing.{part_then, part_broke, side_shorter, state_parts}
use Rattle.tw_state.proofs.printing.print_state.Goals as goal

pub write_cells-requires : goal.write_cells-requires
write_cells-requires g c =
    let targets = c.targets-targets.result.now in
    let printable = c.requires.printable (fun_tree c.fun_at-fun.result.now) c.fun_at-fun.ensures in
    let same = sym (targets_are (resolved_setting c.args.checked.now.resolved) targets c.targets-targets.ensures) in
    record { targets = subst₂ (λ ts cells. AllByRecursion (HasTarget ts) (map cell_of cells)) same (sym c.deref.ensures.value) printable.each_cell }

pub write_values-requires : goal.write_values-requires
write_values-requires g c =
    let fun = fun_tree c.fun_at-fun.result.now in
    let counted = (c.requires.printable fun c.fun_at-fun.ensures).counted in
    record { counted = omega (arith, length-map c.args.state.now.store.items value_of, ap length c.deref-2.ensures.value, counted, side_shorter c.args.side fun) }

pub returns-in_err-write_number : goal.returns-in_err-write_number
returns-in_err-write_number g c =
    let p = err_from_is_err_and c.from_residual.result c.from_residual.ensures.1 in
    let setting = resolved_setting c.args.checked.now.resolved in
    let fun = fun_tree c.fun_at-fun.result.now in
    let listed = listed_of c.args.state.now in
    let counted = (c.requires.printable fun c.fun_at-fun.ensures).counted in
    let parts = state_parts setting c.args.side fun listed c.targets-targets.result.now c.targets-targets.ensures counted in
    let head = rw (c.from.ensures) at c.in_err-write_number.ensures.wrote in
    record { wrote = (fun, c.fun_at-fun.ensures, rw (p.1, p.2) (part_broke _ _ _ _ _ _ _ _ parts head)) }

pub returns-in_err-write_cells : goal.returns-in_err-write_cells
returns-in_err-write_cells g c =
    let p = err_from_is_err_and c.from_residual-in_err-write_cells.result c.from_residual-in_err-write_cells.ensures.1 in
    let setting = resolved_setting c.args.checked.now.resolved in
    let fun = fun_tree c.fun_at-fun.result.now in
    let listed = listed_of c.args.state.now in
    let targets = c.targets-targets.result.now in
    let counted = (c.requires.printable fun c.fun_at-fun.ensures).counted in
    let parts = state_parts setting c.args.side fun listed targets c.targets-targets.ensures counted in
    let head = rw (c.from.ensures) at c.in_ok-write_number.ensures.wrote in
    let cells = rw (c.deref.ensures.value) at c.in_err-write_cells.ensures.wrote in
    record { wrote = (fun, c.fun_at-fun.ensures, rw (p.1, p.2) (part_then _ _ _ _ _ _ _ _ _ parts head (wrote_prefix _ _ _ _ _ _ _ cells))) }

pub returns : goal.returns
returns g c =
    let setting = resolved_setting c.args.checked.now.resolved in
    let fun = fun_tree c.fun_at-fun.result.now in
    let listed = listed_of c.args.state.now in
    let targets = c.targets-targets.result.now in
    let counted = (c.requires.printable fun c.fun_at-fun.ensures).counted in
    let parts = state_parts setting c.args.side fun listed targets c.targets-targets.ensures counted in
    let head = rw (c.from.ensures) at c.in_ok-write_number.ensures.wrote in
    let cells = rw (c.deref.ensures.value) at c.in_ok-write_cells.ensures.wrote in
    let values = rw (c.deref-2.ensures.value) at c.write_values.ensures.wrote in
    record { wrote = (fun, c.fun_at-fun.ensures, part_then _ _ _ _ _ _ _ _ _ parts head (wrote_then _ _ _ _ _ _ _ _ cells values)) }
