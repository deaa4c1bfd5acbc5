use Rattle.std.proofs.Common.{subst}
use Rattle.std.proofs.lemmas.Result.{err_from_is_err_and}
use Rattle.tw_types.specs.FromCode.{value_of}
use Rattle.tw_state.specs.FromCode.{cell_of}
use Rattle.tw_state.specs.StateText.{HasTarget}
use Rattle.tw_state.proofs.Writing.{part_then, part_broke, free_parts, live_begun, live_parts}
use Rattle.tw_state.proofs.printing.write_cell.Goals as goal

pub written-requires : goal.written-requires
written-requires g c =
    record { known = subst (λ cell. HasTarget c.args.targets.now (cell_of cell)) c.in-Live.is c.requires.target }

pub returns-in_err-write_number-in-Free : goal.returns-in_err-write_number-in-Free
returns-in_err-write_number-in-Free g c =
    let p = err_from_is_err_and c.from_residual.result c.from_residual.ensures.1 in
    record { wrote = rw (p.1, p.2, c.in-Free.is) (part_broke _ _ _ _ _ _ _ _ (free_parts c.args.targets.now c.args.block c.in-Free.next) c.in_err-write_number-in-Free.ensures.wrote) }

pub returns-in_ok-write_number-in-Free : goal.returns-in_ok-write_number-in-Free
returns-in_ok-write_number-in-Free g c =
    record { wrote = rw (c.in-Free.is) (part_then _ _ _ _ _ _ _ _ _ (free_parts c.args.targets.now c.args.block c.in-Free.next) c.in_ok-write_number-in-Free.ensures.wrote (rw (c.from.ensures) at c.write_number-in-Free.ensures.wrote)) }

pub returns-in_err-write_number-in-Live : goal.returns-in_err-write_number-in-Live
returns-in_err-write_number-in-Live g c =
    let p = err_from_is_err_and c.from_residual-in_err-write_number-in-Live.result c.from_residual-in_err-write_number-in-Live.ensures.1 in
    record { wrote = rw (p.1, p.2, c.in-Live.is) (part_broke _ _ _ _ _ _ _ _ (live_begun c.args.targets.now c.args.block c.in-Live.target.0 (value_of c.in-Live.val)) c.in_err-write_number-in-Live.ensures.wrote) }

pub returns-in_ok-write_number-in-Live : goal.returns-in_ok-write_number-in-Live
returns-in_ok-write_number-in-Live g c =
    record {
      wrote = rw (c.in-Live.is)
          (part_then _ _ _ _ _ _ _ _ _ (live_parts c.args.targets.now c.args.block c.in-Live.target.0 (value_of c.in-Live.val) c.written.result.now c.written.ensures) c.in_ok-write_number-in-Live.ensures.wrote c.write_named.ensures.wrote);
    }
