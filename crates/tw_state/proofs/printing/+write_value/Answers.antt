use Rattle.std.proofs.lemmas.Result.{err_from_is_err_and}
use Rattle.tw_io.proofs.Devices.{wrote_then, wrote_prefix}
use Rattle.tw_state.proofs.printing.+write_value.Goals as goal

pub returns-in_err-write_all-in-Pair : goal.returns-in_err-write_all-in-Pair
returns-in_err-write_all-in-Pair g t c =
    let p = err_from_is_err_and c.from_residual.result c.from_residual.ensures.1 in
    record { wrote = rw (p.1, p.2, c.in-Pair.is) (wrote_prefix _ _ _ _ _ _ _ c.in_err-write_all-in-Pair.ensures.wrote) }

pub returns-in_err-write_value-in-Pair : goal.returns-in_err-write_value-in-Pair
returns-in_err-write_value-in-Pair g t c =
    let p = err_from_is_err_and c.from_residual-in_err-write_value-in-Pair.result c.from_residual-in_err-write_value-in-Pair.ensures.1 in
    record {
      wrote = rw (p.1, p.2, c.in-Pair.is, ← c.deref.ensures)
          (wrote_then _ _ _ _ _ _ _ _ c.in_ok-write_all-in-Pair.ensures.wrote (wrote_prefix _ _ _ _ _ _ _ c.in_err-write_value-in-Pair.ensures.wrote));
    }

pub returns-in_err-write_all-in-Pair-2 : goal.returns-in_err-write_all-in-Pair-2
returns-in_err-write_all-in-Pair-2 g t c =
    let p = err_from_is_err_and c.from_residual-in_err-write_all-in-Pair-2.result c.from_residual-in_err-write_all-in-Pair-2.ensures.1 in
    record {
      wrote = rw (p.1, p.2, c.in-Pair.is, ← c.deref.ensures)
          (wrote_then _ _ _ _ _ _ _ _ c.in_ok-write_all-in-Pair.ensures.wrote
          (wrote_then _ _ _ _ _ _ _ _ c.in_ok-write_value-in-Pair.ensures.wrote (wrote_prefix _ _ _ _ _ _ _ c.in_err-write_all-in-Pair-2.ensures.wrote)));
    }

pub returns-in_err-write_value-in-Pair-2 : goal.returns-in_err-write_value-in-Pair-2
returns-in_err-write_value-in-Pair-2 g t c =
    let p = err_from_is_err_and c.from_residual-in_err-write_value-in-Pair-2.result c.from_residual-in_err-write_value-in-Pair-2.ensures.1 in
    record {
      wrote = rw (p.1, p.2, c.in-Pair.is, ← c.deref.ensures, ← c.deref-in-Pair.ensures)
          (wrote_then _ _ _ _ _ _ _ _ c.in_ok-write_all-in-Pair.ensures.wrote
          (wrote_then _ _ _ _ _ _ _ _ c.in_ok-write_value-in-Pair.ensures.wrote
          (wrote_then _ _ _ _ _ _ _ _ c.in_ok-write_all-in-Pair-2.ensures.wrote (wrote_prefix _ _ _ _ _ _ _ c.in_err-write_value-in-Pair-2.ensures.wrote))));
    }

pub returns-in_ok-write_value-in-Pair-2 : goal.returns-in_ok-write_value-in-Pair-2
returns-in_ok-write_value-in-Pair-2 g t c =
    record {
      wrote = rw (c.in-Pair.is, ← c.deref.ensures, ← c.deref-in-Pair.ensures)
          (wrote_then _ _ _ _ _ _ _ _ c.in_ok-write_all-in-Pair.ensures.wrote
          (wrote_then _ _ _ _ _ _ _ _ c.in_ok-write_value-in-Pair.ensures.wrote
          (wrote_then _ _ _ _ _ _ _ _ c.in_ok-write_all-in-Pair-2.ensures.wrote
          (wrote_then _ _ _ _ _ _ _ _ c.in_ok-write_value-in-Pair-2.ensures.wrote c.write_all-in-Pair-3.ensures.wrote))));
    }
