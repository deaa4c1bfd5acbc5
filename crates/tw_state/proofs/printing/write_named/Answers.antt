use Rattle.std.proofs.lemmas.Result.{err_from_is_err_and}
use Rattle.tw_io.proofs.Devices.{wrote_then, wrote_prefix}
use Rattle.tw_state.proofs.printing.write_named.Goals as goal

pub returns-in_err-write_all : goal.returns-in_err-write_all
returns-in_err-write_all g c =
    let p = err_from_is_err_and c.from_residual.result c.from_residual.ensures.1 in
    record { wrote = rw (p.1, p.2, ← c.as_bytes.ensures.value) (wrote_prefix _ _ _ _ _ _ _ c.in_err-write_all.ensures.wrote) }

pub returns-in_err-write_all-2 : goal.returns-in_err-write_all-2
returns-in_err-write_all-2 g c =
    let p = err_from_is_err_and c.from_residual-in_err-write_all-2.result c.from_residual-in_err-write_all-2.ensures.1 in
    record { wrote = rw (p.1, p.2, ← c.as_bytes.ensures.value) (wrote_then _ _ _ _ _ _ _ _ c.in_ok-write_all.ensures.wrote (wrote_prefix _ _ _ _ _ _ _ c.in_err-write_all-2.ensures.wrote)) }

pub returns-in_err-write_value : goal.returns-in_err-write_value
returns-in_err-write_value g c =
    let p = err_from_is_err_and c.from_residual-in_err-write_value.result c.from_residual-in_err-write_value.ensures.1 in
    record {
      wrote = rw (p.1, p.2, ← c.as_bytes.ensures.value)
          (wrote_then _ _ _ _ _ _ _ _ c.in_ok-write_all.ensures.wrote
          (wrote_then _ _ _ _ _ _ _ _ c.in_ok-write_all-2.ensures.wrote (wrote_prefix _ _ _ _ _ _ _ c.in_err-write_value.ensures.wrote)));
    }

pub returns : goal.returns
returns g c =
    record {
      wrote = rw (← c.as_bytes.ensures.value) (wrote_then _ _ _ _ _ _ _ _ c.in_ok-write_all.ensures.wrote
          (wrote_then _ _ _ _ _ _ _ _ c.in_ok-write_all-2.ensures.wrote
          (wrote_then _ _ _ _ _ _ _ _ c.in_ok-write_value.ensures.wrote c.write_all-3.ensures.wrote)));
    }
