use Rattle.std.proofs.lemmas.Result.{err_from_is_err_and}
use Rattle.tw_io.proofs.Devices.{wrote_then, wrote_prefix}
use Rattle.tw_state.proofs.printing.write_number.Goals as goal

pub returns-in_err-write_all : goal.returns-in_err-write_all
returns-in_err-write_all g c =
    let p = err_from_is_err_and c.from_residual.result c.from_residual.ensures.1 in
    record { wrote = rw (p.1, p.2, ← c.as_bytes.ensures.value) (wrote_prefix _ _ _ _ _ _ _ c.in_err-write_all.ensures.wrote) }

pub returns-in_err-write_decimal : goal.returns-in_err-write_decimal
returns-in_err-write_decimal g c =
    let p = err_from_is_err_and c.from_residual-in_err-write_decimal.result c.from_residual-in_err-write_decimal.ensures.1 in
    record { wrote = rw (p.1, p.2, ← c.as_bytes.ensures.value) (wrote_then _ _ _ _ _ _ _ _ c.in_ok-write_all.ensures.wrote (wrote_prefix _ _ _ _ _ _ _ c.in_err-write_decimal.ensures.wrote)) }

pub returns : goal.returns
returns g c =
    record { wrote = rw (← c.as_bytes.ensures.value, ← c.as_bytes-2.ensures.value) (wrote_then _ _ _ _ _ _ _ _ c.in_ok-write_all.ensures.wrote (wrote_then _ _ _ _ _ _ _ _ c.in_ok-write_decimal.ensures.wrote c.write_all-2.ensures.wrote)) }
