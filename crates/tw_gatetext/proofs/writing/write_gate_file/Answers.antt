use Rattle.std.proofs.lemmas.Result.{err_from_is_err_and}
use Rattle.tw_io.proofs.Devices.{wrote_then, wrote_prefix}
use Rattle.tw_gatetext.proofs.Lists.{listed_file_text}
use Rattle.tw_gatetext.proofs.writing.write_gate_file.Goals as goal

pub returns-in_err-write_header : goal.returns-in_err-write_header
returns-in_err-write_header g c =
    let p = err_from_is_err_and c.from_residual.result c.from_residual.ensures.1 in
    record { wrote = rw (p.1, p.2, listed_file_text c.args.file.now _ c.len.ensures) (wrote_prefix _ _ _ _ _ _ _ c.in_err-write_header.ensures.wrote) }

pub returns-in_err-write_listed : goal.returns-in_err-write_listed
returns-in_err-write_listed g c =
    let p = err_from_is_err_and c.from_residual-in_err-write_listed.result c.from_residual-in_err-write_listed.ensures.1 in
    record {
      wrote = rw (p.1, p.2, listed_file_text c.args.file.now _ c.len.ensures)
          (wrote_then _ _ _ _ _ _ _ _ c.in_ok-write_header.ensures.wrote (wrote_prefix _ _ _ _ _ _ _ c.in_err-write_listed.ensures.wrote));
    }

pub returns : goal.returns
returns g c =
    record {
      wrote = rw (listed_file_text c.args.file.now _ c.len.ensures)
          (wrote_then _ _ _ _ _ _ _ _ c.in_ok-write_header.ensures.wrote
          (wrote_then _ _ _ _ _ _ _ _ c.in_ok-write_listed.ensures.wrote c.write_end.ensures.wrote));
    }
