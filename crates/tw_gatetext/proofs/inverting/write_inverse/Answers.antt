use Rattle.std.proofs.lemmas.Result.{err_from_is_err_and}
use Rattle.tw_io.proofs.Devices.{wrote_then, wrote_prefix}
use Rattle.tw_gatetext.proofs.InverseFiles.{inverse_text, small_file}
use Rattle.tw_gatetext.proofs.inverting.write_inverse.Goals as goal

pub returns-in_err-write_all : goal.returns-in_err-write_all
returns-in_err-write_all g c =
    let p = err_from_is_err_and c.from_residual.result c.from_residual.ensures.1 in
    record { wrote = λ file valid is. rw (p.1, p.2, inverse_text c.args.text.now file is) (wrote_prefix _ _ _ _ _ _ _ c.in_err-write_all.ensures.wrote) }

pub returns-in_err-write_reversed : goal.returns-in_err-write_reversed
returns-in_err-write_reversed g c =
    let p = err_from_is_err_and c.from_residual-in_err-write_reversed.result c.from_residual-in_err-write_reversed.ensures.1 in
    record {
      wrote = λ file valid is.
          rw (p.1, p.2, inverse_text c.args.text.now file is)
          (wrote_then _ _ _ _ _ _ _ _ c.in_ok-write_all.ensures.wrote (wrote_prefix _ _ _ _ _ _ _ (c.in_err-write_reversed.ensures.wrote file.gates (small_file file valid) is.lines)));
    }

pub returns : goal.returns
returns g c = record {
  wrote = λ file valid is.
      rw (inverse_text c.args.text.now file is)
      (wrote_then _ _ _ _ _ _ _ _ c.in_ok-write_all.ensures.wrote
      (wrote_then _ _ _ _ _ _ _ _ (c.in_ok-write_reversed.ensures.wrote file.gates (small_file file valid) is.lines) c.write_end.ensures.wrote));
}
