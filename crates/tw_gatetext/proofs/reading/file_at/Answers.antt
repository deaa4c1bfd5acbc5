use Rattle.std.proofs.Common.{inr}
use Rattle.std.proofs.lemmas.Result.{err_from_is_err_and}
use Rattle.tw_gatetext.proofs.reading.file_at.Goals as goal

pub returns-in_err-header-clause-refused : goal.returns-in_err-header-clause-refused
returns-in_err-header-clause-refused c =
    let p = err_from_is_err_and c.from_residual.result c.from_residual.ensures.1 in rw (p.1, p.2) (inr c.in_err-header.ensures.refused)

pub returns-in_err-body-clause-refused : goal.returns-in_err-body-clause-refused
returns-in_err-body-clause-refused c =
    let p = err_from_is_err_and c.from_residual-in_err-body.result c.from_residual-in_err-body.ensures.1 in
    rw (p.1, p.2) (c.in_err-body.ensures.refused c.args.bytes.now c.in_ok-header.ensures.read)

pub returns-in_err-rest-clause-refused : goal.returns-in_err-rest-clause-refused
returns-in_err-rest-clause-refused c =
    let p = err_from_is_err_and c.from_residual-in_err-rest.result c.from_residual-in_err-rest.ensures.1 in
    let counted = c.in_ok-body.ensures.counted in
    rw (p.1, p.2) (inr (c.in_err-rest.ensures.refused c.args.bytes.now c.in_ok-body.body.gates (c.in_ok-body.ensures.read c.args.bytes.now c.in_ok-header.ensures.read) counted.0 counted.1))

pub returns-clause-file : goal.returns-clause-file
returns-clause-file c =
    let counted = c.in_ok-body.ensures.counted in
    c.in_ok-rest.ensures.file c.args.bytes.now c.in_ok-body.body.gates (c.in_ok-body.ensures.read c.args.bytes.now c.in_ok-header.ensures.read) counted.0 counted.1
