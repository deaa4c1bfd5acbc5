use Rattle.std.proofs.Common.{◌≡◌, ◌∙◌, sym, ◌⊎◌, Err}
use Rattle.std.proofs.lemmas.Result.{err_from_is_err_and}
use Rattle.tw_gatetext.specs.declared.file.GateFault.{GateFault}
use Rattle.tw_gatetext.specs.declared.file.GateFault.TheVariants as fault
use Rattle.tw_gatetext.specs.Files.{plain_file}
use Rattle.tw_gatetext.specs.Refused.{IsRefusedText}
use Rattle.tw_gatetext.proofs.Refusals.{no_file}
use Rattle.tw_gatetext.proofs.Beginnings.{one_file, shorter, size, dropped, stopped-no_file, stopped-one}
use Rattle.tw_gatetext.proofs.reading.read_gates.Goals as goal

-- the result of a `?` that returns early
stopped : (c : goal.After-from_residual) (why : GateFault) → c.from_residual.result ≡ Err why → (why ≡ fault.Memory) ⊎ IsRefusedText c.args.bytes.now why
stopped c why is =
    let p = err_from_is_err_and c.from_residual.result c.from_residual.ensures.1 in
    let e : Err why ≡ Err p.0 = sym is ∙ p.1 in
    let same : why ≡ p.0 = cc in
    rw (same, p.2) c.in_err-file.ensures.refused

pub returns-in_err-file-clause-refused : goal.returns-in_err-file-clause-refused
returns-in_err-file-clause-refused c = stopped c

pub returns-in_err-file-clause-no_file : goal.returns-in_err-file-clause-no_file
returns-in_err-file-clause-no_file c = λ why is. stopped-no_file c.args.bytes.now why (stopped c why is)

pub returns-in_err-file-clause-one_refusal : goal.returns-in_err-file-clause-one_refusal
returns-in_err-file-clause-one_refusal c = λ why is. stopped-one c.args.bytes.now why (stopped c why is)

pub overflow_sub-result : goal.overflow_sub-result
overflow_sub-result c = shorter c.args.bytes.now (plain_file c.in_ok-file.file) c.in_ok-file.rest.now c.in_ok-file.ensures.file

pub returns-clause-file : goal.returns-clause-file
returns-clause-file c = dropped c.args.bytes.now (plain_file c.in_ok-file.file) c.in_ok-file.rest.now c.in_ok-file.ensures.file

pub returns-clause-size : goal.returns-clause-size
returns-clause-size c = size c.args.bytes.now (plain_file c.in_ok-file.file) c.in_ok-file.rest.now c.in_ok-file.ensures.file

pub returns-clause-only : goal.returns-clause-only
returns-clause-only c = λ other rest begins. one_file c.args.bytes.now (plain_file c.in_ok-file.file) other c.in_ok-file.rest.now rest c.in_ok-file.ensures.file begins

pub returns-clause-accepted : goal.returns-clause-accepted
returns-clause-accepted c = λ why refused. no_file c.args.bytes.now why (plain_file c.in_ok-file.file) c.in_ok-file.rest.now refused c.in_ok-file.ensures.file
