use Rattle.std.proofs.Common.{subst, ap, arith, refl, true, ℕ, length, List}
use Rattle.tw_syntax.specs.Programs.{program_tree}
use Rattle.tower.specs.Given.{file_request}
use Rattle.tower.specs.Sources.{SourceAnswer, OnTree}
use Rattle.tower.specs.Encode.{EncodeAnswer, NoCircuit}
use Rattle.tower.specs.Ending.{Did}
use Rattle.tower.proofs.Accepting.{did_refuse}
use Rattle.tower.proofs.Answering.{by_states}
use Rattle.tower.proofs.Doing.{did_as}
use Rattle.tower.proofs.Running.{parted-shorter}
use Rattle.tower.proofs.encode.encode.Goals as goal

pub priced_entry-requires : goal.priced_entry-requires
priced_entry-requires g c = omega (arith, ap (λ (p : List ℕ × List ℕ). length p.0) c.split_at_mark.ensures, (parted-shorter true c.args.bytes.now).0, c.requires)

pub returns-in_err-found : goal.returns-in_err-found
returns-in_err-found g c =
    let request = file_request c.args.options.now in
    subst (λ (p : List ℕ × List ℕ). Did g.K.Sink.taken g.K.Sink.faults c.args.output.now c.args.output.now c.from_residual.result (SourceAnswer p.0 (EncodeAnswer request p.1))) c.split_at_mark.ensures
    (did_refuse g.K.Sink.taken g.K.Sink.faults request c.split_at_mark.result.0.now (EncodeAnswer request c.split_at_mark.result.1.now) (λ tree why refused. NoCircuit why refused refl) c.args.output.now c.in_err-found.field-0.0
    c.from_residual.result c.from_residual.ensures.1 c.in_err-found.ensures.refused)

pub encode_states-requires-clause-priced : goal.encode_states-requires-clause-priced
encode_states-requires-clause-priced g c = c.in_ok-found.ensures.priced.within_limits

pub encode_states-requires-clause-within : goal.encode_states-requires-clause-within
encode_states-requires-clause-within g c = omega (arith, ap (λ (p : List ℕ × List ℕ). length p.1) c.split_at_mark.ensures, (parted-shorter true c.args.bytes.now).1, c.requires)

pub returns : goal.returns
returns g c =
    let request = file_request c.args.options.now in
    let found = c.in_ok-found.found in
    let is = c.in_ok-found.ensures.priced in
    subst (λ (p : List ℕ × List ℕ). Did g.K.Sink.taken g.K.Sink.faults c.args.output.now c.encode_states.new.output c.encode_states.result (SourceAnswer p.0 (EncodeAnswer request p.1))) c.split_at_mark.ensures
    (did_as g.K.Sink.taken g.K.Sink.faults _ _ c.encode_states.result
    (λ outcome answer.
    OnTree (program_tree found.checked.resolved.program.now) is.source
    (by_states request c.split_at_mark.result.0.now found.checked found.entry found.priced is c.split_at_mark.result.1.now outcome answer))
    (c.encode_states.ensures is.is_entry.is_entry.fun is.is_entry.is_entry.at))
