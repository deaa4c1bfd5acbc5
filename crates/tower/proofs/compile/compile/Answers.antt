use Rattle.std.proofs.Common.{refl}
use Rattle.tw_syntax.specs.Programs.{program_tree}
use Rattle.tw_gatetext.specs.Text.{file_text}
use Rattle.tw_gatetext.specs.Files.{plain_file}
use Rattle.tower.specs.Given.{file_request}
use Rattle.tower.specs.Sources.{SourceAnswer, OnTree}
use Rattle.tower.specs.Compile.{CompileAnswer, NoCircuit}
use Rattle.tower.proofs.Answering.{by_file}
use Rattle.tower.proofs.Doing.{as_error, did_break, did_print}
use Rattle.tower.proofs.Accepting.{did_refuse}
use Rattle.tower.proofs.compile.compile.Goals as goal

pub file_of-requires : goal.file_of-requires
file_of-requires g c = c.in_ok-found.ensures.priced.within_limits

pub returns-in_err-found : goal.returns-in_err-found
returns-in_err-found g c =
    let request = file_request c.args.options.now in
    did_refuse g.K.Sink.taken g.K.Sink.faults request c.args.bytes.now (CompileAnswer request) (λ tree why refused. NoCircuit why refused refl) c.args.output.now c.in_err-found.field-0.0 c.from_residual.result c.from_residual.ensures.1
    c.in_err-found.ensures.refused

pub returns-in_err-file : goal.returns-in_err-file
returns-in_err-file g c =
    as_error g.K.Sink.taken g.K.Sink.faults c.args.output.now c.args.output.now c.from_residual-in_err-file.result _ (SourceAnswer c.args.bytes.now (CompileAnswer (file_request c.args.options.now))) c.from_residual-in_err-file.ensures.1 refl

pub returns-in_err-write_gate_file : goal.returns-in_err-write_gate_file
returns-in_err-write_gate_file g c =
    let found = c.in_ok-found.found in
    did_break g.K.Sink.taken g.K.Sink.faults _ _ (file_text (plain_file c.in_ok-file.file)) _ c.from_residual-in_err-write_gate_file.result _ c.from_residual-in_err-write_gate_file.ensures.1
    (OnTree (program_tree found.checked.resolved.program.now) c.in_ok-found.ensures.priced.source
    (by_file (file_request c.args.options.now) c.args.bytes.now found.checked found.entry found.priced c.in_ok-found.ensures.priced (plain_file c.in_ok-file.file) c.in_ok-file.ensures.file)) c.in_err-write_gate_file.ensures.wrote

pub returns : goal.returns
returns g c =
    let found = c.in_ok-found.found in
    did_print g.K.Sink.taken g.K.Sink.faults _ _ (file_text (plain_file c.in_ok-file.file)) _ _
    (OnTree (program_tree found.checked.resolved.program.now) c.in_ok-found.ensures.priced.source
    (by_file (file_request c.args.options.now) c.args.bytes.now found.checked found.entry found.priced c.in_ok-found.ensures.priced (plain_file c.in_ok-file.file) c.in_ok-file.ensures.file)) c.in_ok-write_gate_file.ensures.wrote
