use Rattle.std.proofs.Common.{◌≡◌, sym, subst, ap, arith, refl, ℕ, true, length, List, None, Some}
use Rattle.tw_text.specs.declared.refusal.Fault.TheVariants as source_fault
use Rattle.tw_syntax.specs.Programs.{program_tree}
use Rattle.tw_resolve.specs.Demands.{first_broken, IsReported}
use Rattle.tw_resolve.specs.Resolved.{resolved_setting}
use Rattle.tw_frames.specs.Measures.{limit_rules}
use Rattle.tower.specs.Given.{file_request}
use Rattle.tower.specs.Marks.{parted}
use Rattle.tower.specs.Accepted.{IsReady, IsBadEntry}
use Rattle.tower.specs.Sources.{SourceAnswer, OnTree}
use Rattle.tower.specs.Ending.{Did}
use Rattle.tower.specs.Run.{RunAnswer, Broken, BadEntry, PastLimit}
use Rattle.tower.proofs.Doing.{as_error, did_as}
use Rattle.tower.proofs.Accepting.{did_accept}
use Rattle.tower.proofs.Running.{parted-shorter, by_entry, did_measure}
use Rattle.tower.proofs.run.run_program.Goals as goal

pub accept-requires : goal.accept-requires
accept-requires g c = omega (arith, ap (λ (p : List ℕ × List ℕ). length p.0) c.split_at_mark.ensures, (parted-shorter true c.args.bytes.now).0, c.requires)

pub returns-in_err-checked : goal.returns-in_err-checked
returns-in_err-checked g c =
    let request = file_request c.args.options.now in
    subst (λ (p : List ℕ × List ℕ). Did g.K.Sink.taken g.K.Sink.faults c.args.output.now c.args.output.now c.from_residual.result (SourceAnswer p.0 (RunAnswer request p.1))) c.split_at_mark.ensures
    (did_accept c.args.options.now.widths c.split_at_mark.result.0.now g.K.Sink.taken g.K.Sink.faults (RunAnswer request c.split_at_mark.result.1.now) (λ tree refusal broken. Broken refusal broken refl) c.args.output.now
    c.in_err-checked.field-0.0 c.from_residual.result c.from_residual.ensures.1 c.in_err-checked.ensures.refused)

pub returns-in_err-entry : goal.returns-in_err-entry
returns-in_err-entry g c =
    let request = file_request c.args.options.now in
    let tree = program_tree c.in_ok-checked.checked.resolved.program.now in
    let bad : IsBadEntry request tree c.in_err-entry.field-0.0 = record { accepted = c.in_ok-checked.ensures.accepted; broken = c.in_err-entry.ensures.refused } in
    subst (λ (p : List ℕ × List ℕ). Did g.K.Sink.taken g.K.Sink.faults c.args.output.now c.args.output.now c.from_residual-in_err-entry.result (SourceAnswer p.0 (RunAnswer request p.1))) c.split_at_mark.ensures
    (as_error g.K.Sink.taken g.K.Sink.faults c.args.output.now c.args.output.now c.from_residual-in_err-entry.result _ (SourceAnswer c.split_at_mark.result.0.now (RunAnswer request c.split_at_mark.result.1.now))
    c.from_residual-in_err-entry.ensures.1 (OnTree tree c.in_ok-checked.ensures.source (BadEntry c.in_err-entry.field-0.0 bad refl), refl))

pub returns-in_err-measure : goal.returns-in_err-measure
returns-in_err-measure g c =
    let request = file_request c.args.options.now in
    let checked = c.in_ok-checked.checked in
    let tree = program_tree checked.resolved.program.now in
    let ready : IsReady request tree = record { accepted = c.in_ok-checked.ensures.accepted; entry = c.in_ok-entry.ensures.kept } in
    let one = c.in_err-measure.ensures.one in
    let reported = (c.in_err-measure.ensures.tried one.measured one.is).reported in
    subst (λ (p : List ℕ × List ℕ). Did g.K.Sink.taken g.K.Sink.faults c.args.output.now c.args.output.now c.from_residual-in_err-measure.result (SourceAnswer p.0 (RunAnswer request p.1))) c.split_at_mark.ensures
    (did_measure g.K.Sink.taken g.K.Sink.faults c.args.output.now c.in_err-measure.field-0.0 c.from_residual-in_err-measure.result (SourceAnswer c.split_at_mark.result.0.now (RunAnswer request c.split_at_mark.result.1.now))
    c.from_residual-in_err-measure.ensures.1
    (λ refusal is.
    OnTree tree c.in_ok-checked.ensures.source
    (by_entry checked request c.in_ok-checked.ensures.widths ready c.in_ok-entry.entry c.in_ok-entry.ensures.found one.measured one.is c.split_at_mark.result.1.now _
    (PastLimit refusal (subst (IsReported (first_broken (limit_rules one.measured))) is reported) refl))))

pub answer_states-requires-clause-within : goal.answer_states-requires-clause-within
answer_states-requires-clause-within g c = omega (arith, ap (λ (p : List ℕ × List ℕ). length p.1) c.split_at_mark.ensures, (parted-shorter true c.args.bytes.now).1, c.requires)

pub returns : goal.returns
returns g c =
    let request = file_request c.args.options.now in
    let checked = c.in_ok-checked.checked in
    let tree = program_tree checked.resolved.program.now in
    let ready : IsReady request tree = record { accepted = c.in_ok-checked.ensures.accepted; entry = c.in_ok-entry.ensures.kept } in
    let found = c.in_ok-entry.ensures.found in
    let measured = c.in_ok-measure.field-0 in
    let none = (c.in_ok-measure.ensures.tried measured c.in_ok-measure.ensures.measured).kept in
    subst (λ (p : List ℕ × List ℕ). Did g.K.Sink.taken g.K.Sink.faults c.args.output.now c.answer_states.new.output c.answer_states.result (SourceAnswer p.0 (RunAnswer request p.1))) c.split_at_mark.ensures
    (did_as g.K.Sink.taken g.K.Sink.faults _ _ c.answer_states.result
    (λ outcome is.
    OnTree tree c.in_ok-checked.ensures.source
    (by_entry checked request c.in_ok-checked.ensures.widths ready c.in_ok-entry.entry found measured c.in_ok-measure.ensures.measured c.split_at_mark.result.1.now outcome is))
    (c.answer_states.ensures found.is_entry.fun measured found.is_entry.at none))
