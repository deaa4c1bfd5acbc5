-- What a command did, by the calls that it made.
use Rattle.std.proofs.Common.{◌≡◌, sym, subst, ℕ, ◌⊎◌, inl, inr, List, Option, Result, Ok, Err, refl}
use Rattle.std.specs.Result.{IsErrAnd}
use Rattle.tw_io.specs.Devices.{Wrote}
use Rattle.tw_io.specs.declared.device.WriteFault.{WriteFault}
use Rattle.tw_text.specs.declared.refusal.Refusal.{Refusal}
use Rattle.tw_text.specs.declared.refusal.Fault.{Fault}
use Rattle.tw_text.specs.declared.refusal.Fault.TheVariants as source_fault
use Rattle.tw_syntax.specs.Programs.{ProgramTree}
use Rattle.tw_parse.specs.Sources.{IsRefused}
use Rattle.tw_gatetext.specs.declared.file.GateFault.{GateFault}
use Rattle.tw_gatetext.specs.declared.file.GateFault.TheVariants as gate_fault
use Rattle.tw_gatetext.specs.Text.{File}
use Rattle.tw_gatetext.specs.Refused.{IsRefusedText}
use Rattle.tw_sim.specs.declared.lines.LinesFault.{LinesFault}
use Rattle.tw_sim.specs.declared.lines.LinesFault.TheVariants as lines_fault
use Rattle.tw_sim.specs.BitLines.{AreRefused}
use Rattle.tower.specs.declared.status.Status.TheVariants as status
use Rattle.tower.specs.declared.ending.Unanswered.{Unanswered}
use Rattle.tower.specs.declared.ending.Unanswered.TheVariants as unanswered
use Rattle.tower.specs.Outcomes.{Outcome, Prints, Refuses}
use Rattle.tower.specs.Sources.{SourceAnswer, NoProgram}
use Rattle.tower.specs.GateInputs.{GatesAnswer, WrongLine, PastLimit}
use Rattle.tower.specs.Simulate as simulate
use Rattle.tower.specs.Simulate.{LinesAnswer}
use Rattle.tower.specs.Ending.{of_source, of_gates, of_lines, Did, Printed}

module _ {K : Type 0} (taken : K → Option (List ℕ)) (faults : K → ℕ) where
  -- a command that gave this error did what belongs to it
  pub as_error : (old new : K) (result : Result (Unit {0}) Unanswered) (error : Unanswered) (IsAnswer : Outcome → Type 0) → IsErrAnd result (λ e. e ≡ error) → Did taken faults old new (Err error) IsAnswer → Did taken faults old new result IsAnswer
  as_error old new (Ok done) error IsAnswer is did = absurd is
  as_error old new (Err e) error IsAnswer is did = subst (λ (u : Unanswered). Did taken faults old new (Err u) IsAnswer) (sym is) did

  pub did_source : (at : K) (bytes : List ℕ) (OnProgram : ProgramTree → Outcome → Type 0) (fault : Fault) (result : Result (Unit {0}) Unanswered) → IsErrAnd result (λ e. e ≡ of_source fault) →
      ((refusal : Refusal) → fault ≡ source_fault.Refused refusal → IsRefused bytes refusal) → Did taken faults at at result (SourceAnswer bytes OnProgram)
  did_source at bytes OnProgram (source_fault.Refused refusal) result is refused = as_error at at result _ (SourceAnswer bytes OnProgram) is (NoProgram refusal (refused refusal refl) refl, refl)
  did_source at bytes OnProgram source_fault.Memory result is refused = as_error at at result _ (SourceAnswer bytes OnProgram) is refl

  pub did_gates : (at : K) (bytes : List ℕ) (OnFile : File → List ℕ → Outcome → Type 0) (fault : GateFault) (result : Result (Unit {0}) Unanswered) → IsErrAnd result (λ e. e ≡ of_gates fault) →
      (fault ≡ gate_fault.Memory) ⊎ IsRefusedText bytes fault → Did taken faults at at result (GatesAnswer bytes OnFile)
  did_gates at bytes OnFile (gate_fault.BadGateText line) result is (inr refused) = as_error at at result _ (GatesAnswer bytes OnFile) is (WrongLine line refused refl, refl)
  did_gates at bytes OnFile (gate_fault.Over refusal) result is (inr refused) = as_error at at result _ (GatesAnswer bytes OnFile) is (PastLimit refusal refused refl, refl)
  did_gates at bytes OnFile gate_fault.Memory result is refused = as_error at at result _ (GatesAnswer bytes OnFile) is refl
  did_gates at bytes OnFile (gate_fault.BadGateText line) result is (inl memory) = cc
  did_gates at bytes OnFile (gate_fault.Over refusal) result is (inl memory) = cc

  pub did_lines : (at : K) (file : File) (lines : List ℕ) (fault : LinesFault) (result : Result (Unit {0}) Unanswered) → IsErrAnd result (λ e. e ≡ of_lines fault) →
      (fault ≡ lines_fault.Memory) ⊎ AreRefused file.wires lines fault → Did taken faults at at result (LinesAnswer file lines)
  did_lines at file lines (lines_fault.BitsLength line) result is (inr refused) = as_error at at result _ (LinesAnswer file lines) is (simulate.WrongLine line refused refl, refl)
  did_lines at file lines (lines_fault.Over refusal) result is (inr refused) = as_error at at result _ (LinesAnswer file lines) is (simulate.PastLimit refusal refused refl, refl)
  did_lines at file lines lines_fault.Memory result is refused = as_error at at result _ (LinesAnswer file lines) is refl
  did_lines at file lines (lines_fault.BitsLength line) result is (inl memory) = cc
  did_lines at file lines (lines_fault.Over refusal) result is (inl memory) = cc

  -- a text that answers was written, in whole or in part
  pub did_break : (old new : K) (text : List ℕ) (fault : WriteFault) (result : Result (Unit {0}) Unanswered) (IsAnswer : Outcome → Type 0) → IsErrAnd result (λ e. e ≡ unanswered.WriteFault) → IsAnswer (Prints text) →
      Wrote taken faults old new (Err fault) text → Did taken faults old new result IsAnswer
  did_break old new text fault result IsAnswer is answer wrote = as_error old new result unanswered.WriteFault IsAnswer is (record { outcome = Prints text; answer = answer; took = wrote.broken; cause = wrote.cause })

  pub did_print : (old new : K) (text : List ℕ) (done : Unit {0}) (IsAnswer : Outcome → Type 0) → IsAnswer (Prints text) → Wrote taken faults old new (Ok done) text → Printed taken faults old new status.Ok IsAnswer
  did_print old new text done IsAnswer answer wrote = record { outcome = Prints text; answer = answer; status = refl; took = wrote.whole; steady = wrote.steady }

  -- an answer to a part of the input is an answer to the input
  pub did_as : {IsAnswer IsWhole : Outcome → Type 0} (old new : K) (result : Result (Unit {0}) Unanswered) → ((outcome : Outcome) → IsAnswer outcome → IsWhole outcome) → Did taken faults old new result IsAnswer → Did taken faults old new result IsWhole
  did_as old new (Ok done) whole did = record { outcome = did.outcome; answer = whole did.outcome did.answer; status = did.status; took = did.took; steady = did.steady }
  did_as old new (Err unanswered.Stuck) whole did = record { outcome = did.outcome; answer = whole did.outcome did.answer; status = did.status; took = did.took; steady = did.steady }
  did_as old new (Err (unanswered.Refused why)) whole did = (whole (Refuses why) did.0, did.1)
  did_as old new (Err unanswered.Memory) whole did = did
  did_as old new (Err unanswered.WriteFault) whole did = record { outcome = did.outcome; answer = whole did.outcome did.answer; took = did.took; cause = did.cause }
