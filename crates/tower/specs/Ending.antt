-- What a command did to the sink, and how the call ends after it.
use Rattle.std.specs.Prelude.{◌≡◌, ◌≢◌, ℕ, ◌⊎◌, List, Option, Result, Ok, Err}
use Rattle.tw_io.specs.Devices.{Rose, Appends, AppendsPrefix}
use Rattle.tw_text.specs.declared.refusal.Fault.{Fault}
use Rattle.tw_text.specs.declared.refusal.Fault.TheVariants as source_fault
use Rattle.tw_text.specs.declared.diagnostic.Diagnostic.{Diagnostic}
use Rattle.tw_text.specs.declared.diagnostic.Diagnostic.TheVariants as diagnostic
use Rattle.tw_gatetext.specs.declared.file.GateFault.{GateFault}
use Rattle.tw_gatetext.specs.declared.file.GateFault.TheVariants as gate_fault
use Rattle.tw_sim.specs.declared.lines.LinesFault.{LinesFault}
use Rattle.tw_sim.specs.declared.lines.LinesFault.TheVariants as lines_fault
use Rattle.tw_sim.specs.BitLines.{too_many}
use Rattle.tw_state.specs.declared.state_fault.StateFault.{StateFault}
use Rattle.tw_state.specs.declared.state_fault.StateFault.TheVariants as state_fault
use Rattle.tower.specs.declared.status.Status.{Status}
use Rattle.tower.specs.declared.status.Status.TheVariants as status
use Rattle.tower.specs.declared.ending.Unanswered.{Unanswered}
use Rattle.tower.specs.declared.ending.Unanswered.TheVariants as unanswered
use Rattle.tw_text.specs.Refusals.{diagnostic_line}
use Rattle.tower.specs.Outcomes.{Outcome, Refuses, refusal_status, outcome_status, outcome_text}

-- why a command gives no text, from the error of the call that failed
abbrev pub of_source : Fault → Unanswered
of_source (source_fault.Refused refusal) = unanswered.Refused (diagnostic.Refused refusal)
of_source source_fault.Memory = unanswered.Memory

abbrev pub of_gates : GateFault → Unanswered
of_gates (gate_fault.BadGateText line) = unanswered.Refused (diagnostic.BadGateText line)
of_gates (gate_fault.Over refusal) = unanswered.Refused (diagnostic.Refused refusal)
of_gates gate_fault.Memory = unanswered.Memory

abbrev pub of_lines : LinesFault → Unanswered
of_lines (lines_fault.BitsLength line) = unanswered.Refused (diagnostic.BitsLength line)
of_lines (lines_fault.Over refusal) = unanswered.Refused (diagnostic.Refused refusal)
of_lines lines_fault.Memory = unanswered.Memory

abbrev pub of_states : StateFault → Unanswered
of_states (state_fault.BadState line why) = unanswered.Refused (diagnostic.BadState line why)
of_states state_fault.TooMany = unanswered.Refused (diagnostic.Refused too_many)
of_states state_fault.Memory = unanswered.Memory

-- a device's error counter rose if the call ended with this fault of the device, and is unchanged otherwise
pub record IsKept (fault : Status) (before now : ℕ) (ended : Status) : Type 0 where
  pub rose : ended ≡ fault → Rose before now
  pub kept : ended ≢ fault → now ≡ before

module _ {K : Type 0} (taken : K → Option (List ℕ)) (faults : K → ℕ) where
  -- the sink took the text of an answer that has this status
  pub record Printed (old new : K) (ended : Status) (IsAnswer : Outcome → Type 0) : Type 0 where
    pub outcome : Outcome
    pub answer : IsAnswer outcome
    pub status : outcome_status outcome ≡ ended
    pub took : Appends (taken old) (taken new) (outcome_text outcome)
    pub steady : faults new ≡ faults old

  -- the sink failed in the text of an answer, and took a prefix of it
  pub record Broke (old new : K) (IsAnswer : Outcome → Type 0) : Type 0 where
    pub outcome : Outcome
    pub answer : IsAnswer outcome
    pub took : AppendsPrefix (taken old) (taken new) (outcome_text outcome)
    pub cause : Rose (faults old) (faults new)

  -- What a command did. On Ok, and if a statement is stuck, the sink took the text of an answer. A refusal is an answer, and nothing is
  -- written yet. If memory ran out, nothing was written. At a device fault the sink took a prefix of the text of an answer.
  abbrev pub Did : K → K → Result (Unit {0}) Unanswered → (Outcome → Type 0) → Type 0
  Did old new (Ok done) IsAnswer = Printed old new status.Ok IsAnswer
  Did old new (Err unanswered.Stuck) IsAnswer = Printed old new status.Stuck IsAnswer
  Did old new (Err (unanswered.Refused why)) IsAnswer = IsAnswer (Refuses why) × (new ≡ old)
  Did old new (Err unanswered.Memory) IsAnswer = new ≡ old
  Did old new (Err unanswered.WriteFault) IsAnswer = Broke old new IsAnswer

  -- the sink took the line of a refusal, and the call ended with its status; or the sink failed
  pub record RefusedWhole (old new : K) (why : Diagnostic) (ended : Status) : Type 0 where
    pub status : ended ≡ refusal_status why
    pub took : Appends (taken old) (taken new) (diagnostic_line why)
    pub steady : faults new ≡ faults old

  pub record RefusedPrefix (old new : K) (why : Diagnostic) (ended : Status) : Type 0 where
    pub status : ended ≡ status.WriteFault
    pub took : AppendsPrefix (taken old) (taken new) (diagnostic_line why)
    pub cause : Rose (faults old) (faults new)

  abbrev pub Refused : K → K → Diagnostic → Status → Type 0
  Refused old new why ended = RefusedWhole old new why ended ⊎ RefusedPrefix old new why ended

  -- how a call ends after a command: the line of a refusal is written now; nothing else is
  abbrev pub Finished : K → K → Result (Unit {0}) Unanswered → Status → Type 0
  Finished old new (Ok done) ended = (ended ≡ status.Ok) × (new ≡ old)
  Finished old new (Err unanswered.Stuck) ended = (ended ≡ status.Stuck) × (new ≡ old)
  Finished old new (Err (unanswered.Refused why)) ended = Refused old new why ended
  Finished old new (Err unanswered.Memory) ended = (ended ≡ status.Memory) × (new ≡ old)
  Finished old new (Err unanswered.WriteFault) ended = (ended ≡ status.WriteFault) × (new ≡ old)
