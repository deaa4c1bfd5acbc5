-- The one answer that arguments and an input have, and what a call did compared with it.
use Rattle.std.specs.Prelude.{◌≡◌, ◌⊎◌, ℕ, ◌+◌, ◌<◌, ◌≤◌, true, List, [], length, Option, IfSome}
use Rattle.tw_io.specs.Devices.{Appends, AppendsPrefix}
use Rattle.tw_text.specs.declared.refusal.Counted.TheVariants as counted
use Rattle.tw_text.specs.declared.refusal.Refusal.{Refusal}
use Rattle.tw_text.specs.declared.diagnostic.Diagnostic.{Diagnostic}
use Rattle.tw_text.specs.declared.diagnostic.Diagnostic.TheVariants as diagnostic
use Rattle.tw_text.specs.Limits.{limit_of}
use Rattle.tw_text.specs.Places.{first_place}
use Rattle.tw_text.specs.Refusals.{passed}
use Rattle.tower.specs.declared.status.Status.{Status}
use Rattle.tower.specs.declared.status.Status.TheVariants as status
use Rattle.tower.specs.Requests.{Request, Format, Check, Compile, Run, Encode, Simulate, Invert, Asks, IsUsage}
use Rattle.tower.specs.Outcomes.{Outcome, Prints, PrintsStuck, Refuses, outcome_status, outcome_text, refusal_status}
use Rattle.tower.specs.Sources.{SourceAnswer}
use Rattle.tower.specs.GateInputs.{GatesAnswer}
use Rattle.tower.specs.Format.{FormatAnswer}
use Rattle.tower.specs.Check.{CheckAnswer}
use Rattle.tower.specs.Compile.{CompileAnswer}
use Rattle.tower.specs.Marks.{parted}
use Rattle.tower.specs.Run.{RunAnswer}
use Rattle.tower.specs.Encode.{EncodeAnswer}
use Rattle.tower.specs.Simulate.{SimulateAnswer}
use Rattle.tower.specs.Invert.{InvertAnswer}

-- the answer to a request on an input within the limit
abbrev pub InputAnswer : Request → List ℕ → Outcome → Type 0
InputAnswer Format bytes outcome = SourceAnswer bytes FormatAnswer outcome
InputAnswer (Check widths) bytes outcome = SourceAnswer bytes (CheckAnswer widths) outcome
InputAnswer (Compile file) bytes outcome = SourceAnswer bytes (CompileAnswer file) outcome
InputAnswer (Run file) bytes outcome = SourceAnswer (parted true bytes).0 (RunAnswer file (parted true bytes).1) outcome
InputAnswer (Encode file) bytes outcome = SourceAnswer (parted true bytes).0 (EncodeAnswer file (parted true bytes).1) outcome
InputAnswer Simulate bytes outcome = GatesAnswer bytes SimulateAnswer outcome
InputAnswer Invert bytes outcome = GatesAnswer bytes InvertAnswer outcome

-- the refusal of an input past the limit: the limit and one more byte are counted, however many bytes follow
abbrev pub too_long : Refusal
too_long = passed counted.Input (limit_of counted.Input + 1) first_place

-- the answer to arguments and an input: the answer to the request that the arguments are, or a refusal if they are none
pub data Answer (words : List (List ℕ)) (bytes : List ℕ) (outcome : Outcome) : Type 0 where
  OnInput : (request : Request) → Asks words request → length bytes ≤ limit_of counted.Input → InputAnswer request bytes outcome → Answer words bytes outcome
  TooLong : (request : Request) → Asks words request → limit_of counted.Input < length bytes → outcome ≡ Refuses (diagnostic.Refused too_long) → Answer words bytes outcome
  Usage : IsUsage words → outcome ≡ Refuses diagnostic.Usage → Answer words bytes outcome

-- the call wrote the whole of an answer with this status
pub record GaveWhole (words : List (List ℕ)) (bytes : List ℕ) (before now : Option (List ℕ)) (ended : Status) : Type 0 where
  pub outcome : Outcome
  pub answer : Answer words bytes outcome
  pub status : outcome_status outcome ≡ ended
  pub took : Appends before now (outcome_text outcome)

-- the call wrote a prefix of an answer
pub record GavePrefix (words : List (List ℕ)) (bytes : List ℕ) (before now : Option (List ℕ)) : Type 0 where
  pub outcome : Outcome
  pub answer : Answer words bytes outcome
  pub took : AppendsPrefix before now (outcome_text outcome)

-- What was written with each status: nothing if memory ran out or the source failed, a prefix of an answer if the sink failed,
-- and otherwise a whole answer, which has that status.
abbrev pub Gave : List (List ℕ) → List ℕ → Option (List ℕ) → Option (List ℕ) → Status → Type 0
Gave words bytes before now status.Memory = Appends before now []
Gave words bytes before now status.ReadFault = Appends before now []
Gave words bytes before now status.WriteFault = GavePrefix words bytes before now
Gave words bytes before now other = GaveWhole words bytes before now other

-- the call gave what belongs to its status for the bytes of the source, or for some bytes if the source does not report them
pub record Answered (left before now : Option (List ℕ)) (words : List (List ℕ)) (ended : Status) : Type 0 where
  pub bytes : List ℕ
  pub told : IfSome left (λ all. all ≡ bytes)
  pub gave : Gave words bytes before now ended

-- if the source reports its bytes, the call gave the whole answer with its status, or memory ran out and nothing was written
abbrev pub IsComplete : Option (List ℕ) → Option (List ℕ) → Option (List ℕ) → List (List ℕ) → Status → Type 0
IsComplete left before now words ended = IfSome left (λ bytes.
    ((ended ≡ status.Memory) × Appends before now []) ⊎ GaveWhole words bytes before now ended)

-- the call ended before it could answer: memory ran out, or a device failed
abbrev pub IsCutShort : Status → Type 0
IsCutShort ended = (ended ≡ status.Memory) ⊎ (ended ≡ status.ReadFault) ⊎ (ended ≡ status.WriteFault)

-- the arguments and the input are refused with this status
pub record IsRefusedWith (ended : Status) (words : List (List ℕ)) (bytes : List ℕ) : Type 0 where
  pub why : Diagnostic
  pub answer : Answer words bytes (Refuses why)
  pub status : refusal_status why ≡ ended

-- When a call ends with each status, unless it is cut short: with Ok if a text answers the request, with Stuck if a text does in which
-- a statement is stuck, with Usage if the arguments are no request, and with any other status if a refusal with that status is the answer.
abbrev pub Cause : Status → List (List ℕ) → List ℕ → Type 0
Cause status.Ok words bytes = (text : List ℕ) × Answer words bytes (Prints text)
Cause status.Stuck words bytes = (text : List ℕ) × Answer words bytes (PrintsStuck text)
Cause status.Usage words bytes = IsUsage words
Cause other words bytes = IsRefusedWith other words bytes
