-- When a call ends with each status.
use Rattle.std.proofs.Common.{◌≡◌, ◌∙◌, ap, sym, subst, ℕ, ◌⊎◌, inl, inr, Bool, true, false, if◌then◌else◌, List, [], Option, Some, None, IfSome, refl}
use Rattle.tw_io.specs.Devices.{Appends}
use Rattle.tw_text.specs.declared.refusal.Rule.{Rule}
use Rattle.tw_text.specs.declared.refusal.Rule.TheVariants as rule
use Rattle.tw_text.specs.declared.diagnostic.Diagnostic.{Diagnostic}
use Rattle.tw_text.specs.declared.diagnostic.Diagnostic.TheVariants as diagnostic
use Rattle.tw_syntax.specs.Programs.{FunTree, ProgramTree}
use Rattle.tw_resolve.specs.Setting.{Setting}
use Rattle.tw_state.specs.declared.state.Side.{Side}
use Rattle.tw_state.specs.declared.state_fault.StateFault.{StateFault}
use Rattle.tw_state.specs.declared.state_fault.StateFault.TheVariants as state_fault
use Rattle.tw_frames.specs.declared.measured.Measured.{Measured}
use Rattle.tw_gatetext.specs.Text.{File}
use Rattle.tower.specs.declared.status.Status.{Status}
use Rattle.tower.specs.declared.status.Status.TheVariants as status
use Rattle.tower.specs.Requests.{FileRequest, Request, Format, Check, Compile, Run, Encode, Simulate, Invert, IsUsage}
use Rattle.tower.specs.Outcomes.{Outcome, Prints, PrintsStuck, Refuses, rule_status, refusal_status, outcome_status}
use Rattle.tower.specs.Sources.{SourceAnswer, OnTree, NoProgram}
use Rattle.tower.specs.GateInputs.{GatesAnswer, OnPrefix, WrongLine, PastLimit}
use Rattle.tw_types.specs.Types.{Widths}
use Rattle.tower.specs.Check.{CheckAnswer, Accepted, Broken}
use Rattle.tower.specs.Format.{FormatAnswer}
use Rattle.tower.specs.Compile as compile
use Rattle.tower.specs.Compile.{CompileAnswer, Written}
use Rattle.tower.specs.CircuitEntries as circuits
use Rattle.tower.specs.CircuitEntries.{IsRefusedEntry, NotBuilt}
use Rattle.tower.specs.Encode as encode
use Rattle.tower.specs.Encode.{StatesAnswer, Encoded, EncodeAnswer, OnCircuit}
use Rattle.tower.specs.Marks.{parted}
use Rattle.tower.specs.Run as run
use Rattle.tower.specs.Run.{RunAnswer, EntryAnswer, OnEntry, WrongStates, Replied, state_refusal, is_one_stuck}
use Rattle.tower.specs.Invert as invert
use Rattle.tower.specs.Invert.{InvertAnswer}
use Rattle.tower.specs.Simulate as simulate
use Rattle.tower.specs.Simulate.{LinesAnswer, OnStates, SimulateAnswer, OfLevelT, OnLines, OtherLine}
use Rattle.tower.specs.Answer.{InputAnswer, Answer, OnInput, TooLong, Usage, Gave, GaveWhole, Answered, IsComplete, IsCutShort, IsRefusedWith, Cause}
use Rattle.tower.proofs.Binds.{some_is}
use Rattle.tower.proofs.OneAnswer.{one_answer}

pub if_told : {A B : List ℕ → Type 0} → (left : Option (List ℕ)) → ((bytes : List ℕ) → A bytes → B bytes) → IfSome left A → IfSome left B
if_told None f x = tt
if_told (Some all) f x = f all x

cut_or_whole : (words : List (List ℕ)) (bytes : List ℕ) (before now : Option (List ℕ)) (ended : Status) → Gave words bytes before now ended → IsCutShort ended ⊎ GaveWhole words bytes before now ended
cut_or_whole words bytes before now status.Memory gave = inl (inl refl)
cut_or_whole words bytes before now status.ReadFault gave = inl (inr (inl refl))
cut_or_whole words bytes before now status.WriteFault gave = inl (inr (inr refl))
cut_or_whole words bytes before now other gave = inr gave

pub told_answer : (left before now : Option (List ℕ)) (words : List (List ℕ)) (ended : Status) → Answered left before now words ended → IfSome left (λ bytes. IsCutShort ended ⊎ GaveWhole words bytes before now ended)
told_answer None before now words ended answered = tt
told_answer (Some all) before now words ended answered =
    subst (λ (b : List ℕ). IsCutShort ended ⊎ GaveWhole words b before now ended) (sym answered.told) (cut_or_whole words answered.bytes before now ended answered.gave)

-- arguments that are a request are not refused as a usage error

abbrev not_usage : Outcome → Bool
not_usage (Refuses diagnostic.Usage) = false
not_usage other = true

lines-not_usage : (file : File) (lines : List ℕ) (outcome : Outcome) → LinesAnswer file lines outcome → not_usage outcome ≡ true
lines-not_usage file lines outcome (OnStates states are e) = ap not_usage e
lines-not_usage file lines outcome (simulate.WrongLine line are e) = ap not_usage e
lines-not_usage file lines outcome (simulate.PastLimit refusal are e) = ap not_usage e

simulate-not_usage : (file : File) (rest : List ℕ) (outcome : Outcome) → SimulateAnswer file rest outcome → not_usage outcome ≡ true
simulate-not_usage file rest outcome (OfLevelT level e) = ap not_usage e
simulate-not_usage file rest outcome (OnLines level lines has is) = lines-not_usage file lines outcome is
simulate-not_usage file rest outcome (OtherLine level none e) = ap not_usage e

invert-not_usage : (file : File) (rest : List ℕ) (outcome : Outcome) → InvertAnswer file rest outcome → not_usage outcome ≡ true
invert-not_usage file rest outcome (invert.AtEnd end e) = ap not_usage e
invert-not_usage file rest outcome (invert.GoesOn some e) = ap not_usage e

gates-not_usage : (bytes : List ℕ) (OnFile : File → List ℕ → Outcome → Type 0) (outcome : Outcome) → ((file : File) (rest : List ℕ) → OnFile file rest outcome → not_usage outcome ≡ true) → GatesAnswer bytes OnFile outcome → not_usage outcome ≡ true
gates-not_usage bytes OnFile outcome on_file (OnPrefix file rest begins is) = on_file file rest is
gates-not_usage bytes OnFile outcome on_file (WrongLine line is e) = ap not_usage e
gates-not_usage bytes OnFile outcome on_file (PastLimit refusal is e) = ap not_usage e

check-not_usage : (widths : Widths) (tree : ProgramTree) (outcome : Outcome) → CheckAnswer widths tree outcome → not_usage outcome ≡ true
check-not_usage widths tree outcome (Accepted accepted e) = ap not_usage e
check-not_usage widths tree outcome (Broken refusal broken e) = ap not_usage e

refused_entry-not_usage : (request : FileRequest) (tree : ProgramTree) (why : Diagnostic) → IsRefusedEntry request tree why → not_usage (Refuses why) ≡ true
refused_entry-not_usage request tree why (circuits.Broken refusal x is) = ap (λ w. not_usage (Refuses w)) is
refused_entry-not_usage request tree why (circuits.BadEntry refusal x is) = ap (λ w. not_usage (Refuses w)) is
refused_entry-not_usage request tree why (NotBuilt ready none is) = ap (λ w. not_usage (Refuses w)) is
refused_entry-not_usage request tree why (circuits.PastLimit refusal built found x is) = ap (λ w. not_usage (Refuses w)) is

compile-not_usage : (request : FileRequest) (tree : ProgramTree) (outcome : Outcome) → CompileAnswer request tree outcome → not_usage outcome ≡ true
compile-not_usage request tree outcome (compile.NoCircuit why refused e) = ap not_usage e ∙ refused_entry-not_usage request tree why refused
compile-not_usage request tree outcome (Written built found file is e) = ap not_usage e

state_refusal-not_usage : (fault : StateFault) (why : Diagnostic) → state_refusal fault ≡ Some why → not_usage (Refuses why) ≡ true
state_refusal-not_usage (state_fault.BadState line reason) why e = ap not_usage (ap Refuses (sym (some_is _ why e)))
state_refusal-not_usage state_fault.TooMany why e = ap not_usage (ap Refuses (sym (some_is _ why e)))
state_refusal-not_usage state_fault.Memory why e = cc

states-not_usage : (wires : ℕ) (setting : Setting) (side : Side) (fun : FunTree) (lines : List ℕ) (outcome : Outcome) → StatesAnswer wires setting side fun lines outcome → not_usage outcome ≡ true
states-not_usage wires setting side fun lines outcome (encode.WrongStates fault why refused is e) = ap not_usage e ∙ state_refusal-not_usage fault why is
states-not_usage wires setting side fun lines outcome (Encoded states are e) = ap not_usage e

encode-not_usage : (request : FileRequest) (lines : List ℕ) (tree : ProgramTree) (outcome : Outcome) → EncodeAnswer request lines tree outcome → not_usage outcome ≡ true
encode-not_usage request lines tree outcome (encode.NoCircuit why refused e) = ap not_usage e ∙ refused_entry-not_usage request tree why refused
encode-not_usage request lines tree outcome (OnCircuit built found layout within is) = states-not_usage _ _ _ _ lines outcome is

replied-not_usage : (stuck : Bool) (text : List ℕ) → not_usage (if stuck then PrintsStuck text else Prints text) ≡ true
replied-not_usage true text = refl
replied-not_usage false text = refl

entry-not_usage : (setting : Setting) (fun : FunTree) (bound : Option ℕ) (back : Bool) (measured : Measured) (lines : List ℕ) (outcome : Outcome) → EntryAnswer setting fun bound back measured lines outcome → not_usage outcome ≡ true
entry-not_usage setting fun bound back measured lines outcome (run.PastLimit refusal broken e) = ap not_usage e
entry-not_usage setting fun bound back measured lines outcome (WrongStates fault why none refused is e) = ap not_usage e ∙ state_refusal-not_usage fault why is
entry-not_usage setting fun bound back measured lines outcome (Replied states replies none are answer e) = ap not_usage e ∙ replied-not_usage (is_one_stuck replies) _

run-not_usage : (request : FileRequest) (lines : List ℕ) (tree : ProgramTree) (outcome : Outcome) → RunAnswer request lines tree outcome → not_usage outcome ≡ true
run-not_usage request lines tree outcome (run.Broken refusal broken e) = ap not_usage e
run-not_usage request lines tree outcome (run.BadEntry refusal bad e) = ap not_usage e
run-not_usage request lines tree outcome (OnEntry found is) = entry-not_usage _ _ _ _ _ lines outcome is

source-not_usage : (bytes : List ℕ) (OnProgram : ProgramTree → Outcome → Type 0) (outcome : Outcome) → ((tree : ProgramTree) → OnProgram tree outcome → not_usage outcome ≡ true) → SourceAnswer bytes OnProgram outcome → not_usage outcome ≡ true
source-not_usage bytes OnProgram outcome on_program (OnTree tree source is) = on_program tree is
source-not_usage bytes OnProgram outcome on_program (NoProgram refusal refused e) = ap not_usage e

input-not_usage : (request : Request) (bytes : List ℕ) (outcome : Outcome) → InputAnswer request bytes outcome → not_usage outcome ≡ true
input-not_usage Format bytes outcome is = source-not_usage bytes FormatAnswer outcome (λ tree e. ap not_usage e) is
input-not_usage (Check widths) bytes outcome is = source-not_usage bytes (CheckAnswer widths) outcome (λ tree. check-not_usage widths tree outcome) is
input-not_usage (Compile file) bytes outcome is = source-not_usage bytes (CompileAnswer file) outcome (λ tree. compile-not_usage file tree outcome) is
input-not_usage (Run file) bytes outcome is = source-not_usage (parted true bytes).0 (RunAnswer file (parted true bytes).1) outcome (λ tree. run-not_usage file (parted true bytes).1 tree outcome) is
input-not_usage (Encode file) bytes outcome is = source-not_usage (parted true bytes).0 (EncodeAnswer file (parted true bytes).1) outcome (λ tree. encode-not_usage file (parted true bytes).1 tree outcome) is
input-not_usage Simulate bytes outcome is = gates-not_usage bytes SimulateAnswer outcome (λ file rest. simulate-not_usage file rest outcome) is
input-not_usage Invert bytes outcome is = gates-not_usage bytes InvertAnswer outcome (λ file rest. invert-not_usage file rest outcome) is

rule_or_usage : (r : Rule) → rule_status r ≡ status.Usage → ⊥
rule_or_usage rule.Utf8 e = cc
rule_or_usage other e = cc

usage_diagnostic : (why : Diagnostic) → refusal_status why ≡ status.Usage → not_usage (Refuses why) ≡ false
usage_diagnostic diagnostic.Usage e = refl
usage_diagnostic (diagnostic.Refused refusal) e = absurd (rule_or_usage refusal.rule e)
usage_diagnostic other e = cc

usage_answer : (words : List (List ℕ)) (bytes : List ℕ) (why : Diagnostic) → Answer words bytes (Refuses why) → refusal_status why ≡ status.Usage → IsUsage words
usage_answer words bytes why (Usage none e) same = none
usage_answer words bytes why (OnInput request asks few is) same = let e = sym (usage_diagnostic why same) ∙ input-not_usage request bytes (Refuses why) is in cc
usage_answer words bytes why (TooLong request asks many is) same = let e = sym (usage_diagnostic why same) ∙ ap not_usage is in cc

rule_not_ok : (r : Rule) → rule_status r ≡ status.Ok → ⊥
rule_not_ok rule.Utf8 e = cc
rule_not_ok other e = cc

pub refusal_not_ok : (why : Diagnostic) → refusal_status why ≡ status.Ok → ⊥
refusal_not_ok (diagnostic.Refused refusal) e = rule_not_ok refusal.rule e
refusal_not_ok other e = cc

-- a status comes only if its cause holds

rule_cause : (words : List (List ℕ)) (bytes : List ℕ) (r : Rule) → IsRefusedWith (rule_status r) words bytes → Cause (rule_status r) words bytes
rule_cause words bytes rule.Utf8 refused = refused
rule_cause words bytes other refused = refused

refusal_cause : (words : List (List ℕ)) (bytes : List ℕ) (why : Diagnostic) → Answer words bytes (Refuses why) → Cause (refusal_status why) words bytes
refusal_cause words bytes diagnostic.Usage answer = usage_answer words bytes diagnostic.Usage answer refl
refusal_cause words bytes (diagnostic.Refused refusal) answer = rule_cause words bytes refusal.rule (record { why = diagnostic.Refused refusal; answer = answer; status = refl })
refusal_cause words bytes other answer = record { why = other; answer = answer; status = refl }

outcome_cause : (words : List (List ℕ)) (bytes : List ℕ) (outcome : Outcome) → Answer words bytes outcome → Cause (outcome_status outcome) words bytes
outcome_cause words bytes (Prints text) answer = (text, answer)
outcome_cause words bytes (PrintsStuck text) answer = (text, answer)
outcome_cause words bytes (Refuses why) answer = refusal_cause words bytes why answer

pub only_where : (left before now : Option (List ℕ)) (words : List (List ℕ)) (ended : Status) → Answered left before now words ended → IfSome left (λ bytes. IsCutShort ended ⊎ Cause ended words bytes)
only_where left before now words ended answered = if_told left (λ bytes. by_gave bytes) (told_answer left before now words ended answered)
  where
    by_gave : (bytes : List ℕ) → IsCutShort ended ⊎ GaveWhole words bytes before now ended → IsCutShort ended ⊎ Cause ended words bytes
    by_gave bytes (inl cut) = inl cut
    by_gave bytes (inr gave) = inr (subst (λ (s : Status). Cause s words bytes) gave.status (outcome_cause words bytes gave.outcome gave.answer))

pub usage_only : (left before now : Option (List ℕ)) (words : List (List ℕ)) (ended : Status) → Answered left before now words ended → ended ≡ status.Usage → IsUsage words
usage_only left before now words ended answered e = by_gave (subst (λ (s : Status). Gave words answered.bytes before now s) e answered.gave)
  where
    by_outcome : (outcome : Outcome) → Answer words answered.bytes outcome → outcome_status outcome ≡ status.Usage → IsUsage words
    by_outcome (Prints text) answer same = cc
    by_outcome (PrintsStuck text) answer same = cc
    by_outcome (Refuses why) answer same = usage_answer words answered.bytes why answer same

    by_gave : GaveWhole words answered.bytes before now status.Usage → IsUsage words
    by_gave gave = by_outcome gave.outcome gave.answer gave.status

-- if its cause holds, a status comes

-- an answer with this status
record HasAnswer (words : List (List ℕ)) (bytes : List ℕ) (wanted : Status) : Type 0 where
  outcome : Outcome
  answer : Answer words bytes outcome
  status : outcome_status outcome ≡ wanted

cause_answer : (words : List (List ℕ)) (bytes : List ℕ) (wanted : Status) → Cause wanted words bytes → HasAnswer words bytes wanted
cause_answer words bytes status.Ok cause = record { outcome = Prints cause.0; answer = cause.1; status = refl }
cause_answer words bytes status.Stuck cause = record { outcome = PrintsStuck cause.0; answer = cause.1; status = refl }
cause_answer words bytes status.Usage cause = record { outcome = Refuses diagnostic.Usage; answer = Usage cause refl; status = refl }
cause_answer words bytes other cause = record { outcome = Refuses cause.why; answer = cause.answer; status = cause.status }

pub comes : (left before now : Option (List ℕ)) (words : List (List ℕ)) (ended : Status) → Answered left before now words ended → (wanted : Status) → IfSome left (λ bytes. Cause wanted words bytes → (ended ≡ wanted) ⊎ IsCutShort ended)
comes left before now words ended answered wanted = if_told left (λ bytes gave cause. by_gave bytes (cause_answer words bytes wanted cause) gave) (told_answer left before now words ended answered)
  where
    by_gave : (bytes : List ℕ) → HasAnswer words bytes wanted → IsCutShort ended ⊎ GaveWhole words bytes before now ended → (ended ≡ wanted) ⊎ IsCutShort ended
    by_gave bytes has (inl cut) = inr cut
    by_gave bytes has (inr gave) = inl (sym gave.status ∙ (ap outcome_status (one_answer words bytes gave.outcome has.outcome gave.answer has.answer) ∙ has.status))

-- the whole answer was given, if no device failed

pub complete : (left before now : Option (List ℕ)) (words : List (List ℕ)) (ended : Status) → (ended ≡ status.ReadFault → ⊥) → (ended ≡ status.WriteFault → ⊥) → Answered left before now words ended → IsComplete left before now words ended
complete left before now words ended no_read no_write answered = by_source left answered.told
  where
    by_status : (s : Status) → ended ≡ s → Gave words answered.bytes before now s → ((ended ≡ status.Memory) × Appends before now []) ⊎ GaveWhole words answered.bytes before now ended
    by_status status.Memory e gave = inl (e, gave)
    by_status status.ReadFault e gave = absurd (no_read e)
    by_status status.WriteFault e gave = absurd (no_write e)
    by_status other e gave = inr (subst (λ (s : Status). GaveWhole words answered.bytes before now s) (sym e) gave)

    by_source : (from : Option (List ℕ)) → IfSome from (λ all. all ≡ answered.bytes) → IsComplete from before now words ended
    by_source None told = tt
    by_source (Some all) told = subst (λ (b : List ℕ). ((ended ≡ status.Memory) × Appends before now []) ⊎ GaveWhole words b before now ended) (sym told) (by_status ended refl answered.gave)
