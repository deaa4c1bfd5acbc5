-- The outcomes of a request: a text, which may say that statements are stuck, or a refusal.
use Rattle.std.specs.Prelude.{◌≡◌, ℕ, List, refl, codes}
use Rattle.std.specs.Fmt.{digits}
use Rattle.tw_text.specs.declared.refusal.Rule.{Rule}
use Rattle.tw_text.specs.declared.refusal.Rule.TheVariants as rule
use Rattle.tw_text.specs.declared.diagnostic.Diagnostic.{Diagnostic}
use Rattle.tw_text.specs.declared.diagnostic.Diagnostic.TheVariants as diagnostic
use Rattle.tw_text.specs.Refusals.{diagnostic_line}
use Rattle.tower.specs.declared.status.Status.{Status}
use Rattle.tower.specs.declared.status.Status.TheVariants as status

-- the outcome of a request: a text, in which a statement may be stuck on a state, or the reason why there is none
pub data Outcome : Type 0 where
  Prints : (text : List ℕ) → Outcome
  PrintsStuck : (text : List ℕ) → Outcome
  Refuses : (why : Diagnostic) → Outcome

-- the status of a refusal by a rule of the source, or by a limit
abbrev pub rule_status : Rule → Status
rule_status rule.Utf8 = status.Utf8
rule_status rule.Token = status.Token
rule_status rule.Syntax = status.Syntax
rule_status rule.DuplicateName = status.Resolve
rule_status rule.UnknownName = status.Resolve
rule_status rule.RecursiveType = status.Resolve
rule_status rule.TypeTooDeep = status.Resolve
rule_status rule.TypeTooLarge = status.Resolve
rule_status rule.CallOrder = status.Resolve
rule_status rule.BadCall = status.Resolve
rule_status rule.RepeatedArgument = status.Resolve
rule_status rule.LiteralTooWide = status.Resolve
rule_status rule.TypeMismatch = status.Resolve
rule_status rule.TypeChanged = status.Resolve
rule_status rule.BadReturn = status.Resolve
rule_status rule.BadEntry = status.Resolve
rule_status rule.NotDeclared = status.Check
rule_status rule.Redeclared = status.Check
rule_status rule.ConditionWritten = status.Check
rule_status rule.SelfUse = status.Check
rule_status rule.Overlap = status.Check
rule_status rule.BranchesDiffer = status.Check
rule_status rule.WithNotUndone = status.Check
rule_status rule.Left = status.Check
rule_status (rule.Limit counted) = status.Limit

-- the status of a refusal
abbrev pub refusal_status : Diagnostic → Status
refusal_status diagnostic.Usage = status.Usage
refusal_status (diagnostic.Refused refusal) = rule_status refusal.rule
refusal_status (diagnostic.BadGateText line) = status.BadGateText
refusal_status (diagnostic.BitsLength line) = status.BitsLength
refusal_status (diagnostic.BadState line why) = status.BadState
refusal_status diagnostic.LevelT = status.LevelT
refusal_status diagnostic.NotBuilt = status.NotBuilt

-- the status of a call that gives this outcome
abbrev pub outcome_status : Outcome → Status
outcome_status (Prints text) = status.Ok
outcome_status (PrintsStuck text) = status.Stuck
outcome_status (Refuses why) = refusal_status why

-- the text of an outcome
abbrev pub outcome_text : Outcome → List ℕ
outcome_text (Prints text) = text
outcome_text (PrintsStuck text) = text
outcome_text (Refuses why) = diagnostic_line why

-- the exit status of the program
abbrev pub status_number : Status → ℕ
status_number status.Ok = 0
status_number status.Memory = 1
status_number status.Usage = 2
status_number status.ReadFault = 3
status_number status.WriteFault = 4
status_number status.Utf8 = 10
status_number status.Token = 11
status_number status.Syntax = 12
status_number status.Resolve = 13
status_number status.Check = 14
status_number status.Limit = 15
status_number status.BadState = 16
status_number status.BadGateText = 17
status_number status.BitsLength = 18
status_number status.LevelT = 19
status_number status.Stuck = 20
status_number status.NotBuilt = 30

pub refused_gate_text : outcome_text (Refuses (diagnostic.BadGateText 11)) ≡ codes "refused bad-gate-text at line 11\n"
unfolding digits
refused_gate_text = refl

pub refused_gate_text-status : status_number (outcome_status (Refuses (diagnostic.BadGateText 11))) ≡ 17
refused_gate_text-status = refl
