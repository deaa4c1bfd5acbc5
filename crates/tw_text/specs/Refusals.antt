-- Refusals and diagnostics, and their lines.
use Rattle.std.specs.Prelude.{◌≡◌, ℕ, List, ◌++◌, codes, decimal, refl}
use Rattle.std.specs.Fmt.{digits}
use Rattle.tw_text.specs.declared.place.Pos.{Pos}
use Rattle.tw_text.specs.declared.refusal.Counted.{Counted}
use Rattle.tw_text.specs.declared.refusal.Counted.TheVariants as counted
use Rattle.tw_text.specs.declared.refusal.Rule.{Rule}
use Rattle.tw_text.specs.declared.refusal.Rule.TheVariants as rule
use Rattle.tw_text.specs.declared.refusal.Refusal.{Refusal}
use Rattle.tw_text.specs.declared.refusal.StateWhy.{StateWhy}
use Rattle.tw_text.specs.declared.refusal.StateWhy.TheVariants as state_why
use Rattle.tw_text.specs.declared.diagnostic.Diagnostic.{Diagnostic}
use Rattle.tw_text.specs.declared.diagnostic.Diagnostic.TheVariants as diagnostic
use Rattle.tw_text.specs.Limits.{limit_of}

-- the refusal for a broken rule at a place; the rule is no limit, so both numbers are 0
abbrev pub broken : Rule → Pos → Refusal
broken rule at = record { rule = rule; at = at; found = 0; limit = 0 }

-- the refusal for a limit that is passed, with the count that was found
abbrev pub passed : Counted → ℕ → Pos → Refusal
passed counted found at = record { rule = rule.Limit counted; at = at; found = found; limit = limit_of counted }

-- the name of a limit: what it counts
abbrev pub counted_name : Counted → List ℕ
counted_name counted.Input = codes "input"
counted_name counted.Nesting = codes "nesting"
counted_name counted.Statements = codes "statements"
counted_name counted.Depth = codes "depth"
counted_name counted.Controls = codes "controls"
counted_name counted.Wires = codes "wires"
counted_name counted.Lines = codes "lines"
counted_name counted.States = codes "states"

-- the name of a rule, with `-` between its words
abbrev pub rule_name : Rule → List ℕ
rule_name rule.Utf8 = codes "utf8"
rule_name rule.Token = codes "token"
rule_name rule.Syntax = codes "syntax"
rule_name rule.DuplicateName = codes "duplicate-name"
rule_name rule.UnknownName = codes "unknown-name"
rule_name rule.RecursiveType = codes "recursive-type"
rule_name rule.TypeTooDeep = codes "type-too-deep"
rule_name rule.TypeTooLarge = codes "type-too-large"
rule_name rule.CallOrder = codes "call-order"
rule_name rule.BadCall = codes "bad-call"
rule_name rule.RepeatedArgument = codes "repeated-argument"
rule_name rule.LiteralTooWide = codes "literal-too-wide"
rule_name rule.TypeMismatch = codes "type-mismatch"
rule_name rule.TypeChanged = codes "type-changed"
rule_name rule.BadReturn = codes "bad-return"
rule_name rule.BadEntry = codes "bad-entry"
rule_name rule.NotDeclared = codes "not-declared"
rule_name rule.Redeclared = codes "redeclared"
rule_name rule.ConditionWritten = codes "condition-written"
rule_name rule.SelfUse = codes "self-use"
rule_name rule.Overlap = codes "overlap"
rule_name rule.BranchesDiffer = codes "branches-differ"
rule_name rule.WithNotUndone = codes "with-not-undone"
rule_name rule.Left = codes "left"
rule_name (rule.Limit limit) = counted_name limit

-- the name of the refusal of a text of states
abbrev pub state_why_name : StateWhy → List ℕ
state_why_name state_why.Syntax = codes "bad-state syntax"
state_why_name state_why.Chain = codes "bad-state chain"

-- the line of a refusal that has a name alone
abbrev pub plain_line : List ℕ → List ℕ
plain_line name = codes "refused " ++ (name ++ codes "\n")

-- the line of a refusal at a line of the input
abbrev pub number_line : List ℕ → ℕ → List ℕ
number_line name number = codes "refused " ++ (name ++ (codes " at line " ++ (decimal number ++ codes "\n")))

-- the line of a rule that is broken at a place
abbrev pub place_line : List ℕ → Pos → List ℕ
place_line name at = codes "refused " ++ (name ++ (codes " at " ++ (decimal at.line ++ (codes ":" ++ (decimal at.col ++ codes "\n")))))

-- the line of a limit that is passed
abbrev pub limit_line : List ℕ → ℕ → ℕ → List ℕ
limit_line name found limit =
    codes "refused limit " ++ (name ++ (codes " found " ++ (decimal found ++ (codes " limit " ++ (decimal limit ++ codes "\n")))))

-- the line of a broken rule, or of a limit that is passed
abbrev pub rule_line : Rule → Pos → ℕ → ℕ → List ℕ
rule_line (rule.Limit limit) at found most = limit_line (counted_name limit) found most
rule_line other at found most = place_line (rule_name other) at

abbrev pub refusal_line : Refusal → List ℕ
refusal_line refusal = rule_line refusal.rule refusal.at refusal.found refusal.limit

-- the line of a diagnostic
abbrev pub diagnostic_line : Diagnostic → List ℕ
diagnostic_line diagnostic.Usage = plain_line (codes "usage")
diagnostic_line (diagnostic.Refused refusal) = refusal_line refusal
diagnostic_line (diagnostic.BadGateText line) = number_line (codes "bad-gate-text") line
diagnostic_line (diagnostic.BitsLength line) = number_line (codes "bits-length") line
diagnostic_line (diagnostic.BadState line why) = number_line (state_why_name why) line
diagnostic_line diagnostic.LevelT = plain_line (codes "level-t")
diagnostic_line diagnostic.NotBuilt = plain_line (codes "not-built")

pub line_of_syntax : diagnostic_line (diagnostic.Refused (broken rule.Syntax (record { line = 2; col = 10 }))) ≡ codes "refused syntax at 2:10\n"
unfolding digits
line_of_syntax = refl

pub line_of_nesting : diagnostic_line (diagnostic.Refused (passed counted.Nesting 65 (record { line = 3; col = 5 }))) ≡ codes "refused limit nesting found 65 limit 64\n"
unfolding digits
line_of_nesting = refl

pub line_of_gate_text : diagnostic_line (diagnostic.BadGateText 11) ≡ codes "refused bad-gate-text at line 11\n"
unfolding digits
line_of_gate_text = refl

pub line_of_usage : diagnostic_line diagnostic.Usage ≡ codes "refused usage\n"
line_of_usage = refl
