-- Right lines of the header, and lines that are not right.
use Rattle.std.proofs.Common.{◌≡◌, ◌∙◌, ap, sym, subst, ℕ, ◌+◌, ◌<◌, ◌≤◌, ◌^◌, List, [], ◌++◌, codes, decimal, Option, Some, None, Bor, IfSome, refl, arith}
use Rattle.std.specs.Option.{option_copied, IfNone}
use Rattle.std.proofs.lemmas.List.{append_cancel_left}
use Rattle.std.proofs.lemmas.Option.{none-some, same_Some}
use Rattle.tw_text.specs.Prefix.{after}
use Rattle.tw_text.proofs.Prefixes.{append-after}
use Rattle.tw_text.specs.declared.limits.TheConstants.{WIRES_LIMIT, LINES_LIMIT}
use Rattle.tw_gate.specs.declared.gate.Level.{Level}
use Rattle.tw_gate.specs.declared.gate.Level.TheVariants as levels
use Rattle.tw_gatetext.specs.Text.{level_word}
use Rattle.tw_gatetext.specs.Numerals.{IsNumeral}
use Rattle.tw_gatetext.specs.Lines.{Progress, AtLevel, AtWires, AtGates, AtTCount, InBody, StepsTo, Reaches}
use Rattle.tw_gatetext.specs.declared.file.GateFault.{GateFault}
use Rattle.tw_gatetext.specs.declared.file.GateFault.TheVariants as fault
use Rattle.tw_gatetext.specs.Refused.{Limit, limit_at, PassesLimit, GoesOn, IsWrong, IsRefusedText, WrongLine, PassedLimit}
use Rattle.tw_gatetext.specs.Reading.{IsRefusedLine, IsTried}
use Rattle.tw_gatetext.proofs.Delimited.{decimal_line-delimited}
use Rattle.tw_gatetext.proofs.DigitRuns.{not_after}
use Rattle.tw_gatetext.proofs.RightLines.{valued}

-- the suffix after a prefix that was looked for
pub after_some : (front bytes : List ℕ) (found : Option (Bor (List ℕ))) → option_copied found ≡ after front bytes → IfSome found (λ behind. bytes ≡ front ++ behind.now)
after_some front bytes None is = tt
after_some front bytes (Some behind) is = append-after front bytes behind.now (sym is)

pub after_none : (front bytes : List ℕ) (found : Option (Bor (List ℕ))) → option_copied found ≡ after front bytes → IfNone found ((rest : List ℕ) → ¬ (bytes ≡ front ++ rest))
after_none front bytes None is = λ rest e. not_after front bytes rest is e
after_none front bytes (Some behind) is = tt

-- the suffix after a prefix is unique
pub behind_front : (front bytes behind other : List ℕ) → Some behind ≡ after front bytes → bytes ≡ front ++ other → behind ≡ other
behind_front front bytes behind other found is = append_cancel_left front behind other (sym (append-after front bytes behind (sym found)) ∙ is)

-- a consequence of what a clause says of `None`
pub IfNone_then : {X : Type 0} (found : Option X) {P Q : Type 0} → IfNone found P → (P → Q) → IfNone found Q
IfNone_then None none next = next none
IfNone_then (Some x) none next = tt

-- the bytes do not begin with a right line, and no limit applies
pub wrong_unlimited : (progress : Progress) (bytes : List ℕ) → GoesOn progress → limit_at progress ≡ None → ((next : Progress) (rest : List ℕ) → ¬ StepsTo progress bytes next rest) → IsWrong progress bytes
wrong_unlimited progress bytes on unlimited no_line =
    record { goes_on = on; no_line = no_line; no_limit = λ refusal passes. none-some passes.limit (sym unlimited ∙ passes.tried) }

-- the bytes do not begin with a right line, and this limit applies
pub refused_limited : (progress : Progress) (limit : Limit) (bytes : List ℕ) (line : ℕ) (why : GateFault) → GoesOn progress → limit_at progress ≡ Some limit → ((next : Progress) (rest : List ℕ) → ¬ StepsTo progress bytes next rest)
    → IsTried limit bytes line why → IsRefusedLine progress bytes line why
refused_limited progress limit bytes line (fault.BadGateText at) on limited no_line tried = (
  tried.0,
  record {
    goes_on = on;
    no_line = no_line;
    no_limit = λ refusal passes. tried.1 refusal (subst (λ (l : Limit). PassesLimit l bytes refusal) (same_Some passes.limit limit (sym passes.tried ∙ limited)) passes.exceeded);
  },
)
refused_limited progress limit bytes line (fault.Over refusal) on limited no_line tried = record { limit = limit; tried = limited; exceeded = tried }
refused_limited progress limit bytes line fault.Memory on limited no_line tried = tried

-- a file is refused by its first line that is not right
pub refused_after : (bytes : List ℕ) (lines : ℕ) (progress : Progress) (rest : List ℕ) (why : GateFault) → Reaches bytes lines progress rest → IsRefusedLine progress rest (lines + 1) why → IsRefusedText bytes why
refused_after bytes lines progress rest (fault.BadGateText at) chain refused = WrongLine lines progress rest chain refused.1 (ap fault.BadGateText refused.0)
refused_after bytes lines progress rest (fault.Over refusal) chain refused = PassedLimit lines progress rest refusal chain refused refl
refused_after bytes lines progress rest fault.Memory chain refused = absurd refused

-- no level's keyword is alone on the line
pub no_level_word : (bytes : List ℕ) → None ≡ after (codes "mcx\n") bytes → None ≡ after (codes "tof\n") bytes → None ≡ after (codes "t\n") bytes → (level : Level) (rest : List ℕ) → ¬ (bytes ≡ level_word level ++ (codes "\n" ++ rest))
no_level_word bytes mcx tof t levels.Mcx rest is = not_after (codes "mcx\n") bytes rest mcx is
no_level_word bytes mcx tof t levels.Tof rest is = not_after (codes "tof\n") bytes rest tof is
no_level_word bytes mcx tof t levels.T rest is = not_after (codes "t\n") bytes rest t is

-- a number on the line of a keyword is the one that was read after the keyword
pub number_read : (word bytes behind rest : List ℕ) (n number : ℕ) (other : List ℕ) → Some behind ≡ after word bytes → behind ≡ decimal number ++ (codes "\n" ++ other) → n < 2 ^ 64 → number < 2 ^ 64
    → bytes ≡ word ++ (decimal n ++ (codes "\n" ++ rest)) → n ≡ number
number_read word bytes behind rest n number other found read small small' is =
    (decimal_line-delimited n number rest other small small' (sym (behind_front word bytes behind _ found is) ∙ read)).0

valued_parts : (word value bytes rest : List ℕ) → bytes ≡ word ++ (value ++ (codes "\n" ++ rest)) → bytes ≡ (word ++ (value ++ codes "\n")) ++ rest
valued_parts word value bytes rest is = is ∙ sym (valued word value _ rest refl)

pub level_steps : (level : Level) (bytes rest : List ℕ) → bytes ≡ codes "level " ++ (level_word level ++ (codes "\n" ++ rest)) → StepsTo AtLevel bytes (AtWires level) rest
level_steps level bytes rest is = record { text = _; parts = valued_parts (codes "level ") (level_word level) bytes rest is; right = (level, refl, refl) }

pub no_level : (bytes : List ℕ) → ((level : Level) (rest : List ℕ) → ¬ (bytes ≡ codes "level " ++ (level_word level ++ (codes "\n" ++ rest)))) → IsWrong AtLevel bytes
no_level bytes none = wrong_unlimited AtLevel bytes tt refl (λ next rest step. none step.right.0 rest (step.parts ∙ valued (codes "level ") (level_word step.right.0) step.text rest step.right.1))

pub wires_steps : (level : Level) (wires : ℕ) (bytes rest : List ℕ) → 1 ≤ wires → wires ≤ WIRES_LIMIT → bytes ≡ codes "wires " ++ (decimal wires ++ (codes "\n" ++ rest)) → StepsTo (AtWires level) bytes (AtGates level wires) rest
wires_steps level wires bytes rest some few is = record { text = _; parts = valued_parts (codes "wires ") (decimal wires) bytes rest is; right = (wires, some, few, refl, refl) }

pub no_wires : (level : Level) (bytes : List ℕ) → ((n : ℕ) (rest : List ℕ) → 1 ≤ n → n ≤ WIRES_LIMIT → ¬ (bytes ≡ codes "wires " ++ (decimal n ++ (codes "\n" ++ rest)))) → (next : Progress) (rest : List ℕ) → ¬ StepsTo (AtWires level) bytes next rest
no_wires level bytes none next rest step =
    none step.right.0 rest step.right.1 step.right.2 (step.parts ∙ valued (codes "wires ") (decimal step.right.0) step.text rest step.right.3)

pub gates_steps : (level : Level) (wires gates : ℕ) (bytes rest : List ℕ) → gates ≤ LINES_LIMIT → bytes ≡ codes "gates " ++ (decimal gates ++ (codes "\n" ++ rest)) → StepsTo (AtGates level wires) bytes (AtTCount level wires gates) rest
gates_steps level wires gates bytes rest few is = record { text = _; parts = valued_parts (codes "gates ") (decimal gates) bytes rest is; right = (gates, few, refl, refl) }

pub no_gates : (level : Level) (wires : ℕ) (bytes : List ℕ) → ((n : ℕ) (rest : List ℕ) → 0 ≤ n → n ≤ LINES_LIMIT → ¬ (bytes ≡ codes "gates " ++ (decimal n ++ (codes "\n" ++ rest)))) → (next : Progress) (rest : List ℕ) → ¬ StepsTo (AtGates level wires) bytes next rest
no_gates level wires bytes none next rest step =
    none step.right.0 rest (omega arith) step.right.1 (step.parts ∙ valued (codes "gates ") (decimal step.right.0) step.text rest step.right.2)

pub t_count_steps : (level : Level) (wires gates : ℕ) (numeral bytes rest : List ℕ) → IsNumeral numeral → bytes ≡ codes "t-count " ++ (numeral ++ (codes "\n" ++ rest))
    → StepsTo (AtTCount level wires gates) bytes (InBody (record { level = level; wires = wires; gates = gates; t_count = numeral }) []) rest
t_count_steps level wires gates numeral bytes rest is_numeral is =
    record { text = _; parts = valued_parts (codes "t-count ") numeral bytes rest is; right = (numeral, is_numeral, refl, refl) }

pub no_t_count : (level : Level) (wires gates : ℕ) (bytes : List ℕ) → ((numeral rest : List ℕ) → IsNumeral numeral → ¬ (bytes ≡ codes "t-count " ++ (numeral ++ (codes "\n" ++ rest)))) → IsWrong (AtTCount level wires gates) bytes
no_t_count level wires gates bytes none =
    wrong_unlimited (AtTCount level wires gates) bytes tt refl (λ next rest step. none step.right.0 rest step.right.1 (step.parts ∙ valued (codes "t-count ") step.right.0 step.text rest step.right.2))
