-- Which bytes begin with no gate file, and how they are refused.
use Rattle.std.proofs.Common.{arith}
use Rattle.std.specs.Prelude.{◌≡◌, ◌≢◌, ℕ, ◌+◌, ◌<◌, nat_lt, if◌then◌else◌, List, ◌++◌, length, codes, decimal, Option, Some, None, refl}
use Rattle.std.specs.Fmt.{digits}
use Rattle.tw_gate.specs.declared.gate.Level.{Level}
use Rattle.tw_gate.specs.declared.gate.Level.TheVariants as levels
use Rattle.tw_gate.specs.Gates.{PlainGate}
use Rattle.tw_gate.specs.Weight.{t_count}
use Rattle.tw_text.specs.declared.refusal.Counted.{Counted}
use Rattle.tw_text.specs.declared.refusal.Counted.TheVariants as counted
use Rattle.tw_text.specs.declared.refusal.Rule.TheVariants as rule
use Rattle.tw_text.specs.declared.refusal.Refusal.{Refusal}
use Rattle.tw_text.specs.Places.{first_place}
use Rattle.tw_gatetext.specs.declared.file.GateFault.{GateFault}
use Rattle.tw_gatetext.specs.declared.file.GateFault.TheVariants as fault
use Rattle.tw_text.specs.Limits.{limit_of}
use Rattle.tw_text.specs.Refusals.{passed}
use Rattle.tw_gatetext.specs.Numerals.{Shows, Word}
use Rattle.tw_gatetext.specs.Lines.{Progress, AtWires, AtGates, InBody, Whole, Head, StepsTo, Reaches}

-- a limit on a number: the keyword and the space before it, and what it counts
pub record Limit : Type 0 where
  pub word : List ℕ
  pub what : Counted

abbrev pub wires_limit : Limit
wires_limit = record { word = codes "wires "; what = counted.Wires }

abbrev pub gates_limit : Limit
gates_limit = record { word = codes "gates "; what = counted.Lines }

abbrev pub mcx_limit : Limit
mcx_limit = record { word = codes "mcx "; what = counted.Controls }

-- the limit on the controls of a gate applies at the level of gates with any number of controls
abbrev pub controls_limit : Level → Option Limit
controls_limit levels.Mcx = Some mcx_limit
controls_limit level = None

-- the limit on the next line of a file, if there is one
abbrev pub limit_at : Progress → Option Limit
limit_at (AtWires level) = Some wires_limit
limit_at (AtGates level wires) = Some gates_limit
limit_at (InBody head gates) = if nat_lt (length gates) head.gates then controls_limit head.level else None
limit_at progress = None

-- the bytes pass a limit with the number after its keyword, whatever follows the number
pub record PassesLimit (limit : Limit) (bytes : List ℕ) (refusal : Refusal) : Type 0 where
  pub behind : List ℕ
  pub begins : bytes ≡ limit.word ++ behind
  pub found : ℕ
  pub shows : Shows behind found
  pub above : limit_of limit.what < found
  pub refused : refusal ≡ passed limit.what found first_place

-- the next line has a limit, and passes it
pub record Passes (progress : Progress) (bytes : List ℕ) (refusal : Refusal) : Type 0 where
  pub limit : Limit
  pub tried : limit_at progress ≡ Some limit
  pub exceeded : PassesLimit limit bytes refusal

-- the file has a further line at this point
abbrev pub GoesOn : Progress → Type 0
GoesOn (Whole head gates) = ⊥
GoesOn progress = Unit {0}

-- the next line is wrong: the file has a further line, the bytes do not begin with a right one, and they pass no limit
pub record IsWrong (progress : Progress) (bytes : List ℕ) : Type 0 where
  pub goes_on : GoesOn progress
  pub no_line : (next : Progress) (rest : List ℕ) → ¬ StepsTo progress bytes next rest
  pub no_limit : (refusal : Refusal) → ¬ Passes progress bytes refusal

-- Why bytes begin with no gate file. The first line that is not right is wrong, or passes a limit. Or all lines are right, and
-- the T-count, on line 5, is not that of the gates. Lines count from 1.
pub data IsRefusedText (bytes : List ℕ) (why : GateFault) : Type 0 where
  WrongLine : (before : ℕ) (progress : Progress) (rest : List ℕ) → Reaches bytes before progress rest → IsWrong progress rest
      → why ≡ fault.BadGateText (before + 1) → IsRefusedText bytes why
  PassedLimit : (before : ℕ) (progress : Progress) (rest : List ℕ) (refusal : Refusal) → Reaches bytes before progress rest → Passes progress rest refusal
      → why ≡ fault.Over refusal → IsRefusedText bytes why
  WrongTCount : (lines : ℕ) (head : Head) (gates : List PlainGate) (rest : List ℕ) → Reaches bytes lines (Whole head gates) rest
      → head.t_count ≢ decimal (t_count gates) → why ≡ fault.BadGateText 5 → IsRefusedText bytes why

-- a number of wires past its limit, with more bytes after it
pub Passes-wires : Passes (AtWires levels.Mcx) (codes "wires 1048577junk") (record { rule = rule.Limit counted.Wires; at = first_place; found = 1048577; limit = 1048576 })
unfolding digits
Passes-wires = record {
  limit = wires_limit;
  tried = refl;
  exceeded = record { behind = codes "1048577junk"; begins = refl; found = 1048577; shows = Word (omega arith) refl; above = omega arith; refused = refl };
}
