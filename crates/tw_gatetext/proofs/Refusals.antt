-- Bytes that are refused begin with no gate file, and are refused in one way.
use Rattle.std.proofs.Common.{◌≡◌, ◌∙◌, ap, sym, subst, subst₂, ℕ, ◌+◌, List, length, decimal}
use Rattle.std.proofs.lemmas.Option.{none-some}
use Rattle.tw_text.specs.declared.refusal.Refusal.{Refusal}
use Rattle.tw_gate.specs.Gates.{PlainGate}
use Rattle.tw_gate.specs.Weight.{t_count}
use Rattle.tw_gatetext.specs.declared.file.GateFault.{GateFault}
use Rattle.tw_gatetext.specs.declared.file.GateFault.TheVariants as fault
use Rattle.tw_gatetext.specs.Text.{File}
use Rattle.tw_gatetext.specs.Files.{BeginsWith}
use Rattle.tw_gatetext.specs.Lines.{Head, Progress, Whole}
use Rattle.tw_gatetext.specs.Refused.{Passes, GoesOn, IsWrong, IsRefusedText, WrongLine, PassedLimit, WrongTCount}
use Rattle.tw_gatetext.proofs.Chains.{EndsAt, one_end}
use Rattle.tw_gatetext.proofs.WithinLimits.{no_limit, one_limit}
use Rattle.tw_gatetext.proofs.WholeFiles.{head_of, file_reaches}

-- the T-count on line 5 of a whole file is that of its gates
abbrev IsCounted : Progress → Type 0
IsCounted (Whole head gates) = head.t_count ≡ decimal (t_count gates)
IsCounted progress = Unit {0}

-- the refusal of bytes whose right lines end here
data Reason (lines : ℕ) (at : Progress) (rest : List ℕ) (why : GateFault) : Type 0 where
  Wrong : IsWrong at rest → why ≡ fault.BadGateText (lines + 1) → Reason lines at rest why
  Passed : (refusal : Refusal) → Passes at rest refusal → why ≡ fault.Over refusal → Reason lines at rest why
  Miscounted : ¬ GoesOn at → ¬ IsCounted at → why ≡ fault.BadGateText 5 → Reason lines at rest why

-- the right lines of refused bytes end, for a reason
record EndsFor (bytes : List ℕ) (why : GateFault) : Type 0 where
  lines : ℕ
  at : Progress
  rest : List ℕ
  ends : EndsAt bytes lines at rest
  reason : Reason lines at rest why

ended : (bytes : List ℕ) (why : GateFault) → IsRefusedText bytes why → EndsFor bytes why
ended bytes why (WrongLine before progress rest chain wrong is) =
    record { lines = before; at = progress; rest = rest; ends = record { chain = chain; end = wrong.no_line }; reason = Wrong wrong is }
ended bytes why (PassedLimit before progress rest refusal chain passes is) =
    record {
      lines = before;
      at = progress;
      rest = rest;
      ends = record { chain = chain; end = λ next behind step. no_limit progress rest next behind refusal step passes };
      reason = Passed refusal passes is;
    }
ended bytes why (WrongTCount lines head gates rest chain other is) =
    record {
      lines = lines;
      at = Whole head gates;
      rest = rest;
      ends = record { chain = chain; end = λ next behind step. step.right };
      reason = Miscounted (λ on. on) other is;
    }

-- if a limit is passed, the file has a further line
limited : (at : Progress) (rest : List ℕ) (refusal : Refusal) → Passes at rest refusal → GoesOn at
limited (Whole head gates) rest refusal passes = none-some passes.limit passes.tried
limited at rest refusal passes = tt

one_reason : (lines : ℕ) (at : Progress) (rest : List ℕ) (why other : GateFault) → Reason lines at rest why → Reason lines at rest other → other ≡ why
one_reason lines at rest why other (Wrong wrong is) (Wrong wrong' is') = is' ∙ sym is
one_reason lines at rest why other (Wrong wrong is) (Passed refusal passes is') = absurd (wrong.no_limit refusal passes)
one_reason lines at rest why other (Wrong wrong is) (Miscounted whole count is') = absurd (whole wrong.goes_on)
one_reason lines at rest why other (Passed refusal passes is) (Wrong wrong is') = absurd (wrong.no_limit refusal passes)
one_reason lines at rest why other (Passed refusal passes is) (Passed refusal' passes' is') = is' ∙ ap fault.Over (one_limit at rest refusal' refusal passes' passes) ∙ sym is
one_reason lines at rest why other (Passed refusal passes is) (Miscounted whole count is') = absurd (whole (limited at rest refusal passes))
one_reason lines at rest why other (Miscounted whole count is) (Wrong wrong is') = absurd (whole wrong.goes_on)
one_reason lines at rest why other (Miscounted whole count is) (Passed refusal passes is') = absurd (whole (limited at rest refusal passes))
one_reason lines at rest why other (Miscounted whole count is) (Miscounted whole' count' is') = is' ∙ sym is

-- two ends have the same reason
same_reason : (bytes : List ℕ) (m n : ℕ) (at at' : Progress) (rest rest' : List ℕ) (why : GateFault) → EndsAt bytes m at rest → EndsAt bytes n at' rest' → Reason m at rest why → Reason n at' rest' why
same_reason bytes m n at at' rest rest' why ends ends' reason =
    let same = one_end bytes m n at at' rest rest' ends ends' in
    subst (λ (k : ℕ). Reason k at' rest' why) same.0 (subst₂ (λ (s : Progress) (r : List ℕ). Reason m s r why) same.1 same.2 reason)

pub one_refusal : (bytes : List ℕ) (why other : GateFault) → IsRefusedText bytes why → IsRefusedText bytes other → other ≡ why
one_refusal bytes why other refused refused' =
    let a = ended bytes why refused in
    let b = ended bytes other refused' in
    one_reason b.lines b.at b.rest why other (same_reason bytes a.lines b.lines a.at b.at a.rest b.rest why a.ends b.ends a.reason) b.reason

no_reason : (lines : ℕ) (head : Head) (gates : List PlainGate) (rest : List ℕ) (why : GateFault) → head.t_count ≡ decimal (t_count gates) → ¬ Reason lines (Whole head gates) rest why
no_reason lines head gates rest why counted (Wrong wrong is) = wrong.goes_on
no_reason lines head gates rest why counted (Passed refusal passes is) = limited (Whole head gates) rest refusal passes
no_reason lines head gates rest why counted (Miscounted whole count is) = count counted

pub no_file : (bytes : List ℕ) (why : GateFault) (file : File) (rest : List ℕ) → IsRefusedText bytes why → ¬ BeginsWith bytes file rest
no_file bytes why file rest refused begins =
    let a = ended bytes why refused in
    let ends : EndsAt bytes (length file.gates + 6) (Whole (head_of file) file.gates) rest =
    record { chain = file_reaches bytes file rest begins; end = λ next behind step. step.right } in
    no_reason _ (head_of file) file.gates rest why (ap decimal begins.valid.counted)
    (same_reason bytes a.lines (length file.gates + 6) a.at (Whole (head_of file) file.gates) a.rest rest why a.ends ends a.reason)
