-- Chains of right lines from the start of the bytes. The number of lines determines where a chain ends, and a longer chain passes
-- through each shorter one.
use Rattle.std.proofs.Common.{◌≡◌, sym, subst, subst₂, ℕ, ◌<◌, List, inl, inr, refl, arith}
use Rattle.std.proofs.lemmas.Bool.{cases_lt, cases_order}
use Rattle.tw_gatetext.specs.Lines.{Progress, StepsTo, Reaches, Start, Line}
use Rattle.tw_gatetext.proofs.RightLines.{IsSound, one_step, sound_step}

pub sound : (bytes : List ℕ) (lines : ℕ) (at : Progress) (rest : List ℕ) → Reaches bytes lines at rest → IsSound at
sound bytes lines at rest Start = tt
sound bytes lines at rest (Line before progress behind next rest' chain step) =
    sound_step progress step.text next (sound bytes before progress behind chain) step.right

pub one_way : (bytes : List ℕ) (m n : ℕ) (at at' : Progress) (rest rest' : List ℕ) → m ≡ n → Reaches bytes m at rest → Reaches bytes n at' rest' → (at ≡ at') × (rest ≡ rest')
one_way bytes m n at at' rest rest' e Start Start = (refl, refl)
one_way bytes m n at at' rest rest' e Start (Line lines progress behind next rest'' chain step) = absurd (omega arith)
one_way bytes m n at at' rest rest' e (Line lines progress behind next rest'' chain step) Start = absurd (omega arith)
one_way bytes m n at at' rest rest' e (Line lines progress behind next after chain step) (Line lines' progress' behind' next' after' chain' step') =
    let both = one_way bytes lines lines' progress progress' behind behind' (omega arith) chain chain' in
    one_step progress behind next next' after after' (sound bytes lines progress behind chain) step
    (subst₂ (λ (s : Progress) (b : List ℕ). StepsTo s b next' after') (sym both.0) (sym both.1) step')

-- a line that continues a chain after this number of lines
pub record GoesBy (bytes : List ℕ) (lines : ℕ) : Type 0 where
  pub at : Progress
  pub behind : List ℕ
  pub next : Progress
  pub rest : List ℕ
  pub chain : Reaches bytes lines at behind
  pub step : StepsTo at behind next rest

through : (bytes : List ℕ) (m n : ℕ) (at : Progress) (rest : List ℕ) → m < n → Reaches bytes n at rest → GoesBy bytes m
through bytes m n at rest less Start = absurd (omega arith)
through bytes m n at rest less (Line lines progress behind next after chain step) =
    elim (cases_lt m lines) [
      | inl fewer ↦ through bytes m lines progress behind fewer chain
      | inr all ↦ record { at = progress; behind = behind; next = next; rest = after; chain = subst (λ (k : ℕ). Reaches bytes k progress behind) (omega arith) chain; step = step }
    ]

-- if a longer chain continues with a line, a shorter one does
pub goes_on : (bytes : List ℕ) (m n : ℕ) (at at' : Progress) (rest rest' : List ℕ) → m < n → Reaches bytes m at rest → Reaches bytes n at' rest'
    → (next : Progress) × (behind : List ℕ) × StepsTo at rest next behind
goes_on bytes m n at at' rest rest' less chain longer =
    let by = through bytes m n at' rest' less longer in
    let both = one_way bytes m m by.at at by.behind rest refl by.chain chain in
    (by.next, by.rest, subst₂ (λ (s : Progress) (b : List ℕ). StepsTo s b by.next by.rest) both.0 both.1 by.step)

-- a chain ends here: no right line follows
pub record EndsAt (bytes : List ℕ) (lines : ℕ) (at : Progress) (rest : List ℕ) : Type 0 where
  pub chain : Reaches bytes lines at rest
  pub end : (next : Progress) (behind : List ℕ) → ¬ StepsTo at rest next behind

pub one_end : (bytes : List ℕ) (m n : ℕ) (at at' : Progress) (rest rest' : List ℕ) → EndsAt bytes m at rest → EndsAt bytes n at' rest' → (m ≡ n) × (at ≡ at') × (rest ≡ rest')
one_end bytes m n at at' rest rest' ends ends' =
    elim (cases_order m n) [
      | inl same ↦ let both = one_way bytes m n at at' rest rest' same ends.chain ends'.chain in (same, both.0, both.1)
      | inr (inl less) ↦ let on = goes_on bytes m n at at' rest rest' less ends.chain ends'.chain in absurd (ends.end on.0 on.1 on.2)
      | inr (inr more) ↦ let on = goes_on bytes n m at' at rest' rest more ends'.chain ends.chain in absurd (ends'.end on.0 on.1 on.2)
    ]
