-- At most one right line follows the lines so far, and a right line keeps what is known of the file.
use Rattle.std.proofs.Common.{◌≡◌, ◌∙◌, ap, sym, ℕ, ◌≤◌, List, [], ◌∷◌, ◌++◌, length, codes, decimal, arith, append_assoc}
use Rattle.std.specs.List.{AllByRecursion}
use Rattle.std.proofs.lemmas.List.{append_cancel_left, length_push}
use Rattle.tw_text.specs.Digits.{digit_run}
use Rattle.tw_text.specs.declared.limits.TheConstants.{WIRES_LIMIT, LINES_LIMIT}
use Rattle.tw_gate.specs.Gates.{PlainGate}
use Rattle.tw_gatetext.specs.Text.{level_word, last_line}
use Rattle.tw_gatetext.specs.Valid.{FitsLevel, FitsWires}
use Rattle.tw_gatetext.specs.Lines.{Head, Progress, AtVersion, AtLevel, AtWires, AtGates, AtTCount, InBody, Whole, IsBodyLine, OfGate, Last, IsRight, StepsTo}
use Rattle.tw_gatetext.proofs.Lists.{all_push}
use Rattle.tw_gatetext.proofs.Delimited.{decimal_line-delimited}
use Rattle.tw_gatetext.proofs.DigitRuns.{digit_run-line}
use Rattle.tw_gatetext.proofs.OneToOne.{level-delimited, line-delimited}
use Rattle.tw_gatetext.proofs.Bounds.{small_numbers}

-- the numbers of a header are within their limits
pub record IsSoundHead (head : Head) : Type 0 where
  pub some_wires : 1 ≤ head.wires
  pub few_wires : head.wires ≤ WIRES_LIMIT
  pub few_gates : head.gates ≤ LINES_LIMIT

-- the gates fit the header
pub record FitHead (head : Head) (gates : List PlainGate) : Type 0 where
  pub limits : IsSoundHead head
  pub level : AllByRecursion (FitsLevel head.level) gates
  pub wires : AllByRecursion (FitsWires head.wires) gates

-- the values of the lines so far are within their limits
abbrev pub IsSound : Progress → Type 0
IsSound (AtGates level wires) = (1 ≤ wires) × (wires ≤ WIRES_LIMIT)
IsSound (AtTCount level wires gates) = (1 ≤ wires) × (wires ≤ WIRES_LIMIT) × (gates ≤ LINES_LIMIT)
IsSound (InBody head gates) = FitHead head gates × (length gates ≤ head.gates)
IsSound (Whole head gates) = FitHead head gates × (length gates ≡ head.gates)
IsSound progress = Unit {0}

numeral-delimited : (t u xs ys : List ℕ) → digit_run t ≡ t → digit_run u ≡ u → t ++ (codes "\n" ++ xs) ≡ u ++ (codes "\n" ++ ys) → (t ≡ u) × (xs ≡ ys)
numeral-delimited t u xs ys whole whole' e =
    let same : t ≡ u = sym (digit_run-line t xs whole) ∙ ap digit_run e ∙ digit_run-line u ys whole' in
    let behind = append_cancel_left t (codes "\n" ++ xs) (codes "\n" ++ ys) (e ∙ ap (λ (w : List ℕ). w ++ (codes "\n" ++ ys)) (sym same)) in
    (same, append_cancel_left (codes "\n") xs ys behind)

-- the suffix of a line of a keyword and a value after the keyword
pub valued : (word value text rest : List ℕ) → text ≡ word ++ (value ++ codes "\n") → text ++ rest ≡ word ++ (value ++ (codes "\n" ++ rest))
valued word value text rest is = rw is (simp append_assoc)

values : (word a b text text' rest rest' : List ℕ) → text ≡ word ++ (a ++ codes "\n") → text' ≡ word ++ (b ++ codes "\n") → text ++ rest ≡ text' ++ rest'
    → a ++ (codes "\n" ++ rest) ≡ b ++ (codes "\n" ++ rest')
values word a b text text' rest rest' is is' e =
    append_cancel_left word _ _ (sym (valued word a text rest is) ∙ e ∙ valued word b text' rest' is')

body-delimited : (head : Head) (gates : List PlainGate) (text text' rest rest' : List ℕ) (next next' : Progress) → head.wires ≤ WIRES_LIMIT
    → IsBodyLine head gates text next → IsBodyLine head gates text' next' → text ++ rest ≡ text' ++ rest' → (next ≡ next') × (rest ≡ rest')
body-delimited head gates text text' rest rest' next next' few (OfGate gate more level wires is comes) (OfGate gate' more' level' wires' is' comes') e =
    let both = line-delimited gate gate' rest rest' (small_numbers head.level head.wires gate few level wires) (small_numbers head.level head.wires gate' few level' wires')
    (ap (λ (t : List ℕ). t ++ rest) (sym is) ∙ e ∙ ap (λ (t : List ℕ). t ++ rest') is') in
    (comes ∙ ap (λ (g : PlainGate). InBody head (gates ++ g ∷ [])) both.0 ∙ sym comes', both.1)
body-delimited head gates text text' rest rest' next next' few (OfGate gate more level wires is comes) (Last all is' comes') e = absurd (omega arith)
body-delimited head gates text text' rest rest' next next' few (Last all is comes) (OfGate gate more level wires is' comes') e = absurd (omega arith)
body-delimited head gates text text' rest rest' next next' few (Last all is comes) (Last all' is' comes') e =
    (comes ∙ sym comes', append_cancel_left last_line rest rest' (ap (λ (t : List ℕ). t ++ rest) (sym is) ∙ e ∙ ap (λ (t : List ℕ). t ++ rest') is'))

right-delimited : (progress : Progress) (text text' rest rest' : List ℕ) (next next' : Progress) → IsSound progress → IsRight progress text next → IsRight progress text' next' → text ++ rest ≡ text' ++ rest'
    → (next ≡ next') × (rest ≡ rest')
right-delimited AtVersion text text' rest rest' next next' sound right right' e =
    (right.1 ∙ sym right'.1, append_cancel_left (codes "tower-gates 1\n") rest rest' (ap (λ (t : List ℕ). t ++ rest) (sym right.0) ∙ e ∙ ap (λ (t : List ℕ). t ++ rest') right'.0))
right-delimited AtLevel text text' rest rest' next next' sound right right' e =
    let both = level-delimited right.0 right'.0 rest rest' (values (codes "level ") (level_word right.0) (level_word right'.0) text text' rest rest' right.1 right'.1 e) in
    (right.2 ∙ ap AtWires both.0 ∙ sym right'.2, both.1)
right-delimited (AtWires level) text text' rest rest' next next' sound right right' e =
    let both = decimal_line-delimited right.0 right'.0 rest rest' (omega (arith, right.2)) (omega (arith, right'.2))
    (values (codes "wires ") (decimal right.0) (decimal right'.0) text text' rest rest' right.3 right'.3 e) in
    (right.4 ∙ ap (AtGates level) both.0 ∙ sym right'.4, both.1)
right-delimited (AtGates level wires) text text' rest rest' next next' sound right right' e =
    let both = decimal_line-delimited right.0 right'.0 rest rest' (omega (arith, right.1)) (omega (arith, right'.1))
    (values (codes "gates ") (decimal right.0) (decimal right'.0) text text' rest rest' right.2 right'.2 e) in
    (right.3 ∙ ap (AtTCount level wires) both.0 ∙ sym right'.3, both.1)
right-delimited (AtTCount level wires gates) text text' rest rest' next next' sound right right' e =
    let both = numeral-delimited right.0 right'.0 rest rest' right.1.whole right'.1.whole (values (codes "t-count ") right.0 right'.0 text text' rest rest' right.2 right'.2 e) in
    (right.3 ∙ ap (λ (t : List ℕ). InBody (record { level = level; wires = wires; gates = gates; t_count = t }) []) both.0 ∙ sym right'.3, both.1)
right-delimited (InBody head gates) text text' rest rest' next next' sound right right' e =
    body-delimited head gates text text' rest rest' next next' sound.0.limits.few_wires right right' e
right-delimited (Whole head gates) text text' rest rest' next next' sound right right' e = absurd right

pub one_step : (progress : Progress) (bytes : List ℕ) (next next' : Progress) (rest rest' : List ℕ) → IsSound progress → StepsTo progress bytes next rest → StepsTo progress bytes next' rest' → (next ≡ next') × (rest ≡ rest')
one_step progress bytes next next' rest rest' sound step step' =
    right-delimited progress step.text step'.text rest rest' next next' sound step.right step'.right (sym step.parts ∙ step'.parts)

sound_body : (head : Head) (gates : List PlainGate) (text : List ℕ) (next : Progress) → FitHead head gates → IsBodyLine head gates text next → IsSound next
sound_body head gates text next fit (OfGate gate more level wires is comes) =
    rw comes (record { limits = fit.limits; level = all_push _ gates gate fit.level level; wires = all_push _ gates gate fit.wires wires }, omega (arith, length_push gates gate))
sound_body head gates text next fit (Last all is comes) = rw comes (fit, all)

-- a right line has no value past a limit
pub sound_step : (progress : Progress) (text : List ℕ) (next : Progress) → IsSound progress → IsRight progress text next → IsSound next
sound_step AtVersion text next sound right = rw right.1 tt
sound_step AtLevel text next sound right = rw right.2 tt
sound_step (AtWires level) text next sound right = rw right.4 (right.1, right.2)
sound_step (AtGates level wires) text next sound right = rw right.3 (sound.0, sound.1, right.1)
sound_step (AtTCount level wires gates) text next sound right =
    rw right.3 (record { limits = record { some_wires = sound.0; few_wires = sound.1; few_gates = sound.2 }; level = tt; wires = tt }, omega arith)
sound_step (InBody head gates) text next sound right = sound_body head gates text next sound.0 right
sound_step (Whole head gates) text next sound right = absurd right
