-- No right line passes a limit, and a line that passes a limit is refused in one way.
use Rattle.std.proofs.Common.{◌≡◌, ◌∙◌, ap, sym, subst, ℕ, ◌<◌, ◌≤◌, ◌^◌, ◌⊎◌, inl, inr, Bool, true, false, cond, List, [], ◌∷◌, ◌++◌, length, codes, decimal, Some, None, refl, arith, append_assoc}
use Rattle.std.specs.Char.{is_ascii_digit}
use Rattle.std.proofs.lemmas.Option.{none-some, same_Some}
use Rattle.std.proofs.lemmas.Fmt.{decimal_injective}
use Rattle.std.proofs.lemmas.List.{append_cancel_left}
use Rattle.tw_text.specs.Places.{first_place}
use Rattle.tw_text.specs.declared.refusal.Refusal.{Refusal}
use Rattle.tw_text.specs.Limits.{limit_of}
use Rattle.tw_text.specs.Refusals.{passed}
use Rattle.tw_text.proofs.Decimals.{digit_run-decimal}
use Rattle.tw_gate.specs.declared.gate.Level.{Level}
use Rattle.tw_gate.specs.declared.gate.Level.TheVariants as levels
use Rattle.tw_gate.specs.Gates.{PlainGate, X, H, T, Tdg}
use Rattle.tw_gatetext.specs.Text.{spaced, line, last_line}
use Rattle.tw_gatetext.specs.Valid.{FitsLevel}
use Rattle.tw_gatetext.specs.Numerals.{Shows, Word, Larger}
use Rattle.tw_gatetext.specs.Lines.{Head, Progress, AtVersion, AtLevel, AtWires, AtGates, AtTCount, InBody, Whole, IsBodyLine, OfGate, Last, IsRight, StepsTo}
use Rattle.tw_gatetext.specs.Refused.{Limit, wires_limit, gates_limit, mcx_limit, controls_limit, limit_at, PassesLimit, Passes}
use Rattle.tw_gatetext.proofs.Limits.{shows_one}
use Rattle.tw_gatetext.proofs.OneToOne.{line-letters}
use Rattle.tw_gatetext.proofs.RightLines.{valued}

-- a text that begins with a number shows that number
shown-decimal : (n c : ℕ) (rest : List ℕ) (found : ℕ) → n < 2 ^ 64 → is_ascii_digit c ≡ false → Shows (decimal n ++ c ∷ rest) found → found ≡ n
shown-decimal n c rest found small none (Word small' is) = decimal_injective found n small' small (sym is ∙ digit_run-decimal n c rest small none)
shown-decimal n c rest found small none (Larger larger is) = absurd (larger.no_word n small (digit_run-decimal n c rest small none))

one_passed : (limit : Limit) (bytes : List ℕ) (refusal other : Refusal) → PassesLimit limit bytes refusal → PassesLimit limit bytes other → refusal ≡ other
one_passed limit bytes refusal other p p' =
    let behind = append_cancel_left limit.word p.behind p'.behind (sym p.begins ∙ p'.begins) in
    let found = shows_one p'.behind p.found p'.found (subst (λ (b : List ℕ). Shows b p.found) behind p.shows) p'.shows in
    p.refused ∙ ap (λ (f : ℕ). passed limit.what f first_place) found ∙ sym p'.refused

pub one_limit : (progress : Progress) (bytes : List ℕ) (refusal other : Refusal) → Passes progress bytes refusal → Passes progress bytes other → refusal ≡ other
one_limit progress bytes refusal other p p' =
    let same = same_Some p.limit p'.limit (sym p.tried ∙ p'.tried) in
    one_passed p'.limit bytes refusal other (subst (λ (l : Limit). PassesLimit l bytes refusal) same p.exceeded) p'.exceeded

-- a number within its limit does not pass it
within : (limit : Limit) (n : ℕ) (text rest : List ℕ) (refusal : Refusal) → n < 2 ^ 64 → n ≤ limit_of limit.what → text ≡ limit.word ++ (decimal n ++ codes "\n") → ¬ PassesLimit limit (text ++ rest) refusal
within limit n text rest refusal small few is p =
    let behind = append_cancel_left limit.word p.behind (decimal n ++ (codes "\n" ++ rest)) (sym p.begins ∙ valued limit.word (decimal n) text rest is) in
    let found = shown-decimal n 10 rest p.found small refl (subst (λ (b : List ℕ). Shows b p.found) behind p.shows) in
    omega (arith, p.above)

other_word : (b : ℕ) (xs behind : List ℕ) → b < 109 ⊎ 109 < b → b ∷ xs ≡ codes "mcx " ++ behind → ⊥
other_word b xs behind other e = let same : b ≡ 109 = cc in omega (arith, other)

no_mcx : (gate : PlainGate) (rest : List ℕ) (refusal : Refusal) → FitsLevel levels.Mcx gate → ¬ PassesLimit mcx_limit (line gate ++ rest) refusal
no_mcx (X [] target) rest refusal fits p = other_word 120 _ p.behind (inr (omega arith)) p.begins
no_mcx (X (a ∷ []) target) rest refusal fits p = other_word 99 _ p.behind (inl (omega arith)) p.begins
no_mcx (X (a ∷ b ∷ []) target) rest refusal fits p = other_word 99 _ p.behind (inl (omega arith)) p.begins
no_mcx (X (a ∷ b ∷ c ∷ more) target) rest refusal fits p =
    let n = length (a ∷ b ∷ c ∷ more) in
    let numbers = spaced (a ∷ b ∷ c ∷ (more ++ target ∷ [])) in
    let nested : codes "mcx " ++ p.behind ≡ codes "mcx " ++ ((decimal n ++ numbers) ++ (codes "\n" ++ rest)) =
    sym p.begins ∙ line-letters (X (a ∷ b ∷ c ∷ more) target) rest in
    let behind = append_cancel_left (codes "mcx ") p.behind _ nested ∙ append_assoc (decimal n) numbers (codes "\n" ++ rest) in
    let found = shown-decimal n 32 _ p.found (omega arith) refl (subst (λ (b : List ℕ). Shows b p.found) behind p.shows) in
    omega (arith, p.above)
no_mcx (H wire) rest refusal fits p = fits
no_mcx (T wire) rest refusal fits p = fits
no_mcx (Tdg wire) rest refusal fits p = fits

same_limit : (limit other : Limit) (bytes : List ℕ) (refusal : Refusal) → Some other ≡ Some limit → PassesLimit limit bytes refusal → PassesLimit other bytes refusal
same_limit limit other bytes refusal tried p = subst (λ (l : Limit). PassesLimit l bytes refusal) (same_Some limit other (sym tried)) p

tried_controls : (k : Bool) (level : Level) (limit : Limit) → cond k (controls_limit level) None ≡ Some limit → controls_limit level ≡ Some limit
tried_controls true level limit tried = tried
tried_controls false level limit tried = absurd (none-some limit tried)

no_controls : (level : Level) (gate : PlainGate) (limit : Limit) (rest : List ℕ) (refusal : Refusal) → FitsLevel level gate → controls_limit level ≡ Some limit → ¬ PassesLimit limit (line gate ++ rest) refusal
no_controls levels.Mcx gate limit rest refusal fits tried p = no_mcx gate rest refusal fits (same_limit limit mcx_limit _ refusal tried p)
no_controls levels.Tof gate limit rest refusal fits tried p = none-some limit tried
no_controls levels.T gate limit rest refusal fits tried p = none-some limit tried

not_last : (level : Level) (limit : Limit) (rest : List ℕ) (refusal : Refusal) → controls_limit level ≡ Some limit → ¬ PassesLimit limit (last_line ++ rest) refusal
not_last levels.Mcx limit rest refusal tried p = other_word 101 _ _ (inl (omega arith)) (same_limit limit mcx_limit _ refusal tried p).begins
not_last levels.Tof limit rest refusal tried p = none-some limit tried
not_last levels.T limit rest refusal tried p = none-some limit tried

body_within : (head : Head) (gates : List PlainGate) (k : Bool) (text rest : List ℕ) (next : Progress) (limit : Limit) (refusal : Refusal) → IsBodyLine head gates text next
    → cond k (controls_limit head.level) None ≡ Some limit → ¬ PassesLimit limit (text ++ rest) refusal
body_within head gates k text rest next limit refusal (OfGate gate more level wires is comes) tried p =
    no_controls head.level gate limit rest refusal level (tried_controls k head.level limit tried) (subst (λ (t : List ℕ). PassesLimit limit (t ++ rest) refusal) is p)
body_within head gates k text rest next limit refusal (Last all is comes) tried p =
    not_last head.level limit rest refusal (tried_controls k head.level limit tried) (subst (λ (t : List ℕ). PassesLimit limit (t ++ rest) refusal) is p)

right_within : (progress : Progress) (text rest : List ℕ) (next : Progress) (limit : Limit) (refusal : Refusal) → IsRight progress text next → limit_at progress ≡ Some limit → ¬ PassesLimit limit (text ++ rest) refusal
right_within AtVersion text rest next limit refusal right tried p = none-some limit tried
right_within AtLevel text rest next limit refusal right tried p = none-some limit tried
right_within (AtWires level) text rest next limit refusal right tried p =
    within _ right.0 text rest refusal (omega (arith, right.2)) right.2 right.3 (same_limit limit wires_limit _ refusal tried p)
right_within (AtGates level wires) text rest next limit refusal right tried p =
    within _ right.0 text rest refusal (omega (arith, right.1)) right.1 right.2 (same_limit limit gates_limit _ refusal tried p)
right_within (AtTCount level wires gates) text rest next limit refusal right tried p = none-some limit tried
right_within (InBody head gates) text rest next limit refusal right tried p = body_within head gates _ text rest next limit refusal right tried p
right_within (Whole head gates) text rest next limit refusal right tried p = right

pub no_limit : (progress : Progress) (bytes : List ℕ) (next : Progress) (rest : List ℕ) (refusal : Refusal) → StepsTo progress bytes next rest → ¬ Passes progress bytes refusal
no_limit progress bytes next rest refusal step p =
    right_within progress step.text rest next p.limit refusal step.right p.tried (subst (λ (b : List ℕ). PassesLimit p.limit b refusal) step.parts p.exceeded)
