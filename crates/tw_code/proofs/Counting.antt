-- How many gates are emitted, by their numbers of controls.
use Rattle.std.proofs.Common.{◌≡◌, ◌∙◌, ap, refl, ℕ, suc, ◌+◌, ◌*◌, ◌<◌, ◌==◌, nat_eq, ⊎_elim, if◌then◌else◌, Bool, true, false, List, [], ◌∷◌, ◌++◌, length, arith, length-append}
use Rattle.std.proofs.lemmas.List.Sums.{sum_by-append, sum_by-cons}
use Rattle.std.proofs.lemmas.Bool.{cases_lt, eq-eqb}
use Rattle.std.specs.List.{AllByRecursion, count_by}
use Rattle.tw_gate.specs.Gates.{PlainGate, X, H, T, Tdg}
use Rattle.tw_code.specs.declared.code.Options.{Options}
use Rattle.tw_code.specs.Trees.{CodeTree, Nothing, Then, FlipCode, IfCode, WithCode, ConjCode, sequence}
use Rattle.tw_code.specs.Sorting.{sorted}
use Rattle.tw_code.specs.Emission.{emitted, HasControlsUpTo}
use Rattle.tw_code.specs.Counts.{counts, neither, has_controls}
use Rattle.tw_code.proofs.Sorting.{length-sorted}

-- 1 for true, else 0
abbrev one_if : Bool → ℕ
one_if k = if k then 1 else 0

count-append : (wanted : ℕ) (xs ys : List PlainGate) → count_by (has_controls wanted) (xs ++ ys) ≡ count_by (has_controls wanted) xs + count_by (has_controls wanted) ys
count-append wanted xs ys = sum_by-append (λ gate. one_if (has_controls wanted gate)) xs ys

-- a setup, the work, and the setup undone
count_around : (wanted : ℕ) (xs ys zs : List PlainGate) (a b : ℕ) → count_by (has_controls wanted) xs ≡ a → count_by (has_controls wanted) ys ≡ b → count_by (has_controls wanted) zs ≡ a
    → count_by (has_controls wanted) (xs ++ (ys ++ zs)) ≡ 2 * a + b
count_around wanted xs ys zs a b first second third = omega (arith, count-append wanted xs (ys ++ zs), count-append wanted ys zs, first, second, third)

-- the emitted gates have the counts of the code
pub counts-emitted : (code : CodeTree) (backward : Bool) (present : List ℕ) (wanted : ℕ) → count_by (has_controls wanted) (emitted code backward present) ≡ counts neither code (length present) wanted
counts-emitted Nothing backward present wanted = refl
counts-emitted (Then first rest) false present wanted =
    omega (arith, count-append wanted (emitted first false present) (emitted rest false present), counts-emitted first false present wanted, counts-emitted rest false present wanted)
counts-emitted (Then first rest) true present wanted =
    omega (arith, count-append wanted (emitted rest true present) (emitted first true present), counts-emitted first true present wanted, counts-emitted rest true present wanted)
counts-emitted (FlipCode controls target) backward present wanted =
    let one : ℕ → ℕ = λ n. if n == wanted then 1 else 0 in
    let same : one (length (sorted (controls ++ present))) ≡ one (length controls + length present) = ap one (length-sorted (controls ++ present) ∙ length-append controls present) in
    omega (arith, same)
counts-emitted (IfCode wire body) backward present wanted =
    let more : suc (length present) ≡ length present + 1 = omega arith in
    counts-emitted body backward (wire ∷ present) wanted ∙ ap (λ n. counts neither body n wanted) more
counts-emitted (WithCode setup work) backward present wanted =
    count_around wanted (emitted setup false present) (emitted work backward present) (emitted setup true present) _ _
    (counts-emitted setup false present wanted) (counts-emitted work backward present wanted) (counts-emitted setup true present wanted)
counts-emitted (ConjCode setup work) backward present wanted =
    count_around wanted (emitted setup false []) (emitted work backward present) (emitted setup true []) _ _
    (counts-emitted setup false [] wanted) (counts-emitted work backward present wanted) (counts-emitted setup true [] wanted)

-- the counts of two sequences, one after the other, are added
pub counts-sequence : (options : Options) (xs ys : List CodeTree) (present wanted : ℕ) → counts options (sequence (xs ++ ys)) present wanted ≡ counts options (sequence xs) present wanted + counts options (sequence ys) present wanted
counts-sequence options [] ys present wanted = omega arith
counts-sequence options (code ∷ xs) ys present wanted = omega (arith, counts-sequence options xs ys present wanted)

few_gate : (most : ℕ) (gate : PlainGate) → ((wanted : ℕ) → most < wanted → one_if (has_controls wanted gate) ≡ 0) → HasControlsUpTo most gate
few_gate most (X controls target) none =
    ⊎_elim (λ more. let one : nat_eq (length controls) (length controls) ≡ true = eq-eqb (length controls) (length controls) refl in
    let same : one_if (nat_eq (length controls) (length controls)) ≡ 1 = ap one_if one in
    absurd (omega (arith, same, none (length controls) more)))
    (λ few. few) (cases_lt most (length controls))
few_gate most (H wire) none = omega arith
few_gate most (T wire) none = omega arith
few_gate most (Tdg wire) none = omega arith

-- gates, none of which has more than this number of controls by their counts
few_from_counts : (most : ℕ) (gates : List PlainGate) → ((wanted : ℕ) → most < wanted → count_by (has_controls wanted) gates ≡ 0) → AllByRecursion (HasControlsUpTo most) gates
few_from_counts most [] none = tt
few_from_counts most (gate ∷ gates) none =
    let first : (wanted : ℕ) → count_by (has_controls wanted) (gate ∷ gates) ≡ one_if (has_controls wanted gate) + count_by (has_controls wanted) gates = λ wanted. sum_by-cons (λ x. one_if (has_controls wanted x)) gate gates in
    (few_gate most gate (λ wanted more. omega (arith, first wanted, none wanted more)), few_from_counts most gates (λ wanted more. omega (arith, first wanted, none wanted more)))

-- The gates of a code have at most this number of controls if its counts of larger numbers are 0.
pub few-emitted : (most : ℕ) (code : CodeTree) (backward : Bool) (present : List ℕ) → ((wanted : ℕ) → most < wanted → counts neither code (length present) wanted ≡ 0) → AllByRecursion (HasControlsUpTo most) (emitted code backward present)
few-emitted most code backward present none = few_from_counts most (emitted code backward present) (λ wanted more. counts-emitted code backward present wanted ∙ none wanted more)
