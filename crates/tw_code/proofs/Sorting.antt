-- Numbers in ascending order: what sorting keeps, and what a sort in place gives.
use Rattle.std.proofs.Common.{◌≡◌, ◌≢◌, ◌∙◌, ap, sym, refl, ℕ, suc, ◌+◌, ◌<◌, ◌≤◌, ◌==◌, nat_le, if◌then◌else◌, Bool, true, false, ◌&&◌, List, [], ◌∷◌, length, get_or, ⊎_elim, arith}
use Rattle.std.proofs.lemmas.Bool.{cond_both, leb-true, leb-false, eq-eqb, ne_eqb, cases_lt}
use Rattle.std.proofs.lemmas.List.Recursion.{is_sum_by}
use Rattle.std.proofs.lemmas.List.Sorted.{IsNonDecreasingBy-from_sort, sum_by-IsPermutation}
use Rattle.std.specs.List.{AllByRecursion}
use Rattle.std.specs.List.Sorted.{IsPermutation, IsNonDecreasing, IsSorted}
use Rattle.std.specs.Ordering.{nat_cmp}
use Rattle.tw_bits.specs.Lists.{bit_at}
use Rattle.tw_gate.specs.Gates.{all_one, Ascends, IsNotAmong}
use Rattle.tw_code.specs.Sorting.{inserted, sorted}
use Rattle.tw_code.specs.Wires.{AreDistinct}
use Rattle.tw_code.proofs.Lists.{all_weaker}

pub length-inserted : (n : ℕ) (ns : List ℕ) → length (inserted n ns) ≡ suc (length ns)
length-inserted n [] = refl
length-inserted n (first ∷ rest) =
    cond_both (nat_le n first) (n ∷ first ∷ rest) (first ∷ inserted n rest) (λ l. length l ≡ suc (suc (length rest))) (λ e. refl) (λ e. ap suc (length-inserted n rest))

pub length-sorted : (ns : List ℕ) → length (sorted ns) ≡ length ns
length-sorted [] = refl
length-sorted (n ∷ others) = length-inserted n (sorted others) ∙ ap suc (length-sorted others)

and_swap : (a b c : Bool) → (a && (b && c)) ≡ (b && (a && c))
and_swap true b c = refl
and_swap false true c = refl
and_swap false false c = refl

all_one-inserted : (n : ℕ) (ns : List ℕ) (bits : List Bool) → all_one (inserted n ns) bits ≡ (bit_at bits n && all_one ns bits)
all_one-inserted n [] bits = refl
all_one-inserted n (first ∷ rest) bits =
    cond_both (nat_le n first) (n ∷ first ∷ rest) (first ∷ inserted n rest) (λ l. all_one l bits ≡ (bit_at bits n && (bit_at bits first && all_one rest bits))) (λ e. refl)
    (λ e. ap (λ others. bit_at bits first && others) (all_one-inserted n rest bits) ∙ and_swap (bit_at bits first) (bit_at bits n) (all_one rest bits))

-- the order of wires does not matter to whether all are 1
pub all_one-sorted : (ns : List ℕ) (bits : List Bool) → all_one (sorted ns) bits ≡ all_one ns bits
all_one-sorted [] bits = refl
all_one-sorted (n ∷ others) bits = all_one-inserted n (sorted others) bits ∙ ap (λ one. bit_at bits n && one) (all_one-sorted others bits)

all-inserted : (P : ℕ → Type 0) (n : ℕ) (ns : List ℕ) → P n → AllByRecursion P ns → AllByRecursion P (inserted n ns)
all-inserted P n [] own all = (own, tt)
all-inserted P n (first ∷ rest) own all =
    cond_both (nat_le n first) (n ∷ first ∷ rest) (first ∷ inserted n rest) (AllByRecursion P) (λ e. (own, all)) (λ e. (all.0, all-inserted P n rest own all.1))

pub all-sorted : (P : ℕ → Type 0) (ns : List ℕ) → AllByRecursion P ns → AllByRecursion P (sorted ns)
all-sorted P [] all = tt
all-sorted P (n ∷ others) all = all-inserted P n (sorted others) all.0 (all-sorted P others all.1)

-- each number is below all later ones
abbrev Climbs : List ℕ → Type 0
Climbs [] = Unit {0}
Climbs (n ∷ rest) = AllByRecursion (λ m. n < m) rest × Climbs rest

climbs-inserted : (n : ℕ) (ns : List ℕ) → Climbs ns → IsNotAmong n ns → Climbs (inserted n ns)
climbs-inserted n [] climbs apart = (tt, tt)
climbs-inserted n (first ∷ rest) climbs apart =
    cond_both (nat_le n first) (n ∷ first ∷ rest) (first ∷ inserted n rest) Climbs
    (λ e. let least : n ≤ first = leb-true n first e in
    let ne : n ≢ first = apart.0 in
    let less : n < first = omega arith in
    ((less, all_weaker (λ m. first < m) (λ m. n < m) (λ m above. omega arith) rest climbs.0), climbs))
    (λ e. let less : first < n = leb-false n first e in
    (all-inserted (λ m. first < m) n rest less climbs.0, climbs-inserted n rest climbs.1 apart.1))

climbs-sorted : (ns : List ℕ) → AreDistinct ns → Climbs (sorted ns)
climbs-sorted [] distinct = tt
climbs-sorted (n ∷ others) distinct = climbs-inserted n (sorted others) (climbs-sorted others distinct.1) (all-sorted (λ a. n ≢ a) others distinct.0)

ascends_from_climbs : (ns : List ℕ) → Climbs ns → Ascends ns
ascends_from_climbs [] climbs = tt
ascends_from_climbs (a ∷ []) climbs = tt
ascends_from_climbs (a ∷ b ∷ rest) climbs = (climbs.0.0, ascends_from_climbs (b ∷ rest) climbs.1)

climbs_from_ascends : (ns : List ℕ) → Ascends ns → Climbs ns
climbs_from_ascends [] ascends = tt
climbs_from_ascends (a ∷ []) ascends = (tt, tt)
climbs_from_ascends (a ∷ b ∷ rest) ascends =
    let others : Climbs (b ∷ rest) = climbs_from_ascends (b ∷ rest) ascends.1 in
    let less : a < b = ascends.0 in
    ((less, all_weaker (λ m. b < m) (λ m. a < m) (λ m above. omega arith) rest others.0), others)

distinct_from_climbs : (ns : List ℕ) → Climbs ns → AreDistinct ns
distinct_from_climbs [] climbs = tt
distinct_from_climbs (n ∷ rest) climbs = (all_weaker (λ m. n < m) (λ m. n ≢ m) (λ m above same. omega arith) rest climbs.0, distinct_from_climbs rest climbs.1)

-- distinct numbers ascend strictly when sorted
pub ascends-sorted : (ns : List ℕ) → AreDistinct ns → Ascends (sorted ns)
ascends-sorted ns distinct = ascends_from_climbs (sorted ns) (climbs-sorted ns distinct)

-- numbers that ascend strictly are distinct
pub distinct_from_ascends : (ns : List ℕ) → Ascends ns → AreDistinct ns
distinct_from_ascends ns ascends = distinct_from_climbs ns (climbs_from_ascends ns ascends)

-- no number is less than an earlier one
abbrev Rises : List ℕ → Type 0
Rises [] = Unit {0}
Rises (n ∷ rest) = AllByRecursion (λ m. n ≤ m) rest × Rises rest

rises-inserted : (n : ℕ) (ns : List ℕ) → Rises ns → Rises (inserted n ns)
rises-inserted n [] rises = (tt, tt)
rises-inserted n (first ∷ rest) rises =
    cond_both (nat_le n first) (n ∷ first ∷ rest) (first ∷ inserted n rest) Rises
    (λ e. let least : n ≤ first = leb-true n first e in
    ((least, all_weaker (λ m. first ≤ m) (λ m. n ≤ m) (λ m above. omega arith) rest rises.0), rises))
    (λ e. let less : first < n = leb-false n first e in
    (all-inserted (λ m. first ≤ m) n rest (omega arith) rises.0, rises-inserted n rest rises.1))

rises-sorted : (ns : List ℕ) → Rises (sorted ns)
rises-sorted [] = tt
rises-sorted (n ∷ others) = rises-inserted n (sorted others) (rises-sorted others)

at_each : (P : ℕ → Type 0) (ns : List ℕ) → ((k d : ℕ) → k < length ns → P (get_or ns k d)) → AllByRecursion P ns
at_each P [] each = tt
at_each P (n ∷ rest) each = (each 0 n (omega arith), at_each P rest (λ k d inside. each (suc k) d (omega arith)))

rises_from : (ns : List ℕ) → IsNonDecreasing ns → Rises ns
rises_from [] up = tt
rises_from (n ∷ rest) up = (
  at_each (λ m. n ≤ m) rest (λ k d inside. up 0 (suc k) d (omega arith) (omega arith)),
  rises_from rest (λ i j d order inside. up (suc i) (suc j) d (omega arith) (omega arith)),
)

-- 1 for equal numbers, else 0
abbrev once : ℕ → ℕ → ℕ
once n m = if n == m then 1 else 0

-- how often a number occurs
abbrev times : ℕ → List ℕ → ℕ
times n [] = 0
times n (m ∷ rest) = once n m + times n rest

times-inserted : (n m : ℕ) (ns : List ℕ) → times n (inserted m ns) ≡ once n m + times n ns
times-inserted n m [] = refl
times-inserted n m (first ∷ rest) =
    cond_both (nat_le m first) (m ∷ first ∷ rest) (first ∷ inserted m rest) (λ l. times n l ≡ once n m + (once n first + times n rest)) (λ e. refl)
    (λ e. omega (arith, times-inserted n m rest))

times-sorted : (n : ℕ) (ns : List ℕ) → times n (sorted ns) ≡ times n ns
times-sorted n [] = refl
times-sorted n (m ∷ others) = times-inserted n m (sorted others) ∙ ap (λ k. once n m + k) (times-sorted n others)

times-permuted : (n : ℕ) (ns ms : List ℕ) → IsPermutation ns ms → times n ms ≡ times n ns
times-permuted n ns ms moved =
    is_sum_by (times n) (once n) refl (λ _ _. refl) ms ∙ sum_by-IsPermutation (once n) ns ms moved ∙ sym (is_sum_by (times n) (once n) refl (λ _ _. refl) ns)

times-first : (n : ℕ) (rest : List ℕ) → times n (n ∷ rest) ≡ 1 + times n rest
times-first n rest = rw (eq-eqb n n refl) refl

times-below : (n : ℕ) (ns : List ℕ) → AllByRecursion (λ m. n < m) ns → times n ns ≡ 0
times-below n [] below = refl
times-below n (m ∷ rest) below =
    let less : n < m = below.0 in
    rw (ne_eqb n m (λ (same : n ≡ m). omega arith), times-below n rest below.1) refl

-- a number below all of a list occurs once more in front of another list, and not in it
apart : (n m : ℕ) (ns ms : List ℕ) → n < m → AllByRecursion (λ k. m ≤ k) ms → times n (n ∷ ns) ≡ times n (m ∷ ms) → ⊥
apart n m ns ms less above same =
    let none : times n (m ∷ ms) ≡ 0 = times-below n (m ∷ ms) (less, all_weaker (λ k. m ≤ k) (λ k. n < k) (λ k h. omega arith) ms above) in
    omega (arith, times-first n ns, none, same)

drop_first : (k n m : ℕ) (ns ms : List ℕ) → n ≡ m → times k (n ∷ ns) ≡ times k (m ∷ ms) → times k ns ≡ times k ms
drop_first k n m ns ms e same =
    let first : once k n ≡ once k m = ap (once k) e in
    omega (arith, first, same)

-- two ascending lists in which each number occurs as often are equal
only_order : (ns ms : List ℕ) → Rises ns → Rises ms → ((k : ℕ) → times k ns ≡ times k ms) → ns ≡ ms
only_order [] [] first second same = refl
only_order [] (m ∷ ms) first second same = absurd (omega (arith, times-first m ms, same m))
only_order (n ∷ ns) [] first second same = absurd (omega (arith, times-first n ns, same n))
only_order (n ∷ ns) (m ∷ ms) first second same =
    ⊎_elim (λ less. absurd (apart n m ns ms less second.0 (same n)))
    (λ least. ⊎_elim (λ less. absurd (apart m n ms ns less first.0 (sym (same m))))
    (λ most. let e : n ≡ m = omega arith in
    let rest : ns ≡ ms = only_order ns ms first.1 second.1 (λ k. drop_first k n m ns ms e (same k)) in
    λ i. e i ∷ rest i)
    (cases_lt m n))
    (cases_lt n m)

-- a sort in place gives the numbers in ascending order
pub sorted_is : (ns old new : List ℕ) → old ≡ ns → IsPermutation old new → IsSorted nat_cmp new → new ≡ sorted ns
sorted_is ns old new e moved up =
    let rises = rises_from new (IsNonDecreasingBy-from_sort (λ n. n) new up) in
    only_order new (sorted old) rises (rises-sorted old) (λ k. times-permuted k old new moved ∙ sym (times-sorted k old)) ∙ ap sorted e
