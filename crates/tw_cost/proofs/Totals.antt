-- Rows that have as many gates of each number of controls as a list of gates have the list's sums.
use Rattle.std.proofs.Common.{◌≡◌, ◌∙◌, ◌≤◌, ◌<◌, ap, sym, subst, refl, arith, ℕ, zero, suc, ◌+◌, ◌*◌, ◌==◌, max, nat_eq, ⊎_elim, if◌then◌else◌, Bool, true, false, List, [], ◌∷◌, length}
use Rattle.std.proofs.lemmas.Bool.{cases_lt, eq-eqb, ne_eqb}
use Rattle.std.proofs.lemmas.List.Sums.{sum_by-cons}
use Rattle.std.specs.List.{AllByRecursion, count_by}
use Rattle.tw_gate.specs.Gates.{PlainGate, X, H, T, Tdg, controls_of, IsClassical}
use Rattle.tw_gate.specs.Weight.{weight, t_count}
use Rattle.tw_code.specs.Counts.{has_controls}
use Rattle.tw_code.specs.Rows.{Row, row, gates_in, total, most_controls}

-- the sum over all numbers of controls below the bound, if there are this many gates of each
abbrev spread : (ℕ → ℕ) → (bound : ℕ) → (ℕ → ℕ) → ℕ
spread cost zero count = 0
spread cost (suc n) count = count n * cost n + spread cost n count

spread-same : (cost : ℕ → ℕ) (bound : ℕ) (count other : ℕ → ℕ) → ((n : ℕ) → count n ≡ other n) → spread cost bound count ≡ spread cost bound other
spread-same cost zero count other same = refl
spread-same cost (suc n) count other same = omega (arith, ap (λ k. k * cost n) (same n), spread-same cost n count other same)

spread-none : (cost : ℕ → ℕ) (bound : ℕ) → spread cost bound (λ n. 0) ≡ 0
spread-none cost zero = refl
spread-none cost (suc n) = omega (arith, spread-none cost n)

spread-both : (cost : ℕ → ℕ) (bound : ℕ) (count other : ℕ → ℕ) → spread cost bound (λ n. count n + other n) ≡ spread cost bound count + spread cost bound other
spread-both cost zero count other = refl
spread-both cost (suc n) count other = grind (arith, spread-both cost n count other)

-- a number of gates of one number of controls
abbrev only : (gates controls n : ℕ) → ℕ
only gates controls n = if controls == n then gates else 0

only-same : (gates n : ℕ) → only gates n n ≡ gates
only-same gates n = ap (λ test. if test then gates else 0) (eq-eqb n n refl)

only-other : (gates controls n : ℕ) → (controls ≡ n → ⊥) → only gates controls n ≡ 0
only-other gates controls n differ = ap (λ test. if test then gates else 0) (ne_eqb controls n differ)

-- above the bound they do not count, and below it they count once
spread-above : (cost : ℕ → ℕ) (bound gates controls : ℕ) → bound ≤ controls → spread cost bound (only gates controls) ≡ 0
spread-above cost zero gates controls above = refl
spread-above cost (suc n) gates controls above =
    omega (arith, ap (λ k. k * cost n) (only-other gates controls n (λ same. omega arith)), spread-above cost n gates controls (omega arith))

spread-below : (cost : ℕ → ℕ) (bound gates controls : ℕ) → controls < bound → spread cost bound (only gates controls) ≡ gates * cost controls
spread-below cost zero gates controls below = absurd (omega arith)
spread-below cost (suc n) gates controls below = ⊎_elim (λ before. less before (spread-below cost n gates controls before)) last (cases_lt controls n)
  where
    less : controls < n → spread cost n (only gates controls) ≡ gates * cost controls → spread cost (suc n) (only gates controls) ≡ gates * cost controls
    less before rest = omega (arith, ap (λ k. k * cost n) (only-other gates controls n (λ same. omega arith)), rest)

    last : n ≤ controls → spread cost (suc n) (only gates controls) ≡ gates * cost controls
    last after =
        let same : controls ≡ n = omega arith in
        subst (λ k. only gates controls k * cost k + spread cost n (only gates controls) ≡ gates * cost controls) same
        (omega (arith, ap (λ k. k * cost controls) (only-same gates controls), spread-above cost n gates controls after))

-- the numbers of controls of all rows are below the bound
abbrev AreBelow : ℕ → List Row → Type 0
AreBelow bound rows = AllByRecursion (λ (one : Row). one.controls < bound) rows

total-spread : (cost : ℕ → ℕ) (bound : ℕ) (rows : List Row) → AreBelow bound rows → spread cost bound (gates_in rows) ≡ total cost rows
total-spread cost bound [] below = spread-none cost bound
total-spread cost bound (first ∷ rows) below =
    omega (arith, spread-both cost bound (only first.gates first.controls) (gates_in rows), spread-below cost bound first.gates first.controls below.0, total-spread cost bound rows below.1)

-- a number that is above all numbers of controls
abbrev above : List Row → ℕ
above [] = 0
above (first ∷ rows) = suc first.controls + above rows

are_below : (rows : List Row) (bound : ℕ) → above rows ≤ bound → AreBelow bound rows
are_below [] bound within = tt
are_below (first ∷ rows) bound within = (omega arith, are_below rows bound (omega arith))

-- rows with the same numbers of gates have the same totals
pub same_total : (cost : ℕ → ℕ) (rows others : List Row) → ((wanted : ℕ) → gates_in rows wanted ≡ gates_in others wanted) → total cost rows ≡ total cost others
same_total cost rows others same =
    let bound = above rows + above others in
    sym (total-spread cost bound rows (are_below rows bound (omega arith)))
    ∙ spread-same cost bound (gates_in rows) (gates_in others) same
    ∙ total-spread cost bound others (are_below others bound (omega arith))

-- no gate of the rows has more controls than the most
pub none_above : (rows : List Row) (wanted : ℕ) → most_controls rows < wanted → gates_in rows wanted ≡ 0
none_above [] wanted more = refl
none_above (first ∷ rows) wanted more = by first.gates refl (none_above rows wanted (omega (arith, more)))
  where
    by : (gates : ℕ) → first.gates ≡ gates → gates_in rows wanted ≡ 0 → gates_in (first ∷ rows) wanted ≡ 0
    by zero none rest =
        let one : only first.gates first.controls wanted ≡ only 0 first.controls wanted = ap (λ k. only k first.controls wanted) none in
        omega (arith, one, empty (nat_eq first.controls wanted), rest)
      where
        empty : (test : Bool) → ◌≡◌ {A = ℕ} (if test then 0 else 0) 0
        empty true = refl
        empty false = refl
    by (suc n) some rest =
        let test : nat_eq first.gates 0 ≡ false = ne_eqb first.gates 0 (λ none. omega (arith, none, some)) in
        let few : max first.controls (most_controls rows) < wanted = subst (λ empty. max (if empty then 0 else first.controls) (most_controls rows) < wanted) test more in
        omega (arith, only-other first.gates first.controls wanted (λ same. omega (arith, few)), rest)

-- gates, as rows of one gate each
abbrev one_each : List PlainGate → List Row
one_each [] = []
one_each (gate ∷ gates) = row 1 (length (controls_of gate)) ∷ one_each gates

one_each-count : (gates : List PlainGate) → AllByRecursion IsClassical gates → (wanted : ℕ) → gates_in (one_each gates) wanted ≡ count_by (has_controls wanted) gates
one_each-count [] all wanted = refl
one_each-count (X controls target ∷ gates) all wanted =
    omega (arith, sum_by-cons (λ gate. if has_controls wanted gate then 1 else 0) (X controls target) gates, one_each-count gates all.1 wanted)
one_each-count (H wire ∷ gates) all wanted = absurd all.0
one_each-count (T wire ∷ gates) all wanted = absurd all.0
one_each-count (Tdg wire ∷ gates) all wanted = absurd all.0

one_each-t_count : (gates : List PlainGate) → AllByRecursion IsClassical gates → total weight (one_each gates) ≡ t_count gates
one_each-t_count [] all = refl
one_each-t_count (X controls target ∷ gates) all = omega (arith, one_each-t_count gates all.1)
one_each-t_count (H wire ∷ gates) all = absurd all.0
one_each-t_count (T wire ∷ gates) all = absurd all.0
one_each-t_count (Tdg wire ∷ gates) all = absurd all.0

one_each-length : (gates : List PlainGate) → total (λ controls. 1) (one_each gates) ≡ length gates
one_each-length [] = refl
one_each-length (gate ∷ gates) = omega (arith, one_each-length gates)

-- X gates, and rows that have as many gates of each number of controls
module _ (gates : List PlainGate) (rows : List Row) (classical : AllByRecursion IsClassical gates) (counted : (wanted : ℕ) → count_by (has_controls wanted) gates ≡ gates_in rows wanted) where
  same_counts : (wanted : ℕ) → gates_in rows wanted ≡ gates_in (one_each gates) wanted
  same_counts wanted = sym (counted wanted) ∙ sym (one_each-count gates classical wanted)

  -- have the same T-count
  pub t_total-gates : total weight rows ≡ t_count gates
  t_total-gates = same_total weight rows (one_each gates) same_counts ∙ one_each-t_count gates classical

  -- and there are as many of them
  pub line_total-gates : total (λ controls. 1) rows ≡ length gates
  line_total-gates = same_total (λ controls. 1) rows (one_each gates) same_counts ∙ one_each-length gates
