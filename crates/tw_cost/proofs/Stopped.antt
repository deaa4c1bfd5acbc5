-- Rows of counts that stop at the greatest `u64` cost as much as the rows.
use Rattle.std.proofs.Common.{◌≡◌, ◌∙◌, ◌≤◌, ◌<◌, ◌+◌, ◌*◌, ◌^◌, max, min, arith, refl, sym, ap, ℕ, zero, suc, false, List, [], ◌∷◌, if◌then◌else◌, ◌==◌}
use Rattle.std.proofs.Math.Dec.{eqb-suc-zero}
use Rattle.tw_gate.specs.declared.gate.Level.{Level}
use Rattle.tw_gate.specs.declared.gate.Level.TheVariants as levels
use Rattle.tw_code.specs.Rows.{Row, row, most_controls}
use Rattle.tw_resolve.specs.Setting.{reported}
use Rattle.tw_frames.specs.Inventory.{gate_lines, toffolis}
use Rattle.tw_cost.specs.Costs.{cost_of}
use Rattle.tw_cost.proofs.Capping.{greatest, same_cost, by_size, mul_stops, mul_stops_left, join, toffolis_more, tof_more, t_more}

-- a weight that is as great as the greatest `u64` for as many controls
module _ (weight : ℕ → ℕ) (grows : (c : ℕ) → greatest ≤ c → greatest ≤ weight c) where
  weight_stops : (c : ℕ) → reported (weight (reported c)) ≡ reported (weight c)
  weight_stops c = by_size c greatest (λ small. ap (λ n. reported (weight n)) (less greatest c small)) (λ great. both (reported c) (top greatest c great) ∙ sym (both c (above greatest c great)))
    where
      less : (m n : ℕ) → n ≤ m → min n m ≡ n
      less m n small = omega (arith, small)

      top : (m n : ℕ) → m < n → m ≤ min n m
      top m n great = omega (arith, great)

      above : (m n : ℕ) → m < n → m ≤ n
      above m n great = omega (arith, great)

      whole : (m n : ℕ) → m ≤ n → min n m ≡ m
      whole m n great = omega (arith, great)

      both : (n : ℕ) → greatest ≤ n → reported (weight n) ≡ greatest
      both n is = whole greatest (weight n) (grows n is)

  product_stops : (g c : ℕ) → reported (reported g * weight (reported c) + 0) ≡ reported (g * weight c + 0)
  product_stops g c =
      ap reported (plus_none (reported g * weight (reported c)))
      ∙ mul_stops_left greatest g (weight (reported c)) ∙ sym (mul_stops greatest g (weight (reported c)))
      ∙ ap (λ n. min (g * n) greatest) (weight_stops c) ∙ mul_stops greatest g (weight c)
      ∙ ap reported (sym (plus_none (g * weight c)))
    where
      plus_none : (n : ℕ) → n + 0 ≡ n
      plus_none n = omega arith

toffolis_grow : (c : ℕ) → greatest ≤ c → greatest ≤ toffolis c
toffolis_grow c great = let is = toffolis_more c (omega (arith, great)) in omega (arith, great, is)

-- lines are 1 at the level of all gates, and grow at the others
lines_stop : (level : Level) (g c : ℕ) → reported (reported g * gate_lines level (reported c) + 0) ≡ reported (g * gate_lines level c + 0)
lines_stop levels.Mcx g c = once greatest g
  where
    once : (m n : ℕ) → min (min n m * 1 + 0) m ≡ min (n * 1 + 0) m
    once m n = omega arith
lines_stop levels.Tof g c =
    product_stops (gate_lines levels.Tof) (λ n great. let is = tof_more n (omega (arith, great)) in let grown = toffolis_grow n great in omega (arith, is, grown)) g c
lines_stop levels.T g c =
    product_stops (gate_lines levels.T) (λ n great. let is = t_more n (omega (arith, great)) in let grown = toffolis_grow n great in omega (arith, is, grown)) g c

-- the most controls of a row
most_stops : (g c : ℕ) → reported (most_controls (row (reported g) (reported c) ∷ [])) ≡ reported (most_controls (row g c ∷ []))
most_stops zero c = refl
most_stops (suc g) c =
    ap (λ k. reported (max (if k then 0 else reported c) 0)) (none (reported (suc g)) (some greatest g (omega arith)))
    ∙ twice greatest c
    ∙ ap (λ k. reported (max (if k then 0 else c) 0)) (sym (eqb-suc-zero g))
  where
    none : (n : ℕ) → 1 ≤ n → (n == 0) ≡ false
    none zero is = absurd (omega (arith, is))
    none (suc n) is = eqb-suc-zero n

    some : (m n : ℕ) → 1 ≤ m → 1 ≤ min (suc n) m
    some m n is = omega (arith, is)

    twice : (m n : ℕ) → min (max (min n m) 0) m ≡ min (max n 0) m
    twice m n = omega arith

-- one row is the other, with counts that stop
pub record IsStopped (x y : Row) : Type 0 where
  pub gates : x.gates ≡ reported y.gates
  pub controls : x.controls ≡ reported y.controls

pub row_stopped : (level : Level) (x y : Row) → IsStopped x y → cost_of level (x ∷ []) ≡ cost_of level (y ∷ [])
row_stopped level x y is =
    (λ i. cost_of level (row (is.gates i) (is.controls i) ∷ []))
    ∙ same_cost (lines_stop level y.gates y.controls) (product_stops toffolis toffolis_grow y.gates y.controls) (most_stops y.gates y.controls)

-- each row of a list is that of another, with counts that stop
abbrev pub AreStopped : List Row → List Row → Type 0
AreStopped [] [] = Unit {0}
AreStopped (x ∷ xs) (y ∷ ys) = IsStopped x y × AreStopped xs ys
AreStopped [] (y ∷ ys) = ⊥
AreStopped (x ∷ xs) [] = ⊥

pub rows_stopped : (level : Level) (xs ys : List Row) → AreStopped xs ys → cost_of level xs ≡ cost_of level ys
rows_stopped level [] [] are = refl
rows_stopped level (x ∷ xs) (y ∷ ys) are =
    join level (y ∷ []) ys (row_stopped level x y are.0) (rows_stopped level xs ys are.1) (sym (join level (x ∷ []) xs refl refl refl))
rows_stopped level [] (y ∷ ys) are = absurd are
rows_stopped level (x ∷ xs) [] are = absurd are

-- a row of counts that stop, by its parts
pub stopped_as : {x : Row} {g c : ℕ} (a k : ℕ) → x ≡ row g c → g ≡ reported a → c ≡ reported k → IsStopped x (row a k)
stopped_as a k is gates controls = record { gates = ap (λ (r : Row). r.gates) is ∙ gates; controls = ap (λ (r : Row). r.controls) is ∙ controls }

-- a count that a `u64` holds is not changed
pub stays : (n : ℕ) → n < 2 ^ 64 → n ≡ reported n
stays n small = omega (arith, small)

-- twice a count that stops
pub doubled : {x y : ℕ} (n : ℕ) → x ≡ reported n → y ≡ min (x * 2) greatest → y ≡ reported (2 * n)
doubled n is_x is_y = is_y ∙ ap (λ k. min (k * 2) greatest) is_x ∙ both greatest n
  where
    both : (m k : ℕ) → min (min k m * 2) m ≡ min (2 * k) m
    both m k = omega arith
