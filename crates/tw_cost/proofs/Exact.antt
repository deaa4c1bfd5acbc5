-- A cost that is within the limits on controls and lines is exact.
use Rattle.std.proofs.Common.{◌≡◌, ◌∙◌, ◌≤◌, ◌+◌, ◌*◌, ◌==◌, min, arith, refl, ap, ℕ, zero, suc, List, [], ◌∷◌, if◌then◌else◌}
use Rattle.std.proofs.Math.Dec.{eqb-suc-zero}
use Rattle.std.proofs.Math.Nat.{mul_left_comm, mul-le-mul_left}
use Rattle.tw_gate.specs.declared.gate.Level.{Level}
use Rattle.tw_gate.specs.declared.gate.Level.TheVariants as levels
use Rattle.tw_gate.specs.Weight.{weight}
use Rattle.tw_code.specs.Rows.{Row, most_controls}
use Rattle.tw_resolve.specs.Setting.{reported}
use Rattle.tw_frames.specs.Inventory.{gate_lines, line_total, t_total, toffoli_total, toffolis}
use Rattle.tw_cost.proofs.Capping.{by_size, greatest, t_few, t_more, tof_few, tof_more, toffolis_few, toffolis_more}

-- the T-count is seven times the Toffoli gates
weight_is : (c : ℕ) → weight c ≡ 7 * toffolis c
weight_is zero = refl
weight_is (suc zero) = refl
weight_is (suc (suc c)) = refl

t_total_is : (rows : List Row) → t_total rows ≡ 7 * toffoli_total rows
t_total_is [] = refl
t_total_is (r ∷ rows) =
    (λ i. r.gates * weight_is r.controls i + t_total_is rows i) ∙ ap (λ n. n + 7 * toffoli_total rows) (mul_left_comm r.gates 7 (toffolis r.controls))
    ∙ both (r.gates * toffolis r.controls) (toffoli_total rows)
  where
    both : (a b : ℕ) → 7 * a + 7 * b ≡ 7 * (a + b)
    both a b = omega arith

-- a gate of at most 64 controls has no more Toffoli gates than 125 times its lines
toffolis_at_most : (c : ℕ) → c ≤ 64 → toffolis c ≤ 125
toffolis_at_most c few =
    by_size c 1
    (λ small. let is = toffolis_few c (omega (arith, small)) in omega (arith, is))
    (λ great. let is = toffolis_more c (omega (arith, great)) in omega (arith, is, few))

by_lines : (level : Level) (c : ℕ) → c ≤ 64 → toffolis c ≤ 125 * gate_lines level c
by_lines levels.Mcx c few = let most = toffolis_at_most c few in omega (arith, most)
by_lines levels.Tof c few =
    by_size c 2
    (λ small. let most = toffolis_at_most c few in let is = tof_few c small in omega (arith, most, is))
    (λ great. let is = tof_more c great in omega (arith, is))
by_lines levels.T c few =
    by_size c 1
    (λ small. let most = toffolis_at_most c few in let is = t_few c small in omega (arith, most, is))
    (λ great. let is = t_more c great in omega (arith, is))

-- the same for the gates of a row; a row without gates may have any number of controls
row_by_lines : (level : Level) (g c : ℕ) → (if g == 0 then 0 else c) ≤ 64 → g * toffolis c ≤ 125 * (g * gate_lines level c)
row_by_lines level zero c few = omega arith
row_by_lines level (suc g) c few =
    let small = rw (eqb-suc-zero g) at few in
    let one = mul-le-mul_left (suc g) (by_lines level c small) in
    let same = mul_left_comm (suc g) 125 (gate_lines level c) in
    omega (arith, one, same)

total_by_lines : (level : Level) (rows : List Row) → most_controls rows ≤ 64 → toffoli_total rows ≤ 125 * line_total level rows
total_by_lines level [] few = omega arith
total_by_lines level (r ∷ rows) few =
    let own = row_by_lines level r.gates r.controls (omega (arith, few)) in
    let rest = total_by_lines level rows (omega (arith, few)) in
    omega (arith, own, rest)

-- so their Toffoli gates and their T-count are exact
pub toffolis_exact : (level : Level) (rows : List Row) → most_controls rows ≤ 64 → line_total level rows ≤ 4194304 → reported (toffoli_total rows) ≡ toffoli_total rows
toffolis_exact level rows few short = let most = total_by_lines level rows few in omega (arith, most, short)

pub t_count_exact : (level : Level) (rows : List Row) → most_controls rows ≤ 64 → line_total level rows ≤ 4194304 → min (7 * toffoli_total rows) greatest ≡ t_total rows
t_count_exact level rows few short = let most = total_by_lines level rows few in let is = t_total_is rows in omega (arith, most, short, is)
