-- Sums of rows, as counts that stop at the greatest `u64`.
use Rattle.std.proofs.Common.{◌≡◌, ◌∙◌, ◌≤◌, ◌<◌, ◌+◌, ◌*◌, ◌-◌, ◌^◌, max, min, arith, refl, sym, ap, ℕ, zero, suc, Bool, true, false, List, [], ◌∷◌, ◌++◌, if◌then◌else◌, ◌==◌, drop, get_or, length}
use Rattle.std.proofs.Math.Dec.{leb}
use Rattle.std.proofs.lemmas.Bool.{le-leb, lt-leb, leb-true, leb-false}
use Rattle.std.proofs.lemmas.List.{at_drop_more, at_drop_all}
use Rattle.tw_gate.specs.declared.gate.Level.{Level}
use Rattle.tw_gate.specs.declared.gate.Level.TheVariants as levels
use Rattle.tw_code.specs.Rows.{Row, row, total, most_controls}
use Rattle.tw_resolve.specs.Setting.{reported}
use Rattle.tw_frames.specs.Inventory.{gate_lines, toffolis}
use Rattle.tw_cost.specs.declared.costs.Cost.{Cost}
use Rattle.tw_cost.specs.Costs.{no_cost, in_turn, exact_cost, capped_cost, cost_of}

abbrev pub greatest : ℕ
greatest = 2 ^ 64 - 1

abbrev pub cost : (lines toffolis most_controls : ℕ) → Cost
cost lines toffolis most_controls = record { lines = lines; toffolis = toffolis; most_controls = most_controls }

pub same_cost : {a b c x y z : ℕ} → a ≡ x → b ≡ y → c ≡ z → cost a b c ≡ cost x y z
same_cost p q r = λ i. cost (p i) (q i) (r i)

-- by whether a number is at most another
pub by_size : {A : Type 0} (n m : ℕ) → (n ≤ m → A) → (m < n → A) → A
by_size {A} n m small great = by (leb n m) refl
  where
    by : (k : Bool) → leb n m ≡ k → A
    by true is = small (leb-true n m is)
    by false is = great (leb-false n m is)

-- sums of counts that stop
sum_stops : (m a b : ℕ) → min (min a m + min b m) m ≡ min (a + b) m
sum_stops m a b = omega arith

max_stops : (m a b : ℕ) → min (max (min a m) (min b m)) m ≡ min (max a b) m
max_stops m a b = omega arith

pub mul_stops : (m g w : ℕ) → min (g * min w m) m ≡ min (g * w) m
mul_stops m zero w = ap (λ n. min n m) (omega arith)
mul_stops m (suc g) w = by_size w m (λ small. ap (λ n. min (suc g * n) m) (less small)) (λ great. more g great)
  where
    less : w ≤ m → min w m ≡ w
    less small = omega (arith, small)

    more : (g : ℕ) → m < w → min (suc g * min w m) m ≡ min (suc g * w) m
    more g great =
        let is : min w m ≡ m = omega (arith, great) in
        ap (λ n. min (suc g * n) m) is ∙ omega (arith, great)

pub mul_stops_left : (m g w : ℕ) → min (min g m * w) m ≡ min (g * w) m
mul_stops_left m g w = ap (λ n. min n m) (omega arith) ∙ mul_stops m w g ∙ ap (λ n. min n m) (omega arith)

-- the Toffoli gates and the lines of a gate
pub toffolis_few : (c : ℕ) → c < 2 → toffolis c ≡ 0
toffolis_few zero few = refl
toffolis_few (suc zero) few = refl
toffolis_few (suc (suc c)) few = absurd (omega (arith, few))

pub toffolis_more : (c : ℕ) → 2 ≤ c → toffolis c ≡ 2 * c - 3
toffolis_more zero more = absurd (omega (arith, more))
toffolis_more (suc zero) more = absurd (omega (arith, more))
toffolis_more (suc (suc c)) more = refl

pub tof_few : (c : ℕ) → c ≤ 2 → gate_lines levels.Tof c ≡ 1
tof_few c few = ap (λ k. if k then 1 else toffolis c) (le-leb c 2 few)

pub tof_more : (c : ℕ) → 2 < c → gate_lines levels.Tof c ≡ toffolis c
tof_more c more = ap (λ k. if k then 1 else toffolis c) (lt-leb c 2 more)

pub t_few : (c : ℕ) → c ≤ 1 → gate_lines levels.T c ≡ 1
t_few c few = ap (λ k. if k then 1 else 15 * toffolis c) (le-leb c 1 few)

pub t_more : (c : ℕ) → 1 < c → gate_lines levels.T c ≡ 15 * toffolis c
t_more c more = ap (λ k. if k then 1 else 15 * toffolis c) (lt-leb c 1 more)

-- the cost of two parts
pub total_append : (weight : ℕ → ℕ) (a b : List Row) → total weight (a ++ b) ≡ total weight a + total weight b
total_append weight [] b = omega arith
total_append weight (first ∷ a) b = let rest = total_append weight a b in omega (arith, rest)

most_append : (a b : List Row) → most_controls (a ++ b) ≡ max (most_controls a) (most_controls b)
most_append [] b = omega arith
most_append (first ∷ a) b =
    let own : ℕ = if first.gates == 0 then 0 else first.controls in
    ap (max own) (most_append a b) ∙ max_assoc own (most_controls a) (most_controls b)
  where
    max_assoc : (x y z : ℕ) → max x (max y z) ≡ max (max x y) z
    max_assoc x y z = omega arith

pub exact_append : (level : Level) (a b : List Row) → exact_cost level (a ++ b) ≡ in_turn (exact_cost level a) (exact_cost level b)
exact_append level a b = same_cost (total_append (gate_lines level) a b) (total_append toffolis a b) (most_append a b)

turn_stops : (a b : Cost) → capped_cost (in_turn (capped_cost a) (capped_cost b)) ≡ capped_cost (in_turn a b)
turn_stops a b = same_cost (sum_stops greatest a.lines b.lines) (sum_stops greatest a.toffolis b.toffolis) (max_stops greatest a.most_controls b.most_controls)

-- two parts that are found are found together
pub join : (level : Level) (a b : List Row) {x y both : Cost} → x ≡ cost_of level a → y ≡ cost_of level b → both ≡ capped_cost (in_turn x y) → both ≡ cost_of level (a ++ b)
join level a b is_x is_y is =
    is ∙ (λ i. capped_cost (in_turn (is_x i) (is_y i))) ∙ turn_stops (exact_cost level a) (exact_cost level b) ∙ ap capped_cost (sym (exact_append level a b))

-- the rows of a list: those so far are counted, and the rest follow
pub record LeftCost (level : Level) (whole rest : List Row) (found : Cost) : Type 0 where
  pub stops : capped_cost found ≡ found
  pub left : capped_cost (in_turn found (exact_cost level rest)) ≡ cost_of level whole

pub left_first : (level : Level) (whole : List Row) → LeftCost level whole whole no_cost
left_first level whole = record { stops = refl; left = ap capped_cost (same_cost (omega arith) (omega arith) (omega arith)) }

sum_next : (m t r n : ℕ) → min (min (t + min r m) m + n) m ≡ min (t + (r + n)) m
sum_next m t r n = omega arith

max_next : (m t r n : ℕ) → min (max (min (max t (min r m)) m) n) m ≡ min (max t (max r n)) m
max_next m t r n = omega arith

next : (a b c : Cost) → capped_cost (in_turn (capped_cost (in_turn a (capped_cost b))) c) ≡ capped_cost (in_turn a (in_turn b c))
next a b c = same_cost (sum_next greatest a.lines b.lines c.lines) (sum_next greatest a.toffolis b.toffolis c.toffolis) (max_next greatest a.most_controls b.most_controls c.most_controls)

pub stops_twice : (a : Cost) → capped_cost (capped_cost a) ≡ capped_cost a
stops_twice a = same_cost (twice greatest a.lines) (twice greatest a.toffolis) (twice greatest a.most_controls)
  where
    twice : (m n : ℕ) → min (min n m) m ≡ min n m
    twice m n = omega arith

pub left_next : (level : Level) (whole rows : List Row) (i : ℕ) (other : Row) → i < length rows → {found one new : Cost} → LeftCost level whole (drop i rows) found
    → one ≡ cost_of level (get_or rows i other ∷ []) → new ≡ capped_cost (in_turn found one) → LeftCost level whole (drop (i + 1) rows) new
left_next level whole rows i other within {found} {one} {new} before is_one is_new =
    let first = get_or rows i other in
    let rest = drop (i + 1) rows in
    record {
      stops = ap capped_cost is_new ∙ stops_twice (in_turn found one) ∙ sym is_new;
      left = ap (λ n. capped_cost (in_turn n (exact_cost level rest))) (is_new ∙ ap (λ o. capped_cost (in_turn found o)) is_one)
          ∙ next found (exact_cost level (first ∷ [])) (exact_cost level rest)
          ∙ ap (λ n. capped_cost (in_turn found n)) (sym (exact_append level (first ∷ []) rest) ∙ sym (at_drop_more (exact_cost level) rows i other within))
          ∙ before.left;
    }

pub left_done : (level : Level) (whole rows : List Row) (i : ℕ) {found : Cost} → length rows ≤ i → LeftCost level whole (drop i rows) found → found ≡ cost_of level whole
left_done level whole rows i {found} past before =
    sym before.stops
    ∙ ap capped_cost (same_cost (omega arith) (omega arith) (omega arith))
    ∙ ap (λ n. capped_cost (in_turn found n)) (sym (at_drop_all (exact_cost level) rows i past))
    ∙ before.left

-- with nothing before or after
sum_after : (m n : ℕ) → min (0 + min n m) m ≡ min n m
sum_after m n = omega arith

max_after : (m n : ℕ) → min (max 0 (min n m)) m ≡ min n m
max_after m n = omega arith

pub after_none : (a : Cost) → capped_cost (in_turn no_cost (capped_cost a)) ≡ capped_cost a
after_none a = same_cost (sum_after greatest a.lines) (sum_after greatest a.toffolis) (max_after greatest a.most_controls)

sum_before : (m n : ℕ) → min (n + 0) m ≡ min n m
sum_before m n = omega arith

max_before : (m n : ℕ) → min (max n 0) m ≡ min n m
max_before m n = omega arith

pub before_none : (a : Cost) → capped_cost (in_turn a no_cost) ≡ capped_cost a
before_none a = same_cost (sum_before greatest a.lines) (sum_before greatest a.toffolis) (max_before greatest a.most_controls)

-- three parts
sum_assoc : (m a b c : ℕ) → min (min (a + b) m + c) m ≡ min (a + min (b + c) m) m
sum_assoc m a b c = omega arith

max_assoc_stops : (m a b c : ℕ) → min (max (min (max a b) m) c) m ≡ min (max a (min (max b c) m)) m
max_assoc_stops m a b c = omega arith

pub turn_assoc : (a b c : Cost) → capped_cost (in_turn (capped_cost (in_turn a b)) c) ≡ capped_cost (in_turn a (capped_cost (in_turn b c)))
turn_assoc a b c = same_cost (sum_assoc greatest a.lines b.lines c.lines) (sum_assoc greatest a.toffolis b.toffolis c.toffolis) (max_assoc_stops greatest a.most_controls b.most_controls c.most_controls)

-- the cost of a row
pub row_cost : (level : Level) (r : Row) (gates controls : ℕ) {each some most lines found : ℕ} → row gates controls ≡ r → each ≡ reported (gate_lines level controls) → some ≡ reported (toffolis controls)
    → most ≡ most_controls (r ∷ []) → most < 2 ^ 64 → lines ≡ min (gates * each) greatest → found ≡ min (gates * some) greatest
    → cost lines found most ≡ cost_of level (r ∷ [])
row_cost level r gates controls {each} {some} {most} is_row is_each is_some is_most fits is_lines is_found =
    same_cost
    (is_lines ∙ ap (λ n. min (gates * n) greatest) is_each ∙ mul_stops greatest gates (gate_lines level controls) ∙ ap reported (plus_none (gates * gate_lines level controls)))
    (is_found ∙ ap (λ n. min (gates * n) greatest) is_some ∙ mul_stops greatest gates (toffolis controls) ∙ ap reported (plus_none (gates * toffolis controls)))
    (stays most fits ∙ ap reported (is_most ∙ ap (λ (x : Row). most_controls (x ∷ [])) (sym is_row)))
    ∙ ap (λ x. cost_of level (x ∷ [])) is_row
  where
    plus_none : (n : ℕ) → n ≡ n + 0
    plus_none n = omega arith

    stays : (n : ℕ) → n < 2 ^ 64 → n ≡ reported n
    stays n small = omega (arith, small)
