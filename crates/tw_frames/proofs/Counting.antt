-- Sums and greatest counts that stop at the greatest `u64`, over the elements of a list.
use Rattle.std.proofs.Common.{◌≡◌, ◌∙◌, ◌≤◌, ◌+◌, ◌-◌, ◌^◌, max, min, arith, sym, ap, ℕ}
use Rattle.tw_resolve.specs.Setting.{reported}

abbrev pub greatest : ℕ
greatest = 2 ^ 64 - 1

-- a count of counts that stop is the count that stops
pub sum_stops : (m a b : ℕ) → min (min a m + min b m) m ≡ min (a + b) m
sum_stops m a b = omega arith

pub max_stops : (m a b : ℕ) → max (min a m) (min b m) ≡ min (max a b) m
max_stops m a b = omega arith

pub stops_twice : (m a : ℕ) → min (min a m) m ≡ min a m
stops_twice m a = omega arith

-- what is counted so far, and the rest, make up the whole
pub record LeftSum (whole rest total : ℕ) : Type 0 where
  pub stops : total ≤ greatest
  pub left : reported (total + rest) ≡ reported whole

pub record LeftMax (whole rest most : ℕ) : Type 0 where
  pub stops : most ≤ greatest
  pub left : reported (max most rest) ≡ reported whole

-- at first
pub sum_first : (whole : ℕ) → LeftSum whole whole 0
sum_first whole = record { stops = omega arith; left = ap reported (zero_sum whole) }
  where
    zero_sum : (n : ℕ) → 0 + n ≡ n
    zero_sum n = omega arith

pub max_first : (whole : ℕ) → LeftMax whole whole 0
max_first whole = record { stops = omega arith; left = ap reported (zero_max whole) }
  where
    zero_max : (n : ℕ) → max 0 n ≡ n
    zero_max n = omega arith

-- one more
plain_sum : (m total first after : ℕ) → min (min (total + min first m) m + after) m ≡ min (total + (first + after)) m
plain_sum m total first after = omega arith

plain_max : (m most first after : ℕ) → most ≤ m → min (max (max most (min first m)) after) m ≡ min (max most (max first after)) m
plain_max m most first after stops = omega (arith, stops)

pub sum_next : {whole rest total found new : ℕ} (first after : ℕ) → LeftSum whole rest total → rest ≡ first + after → found ≡ reported first → new ≡ min (total + found) greatest → LeftSum whole after new
sum_next {whole} {rest} {total} {found} {new} first after sum is_rest is_found is_new = record {
  stops = within greatest new (total + found) is_new;
  left = ap (λ n. reported (n + after)) (is_new ∙ ap (λ n. min (total + n) greatest) is_found) ∙ plain_sum greatest total first after ∙ ap (λ n. reported (total + n)) (sym is_rest) ∙ sum.left;
}
  where
    within : (m n k : ℕ) → n ≡ min k m → n ≤ m
    within m n k is = omega (arith, is)

pub max_next : {whole rest most found new : ℕ} (first after : ℕ) → LeftMax whole rest most → rest ≡ max first after → found ≡ reported first → new ≡ max most found → LeftMax whole after new
max_next {whole} {rest} {most} {found} {new} first after sum is_rest is_found is_new = record {
  stops = within greatest new most first sum.stops (is_new ∙ ap (max most) is_found);
  left = ap (λ n. reported (max n after)) (is_new ∙ ap (max most) is_found) ∙ plain_max greatest most first after sum.stops ∙ ap (λ n. reported (max most n)) (sym is_rest) ∙ sum.left;
}
  where
    within : (m n k f : ℕ) → k ≤ m → n ≡ max k (min f m) → n ≤ m
    within m n k f stops is = omega (arith, stops, is)

-- at the end
last_sum : (m total whole : ℕ) → total ≤ m → min (total + 0) m ≡ whole → total ≡ whole
last_sum m total whole stops is = omega (arith, stops, is)

last_max : (m most whole : ℕ) → most ≤ m → min (max most 0) m ≡ whole → most ≡ whole
last_max m most whole stops is = omega (arith, stops, is)

pub sum_last : {whole rest total : ℕ} → LeftSum whole rest total → rest ≡ 0 → total ≡ reported whole
sum_last {whole} {rest} {total} sum none = last_sum greatest total (reported whole) sum.stops (ap (λ n. reported (total + n)) (sym none) ∙ sum.left)

pub max_last : {whole rest most : ℕ} → LeftMax whole rest most → rest ≡ 0 → most ≡ reported whole
max_last {whole} {rest} {most} sum none = last_max greatest most (reported whole) sum.stops (ap (λ n. reported (max most n)) (sym none) ∙ sum.left)

-- with a last one
end_max : (m most rest new whole : ℕ) → most ≤ m → rest ≤ m → new ≡ max most rest → min (max most rest) m ≡ whole → new ≡ whole
end_max m most rest new whole stops small is same = omega (arith, stops, small, is, same)

pub max_end : {whole rest most new : ℕ} → LeftMax whole rest most → rest ≤ greatest → new ≡ max most rest → new ≡ reported whole
max_end {whole} {rest} {most} {new} sum small is = end_max greatest most rest new (reported whole) sum.stops small is sum.left
