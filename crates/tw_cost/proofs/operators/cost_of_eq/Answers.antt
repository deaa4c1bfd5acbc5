use Rattle.std.proofs.Common.{◌≡◌, ◌∙◌, ◌+◌, ◌*◌, min, arith, refl, ℕ, [], ◌∷◌}
use Rattle.tw_code.specs.Rows.{both_loads, row}
use Rattle.tw_resolve.specs.Setting.{reported}
use Rattle.tw_cost.proofs.Capping.{greatest, join}
use Rattle.tw_cost.proofs.Stopped.{doubled, rows_stopped, stopped_as}
use Rattle.tw_cost.proofs.operators.cost_of_eq.Goals as goal

-- the bits and the controls
added : {all bits under : ℕ} (n k : ℕ) → bits ≡ reported n → under ≡ k → all ≡ min (bits + under) greatest → all ≡ reported (n + k)
added {all} {bits} {under} n k is_bits is_under is = is ∙ (λ i. min (is_bits i + is_under i) greatest) ∙ both greatest n k
  where
    both : (m n k : ℕ) → min (min n m + k) m ≡ min (n + k) m
    both m n k = omega arith

pub returns : goal.returns
returns c = λ n is x y.
    let twice = doubled n is c.saturating_mul-twice.ensures in
    let under = c.args.under in
    let rows = row (2 * n) 1 ∷ row (2 * n) 0 ∷ row 1 (n + under) ∷ [] in
    join c.args.level (both_loads x y) rows refl
    (c.cost_of.ensures ∙ rows_stopped c.args.level (c.new.result ∷ c.new-2.result ∷ c.new-3.result ∷ []) rows
    (stopped_as (2 * n) 1 c.new.ensures twice refl, (stopped_as (2 * n) 0 c.new-2.ensures twice refl, (stopped_as 1 (n + under) c.new-3.ensures refl (added n under is c.from.ensures c.saturating_add-all.ensures), tt)))) refl
