use Rattle.std.proofs.Common.{◌≡◌, ◌∙◌, ◌+◌, ◌*◌, ◌-◌, ◌^◌, ◌≤◌, min, arith, ap, sym, refl, ℕ, [], ◌∷◌}
use Rattle.std.proofs.Math.Nat.{mul-one, pow-succ', pow-zero}
use Rattle.std.proofs.lemmas.Nat.{mul-le}
use Rattle.tw_types.specs.Types.{Widths}
use Rattle.tw_code.specs.Rows.{both_loads, product_gates, row}
use Rattle.tw_resolve.specs.Setting.{reported}
use Rattle.tw_cost.proofs.Capping.{greatest, join}
use Rattle.tw_cost.proofs.Stopped.{doubled, rows_stopped, stays, stopped_as}
use Rattle.tw_cost.proofs.operators.cost_of_product.Goals as goal

-- the Toffoli gates for all bits of the right operand
added : {all word rest : ℕ} (n k : ℕ) → word ≡ n → rest ≡ reported k → all ≡ min (word + rest) greatest → all ≡ reported (n + k)
added {all} {word} {rest} n k is_word is_rest is = is ∙ (λ i. min (is_word i + is_rest i) greatest) ∙ both greatest n k
  where
    both : (m n k : ℕ) → min (n + min k m) m ≡ min (n + k) m
    both m n k = omega arith

-- the gates that add the rows up
square : {word : ℕ} (n : ℕ) → word ≡ n → n ≤ 32 → 2 * ((word - 1) * (word - 1)) ≡ reported (2 * (n - 1) ^ 2)
square n is few =
    ap (λ k. 2 * ((k - 1) * (k - 1))) is
    ∙ stays (2 * ((n - 1) * (n - 1))) (let some = mul-le (n - 1) (n - 1) 32 32 (omega (arith, few)) (omega (arith, few)) in omega (arith, some))
    ∙ ap (λ k. reported (2 * k)) (squared (n - 1))
  where
    squared : (n : ℕ) → n * n ≡ n ^ 2
    squared n = sym (pow-succ' n 1 ∙ ap (λ k. n * k) (pow-succ' n 0 ∙ ap (λ k. n * k) (pow-zero n) ∙ mul-one n))

pub returns : goal.returns
returns c = λ x y.
    let word = c.args.widths.word in
    let under = c.args.under in
    let is_word : c.from-word.result ≡ word = c.from-word.ensures ∙ ap (λ (w : Widths). w.word) c.widths.view_is in
    let rows = row (2 * (word + product_gates word)) 2 ∷ row (2 * (word - 1) ^ 2) 1 ∷ row word (1 + under) ∷ [] in
    let is_width : c.widths.inside.word ≡ word = ap (λ (w : Widths). w.word) c.widths.view_is in
    let few : word ≤ 32 = omega (arith, c.widths.invariant.word_to, is_width) in
    let products = added word (product_gates word) is_word (c.product_gates.ensures ∙ ap (λ k. reported (product_gates k)) is_width) c.saturating_add-products.ensures in
    join c.args.level (both_loads x y) rows refl
    (c.cost_of.ensures ∙ rows_stopped c.args.level (c.new.result ∷ c.new-2.result ∷ c.new-3.result ∷ []) rows (
      stopped_as (2 * (word + product_gates word)) 2 c.new.ensures (doubled (word + product_gates word) products c.saturating_mul.ensures) refl,
      (
        stopped_as (2 * (word - 1) ^ 2) 1 c.new-2.ensures (square word is_word few) refl,
        (
          stopped_as word (1 + under) c.new-3.ensures (is_word ∙ stays word (omega (arith, few))) (ap (λ k. 1 + k) c.from.ensures ∙ stays (1 + under) (omega (arith, c.ranges.under.fits))),
          tt,
        ),
      ),
    )) refl
