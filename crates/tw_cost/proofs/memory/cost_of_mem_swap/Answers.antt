use Rattle.std.proofs.Common.{◌≡◌, ◌∙◌, ◌≤◌, ◌<◌, ◌+◌, ◌*◌, ◌-◌, ◌^◌, min, arith, refl, sym, ap, ℕ, zero, suc, [], ◌∷◌}
use Rattle.std.proofs.Math.Nat.{mul_assoc}
use Rattle.tw_types.specs.Types.{Widths}
use Rattle.tw_code.specs.Rows.{row, zero_bits, mem_swap_rows}
use Rattle.tw_resolve.specs.Setting.{reported}
use Rattle.tw_cost.specs.Costs.{cost_of}
use Rattle.tw_cost.proofs.Capping.{greatest, mul_stops}
use Rattle.tw_cost.proofs.Stopped.{doubled, rows_stopped, stopped_as, stays}
use Rattle.tw_cost.proofs.memory.cost_of_mem_swap.Goals as goal

-- the rows of an exchange of at least one bit
rows_of : (addr n under : ℕ) → 1 ≤ n
    → mem_swap_rows addr n under ≡ row (2 * zero_bits addr) 0 ∷ row (2 * (2 ^ addr - 1)) addr ∷ row (2 * (2 ^ addr - 1) * n) 1 ∷ row ((2 ^ addr - 1) * n) (2 + under) ∷ []
rows_of addr zero under some = absurd (omega (arith, some))
rows_of addr (suc n) under some = refl

pub returns : goal.returns
returns c = λ n is.
    let level = c.args.level in
    let addr = c.args.widths.addr in
    let under = c.args.under in
    let blocks = 2 ^ addr - 1 in
    let some : 1 ≤ n = omega (arith, c.if-bits-eq0.false, is) in
    let is_addr : c.widths.inside.addr ≡ addr = ap (λ (w : Widths). w.addr) c.widths.view_is in
    let is_blocks : c.from-blocks.result ≡ blocks = c.from-blocks.ensures ∙ c.block_count.ensures in
    let all : c.saturating_mul-all.result ≡ reported (blocks * n) = c.saturating_mul-all.ensures ∙ (λ i. min (is_blocks i * is i) greatest) ∙ mul_stops greatest blocks n in
    let rows = row (2 * zero_bits addr) 0 ∷ row (2 * blocks) addr ∷ row (2 * blocks * n) 1 ∷ row (blocks * n) (2 + under) ∷ [] in
    let few : 2 * blocks < 2 ^ 64 = omega (arith, c.block_count.type_inv, c.block_count.ensures) in
    let narrow : addr < 2 ^ 64 = omega (arith, c.widths.invariant.addr_to, is_addr) in
    c.cost_of.ensures
    ∙ rows_stopped level (c.new.result ∷ c.new-2.result ∷ c.new-3.result ∷ c.new-4.result ∷ []) rows (
      stopped_as (2 * zero_bits addr) 0 c.new.ensures (doubled (zero_bits addr) c.zero_bits.ensures c.saturating_mul-flips.ensures) refl,
      (
        stopped_as (2 * blocks) addr c.new-2.ensures (ap (λ k. 2 * k) is_blocks ∙ stays (2 * blocks) few) (c.from.ensures ∙ is_addr ∙ stays addr narrow),
        (
          stopped_as (2 * blocks * n) 1 c.new-3.ensures (doubled (blocks * n) all c.saturating_mul.ensures ∙ ap reported (sym (mul_assoc 2 blocks n))) refl,
          (
            stopped_as (blocks * n) (2 + under) c.new-4.ensures all (ap (λ k. 2 + k) c.from-2.ensures ∙ stays (2 + under) (omega (arith, c.ranges.under.fits))),
            tt,
          ),
        ),
      ),
    )
    ∙ ap (cost_of level) (sym (rows_of addr n under some))
