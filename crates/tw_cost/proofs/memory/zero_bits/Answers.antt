use Rattle.std.proofs.Common.{◌≡◌, ◌∙◌, ◌≤◌, ◌*◌, ◌-◌, ◌%◌, ◌^◌, min, arith, refl, ap, ℕ, zero, suc}
use Rattle.tw_types.specs.Types.{Widths}
use Rattle.tw_code.specs.Rows.{zero_bits}
use Rattle.tw_resolve.specs.Setting.{reported}
use Rattle.tw_cost.proofs.memory.zero_bits.Goals as goal

-- the bits of all numbers of an address' width, less those of the number 0
of_width : (addr : ℕ) → 1 ≤ addr → addr ≤ 8 → min (addr * ((1 * 2 ^ (addr - 1)) % 2 ^ 64 - 1)) (2 ^ 64 - 1) ≡ reported (zero_bits addr)
of_width zero from to = absurd (omega (arith, from))
of_width (suc zero) from to = refl
of_width (suc (suc zero)) from to = refl
of_width (suc (suc (suc zero))) from to = refl
of_width (suc (suc (suc (suc zero)))) from to = refl
of_width (suc (suc (suc (suc (suc zero))))) from to = refl
of_width (suc (suc (suc (suc (suc (suc zero)))))) from to = refl
of_width (suc (suc (suc (suc (suc (suc (suc zero))))))) from to = refl
of_width (suc (suc (suc (suc (suc (suc (suc (suc zero)))))))) from to = refl
of_width (suc (suc (suc (suc (suc (suc (suc (suc (suc addr))))))))) from to = absurd (omega (arith, to))

pub returns : goal.returns
returns c =
    let others = (1 * 2 ^ (c.widths.inside.addr - 1)) % 2 ^ 64 - 1 in
    c.saturating_mul.ensures
    ∙ ap (λ n. min (n * others) (2 ^ 64 - 1)) c.from.ensures
    ∙ of_width c.widths.inside.addr c.widths.invariant.addr_from c.widths.invariant.addr_to
    ∙ ap (λ (w : Widths). reported (zero_bits w.addr)) c.widths.view_is
