use Rattle.std.proofs.Common.{◌≡◌, ◌<◌, ◌^◌, ◌≤◌, ◌/◌, ◌*◌, ◌+◌, ℕ, arith, ap, rules}
use Rattle.std.proofs.Math.Nat.{pow-le-pow_right, div-eq_of_lt, lt-div-mul-add}
use Rattle.std.proofs.lemmas.Nat.{pow_pos}
use Rattle.std.proofs.lemmas.Bool.Decides.{Decides-eqb}
use Rattle.tw_types.proofs.values.fits.Goals as goal

-- each number of 64 bits is below 2 to a greater width
below_wide : (n width : ℕ) → n < 2 ^ 64 → 64 ≤ width → n < 2 ^ width
below_wide n width below wide = let more : 2 ^ 64 ≤ 2 ^ width = pow-le-pow_right {n = 2} (omega arith) wide in omega (arith, below, more)

-- a quotient is 0 if the number is below the divisor
quotient_zero : (n power : ℕ) → 0 < power → n / power ≡ 0 → n < power
quotient_zero n power some none =
    let below : n < n / power * power + power = lt-div-mul-add some in
    let same : n / power * power ≡ 0 * power = ap (λ quotient. quotient * power) none in
    omega (arith, below, same)

pub returns-then-width-ge64 : goal.returns-then-width-ge64
returns-then-width-ge64 c = ((λ wide. below_wide c.args.n c.args.width (grind (arith, c.ranges.n.fits)) c.if-width-ge64.true), (λ below. search rules))

pub returns-else-width-ge64 : goal.returns-else-width-ge64
returns-else-width-ge64 c =
    let tests = Decides-eqb (c.args.n / 2 ^ c.args.width) 0 in
    ((λ none. quotient_zero c.args.n (2 ^ c.args.width) (pow_pos c.args.width) (tests.0 none)), (λ below. tests.1 (div-eq_of_lt below)))
