-- The regions of an entry from sizes that stop at the greatest `u64`.
use Rattle.std.proofs.Common.{◌≡◌, ◌∙◌, ◌≤◌, ◌<◌, ◌+◌, ◌*◌, min, arith, sym, ap, subst, ℕ, zero, suc, if◌then◌else◌, Some, None, Ok, Err, ⊎_elim}
use Rattle.std.proofs.Math.Nat.{suc-mul}
use Rattle.std.proofs.lemmas.Bool.{cases_lt, le-leb, lt-leb}
use Rattle.tw_text.specs.Places.{first_place}
use Rattle.tw_text.specs.Refusals.{passed}
use Rattle.tw_text.specs.declared.refusal.Counted.TheVariants as counted
use Rattle.tw_text.specs.declared.refusal.Refusal.{Refusal}
use Rattle.tw_types.specs.Types.{Widths, block_count}
use Rattle.tw_resolve.specs.Setting.{reported}
use Rattle.tw_frames.specs.declared.regions.RegionSizes.{RegionSizes}
use Rattle.tw_frames.specs.declared.regions.WireLayout.{WireLayout}
use Rattle.tw_frames.specs.Layout.{in_order, IsPlaced}
use Rattle.tw_frames.proofs.Counting.{greatest, sum_stops}

-- a product with a count that stops is the product that stops
large_product : (n b m : ℕ) → m ≤ b → min (suc n * m) m ≡ min (suc n * b) m
large_product n b m large =
    let p = suc-mul n m in
    let q = suc-mul n b in
    omega (arith, p, q, large)

pub product_stops : (n b m : ℕ) → min (n * min b m) m ≡ min (n * b) m
product_stops zero b m = none (min b m) b
  where
    none : (x y : ℕ) → min (0 * x) m ≡ min (0 * y) m
    none x y = omega arith
product_stops (suc n) b m =
    ⊎_elim (λ below. ap (λ k. min (suc n * k) m) (small below))
    (λ above. ap (λ k. min (suc n * k) m) (large above) ∙ large_product n b m above) (cases_lt b m)
  where
    small : b < m → min b m ≡ b
    small below = omega (arith, below)

    large : m ≤ b → min b m ≡ m
    large above = omega (arith, above)

-- a sum with a last count that stops
sum_last_stops : (a b m : ℕ) → min (a + min b m) m ≡ min (a + b) m
sum_last_stops a b m = omega arith

-- a count that is reported within a limit is the count
within_exact : (m n limit : ℕ) → min n m ≤ limit → limit < m → n ≤ limit
within_exact m n limit within far = omega (arith, within, far)

below_exact : (m n whole limit : ℕ) → n ≤ whole → whole ≤ limit → limit < m → min n m ≡ n
below_exact m n whole limit part within far = omega (arith, part, within, far)

-- a block is no larger than all blocks, if there are some
one_of_blocks : (n b : ℕ) → 1 ≤ n → b ≤ n * b
one_of_blocks zero b some = absurd (omega (arith, some))
one_of_blocks (suc n) b some = let p = suc-mul n b in omega (arith, p)

abbrev pub limit : ℕ
limit = 1048576

pub block_fits : (n b : ℕ) → 1 ≤ n → min (n * b) greatest ≤ limit → b ≤ limit
block_fits n b some within = let one = one_of_blocks n b some in omega (arith, one, within)

-- a part of a sum that stops and is within the limit is within it
pub first_within : (k x : ℕ) {n : ℕ} → n ≡ min (k + x) greatest → n ≤ limit → k ≤ limit
first_within k x is within = omega (arith, is, within)

pub last_within : (x k : ℕ) {n : ℕ} → n ≡ min (x + k) greatest → n ≤ limit → k ≤ limit
last_within x k is within = omega (arith, is, within)

module _ (widths : Widths) (whole : RegionSizes) where
  abbrev exact : WireLayout
  exact = in_order widths whole

  -- the first wires that the code finds, from sizes that stop
  pub record Found (blocks args out frame scratch flags ladder wires : ℕ) : Type 0 where
    pub blocks_are : blocks ≡ min (block_count widths * reported whole.block) greatest
    pub args_are : args ≡ min (widths.addr + blocks) greatest
    pub out_are : out ≡ min (args + reported whole.args) greatest
    pub frame_are : frame ≡ min (out + reported whole.out) greatest
    pub scratch_are : scratch ≡ min (frame + reported whole.frames) greatest
    pub flags_are : flags ≡ min (scratch + reported whole.scratch) greatest
    pub ladder_are : ladder ≡ min (flags + reported whole.flags) greatest
    pub wires_are : wires ≡ min (ladder + reported whole.ladder) greatest

  next : {found new : ℕ} (total first : ℕ) → found ≡ reported total → new ≡ min (found + reported first) greatest → new ≡ reported (total + first)
  next {found} {new} total first is_found is_new = is_new ∙ ap (λ n. min (n + reported first) greatest) is_found ∙ sum_stops greatest total first

  module _ {blocks args out frame scratch flags ladder wires : ℕ} (found : Found blocks args out frame scratch flags ladder wires) where
    args_reported : args ≡ reported exact.args
    args_reported =
        found.args_are
        ∙ ap (λ n. min (widths.addr + n) greatest) (found.blocks_are ∙ product_stops (block_count widths) whole.block greatest)
        ∙ sum_last_stops widths.addr (block_count widths * whole.block) greatest

    out_reported : out ≡ reported exact.out
    out_reported = next exact.args whole.args args_reported found.out_are

    frame_reported : frame ≡ reported exact.frame
    frame_reported = next exact.out whole.out out_reported found.frame_are

    scratch_reported : scratch ≡ reported exact.scratch
    scratch_reported = next exact.frame whole.frames frame_reported found.scratch_are

    flags_reported : flags ≡ reported exact.flags
    flags_reported = next exact.scratch whole.scratch scratch_reported found.flags_are

    ladder_reported : ladder ≡ reported exact.ladder
    ladder_reported = next exact.flags whole.flags flags_reported found.ladder_are

    pub wires_reported : wires ≡ reported exact.wires
    wires_reported = next exact.ladder whole.ladder ladder_reported found.wires_are

    -- too many wires
    pub refuses : limit < wires → {refusal : Refusal} → refusal ≡ passed counted.Wires wires first_place → IsPlaced exact (Err refusal)
    refuses above {refusal} is = record {
      placed = tt;
      kept = tt;
      refused = ap (λ k. if k then None else Some (passed counted.Wires (reported exact.wires) first_place)) (lt-leb (reported exact.wires) limit (subst (λ n. limit < n) wires_reported above))
          ∙ ap (λ n. Some (passed counted.Wires n first_place)) (sym wires_reported) ∙ ap Some (sym is);
    }

    module _ (some : 1 ≤ block_count widths) (below : wires ≤ limit) where
      pub all_within : exact.wires ≤ limit
      all_within = within_exact greatest exact.wires limit (subst (λ n. n ≤ limit) wires_reported below) (omega arith)

      pub block_within : whole.block ≤ exact.wires
      block_within = let one = one_of_blocks (block_count widths) whole.block some in omega (arith, one)

      same : {n m : ℕ} → n ≡ reported m → m ≤ exact.wires → n ≡ m
      same {n} {m} is part = is ∙ below_exact greatest m exact.wires limit part all_within (omega arith)

      -- the layout
      pub places : {block : ℕ} → block ≡ reported whole.block
          → IsPlaced exact (Ok (record { block = block; args = args; out = out; frame = frame; scratch = scratch; flags = flags; ladder = ladder; wires = wires }))
      places {block} is = record {
        placed = λ i. record {
          block = same is block_within i;
          args = same args_reported (omega arith) i;
          out = same out_reported (omega arith) i;
          frame = same frame_reported (omega arith) i;
          scratch = same scratch_reported (omega arith) i;
          flags = same flags_reported (omega arith) i;
          ladder = same ladder_reported (omega arith) i;
          wires = same wires_reported (omega arith) i;
        };
        kept = ap (λ k. if k then None else Some (passed counted.Wires (reported exact.wires) first_place)) (le-leb (reported exact.wires) limit (subst (λ n. n ≤ limit) wires_reported below));
        refused = tt;
      }
