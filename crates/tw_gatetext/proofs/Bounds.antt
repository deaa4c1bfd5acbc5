-- The numbers of a valid file are below 2 ^ 64, so its text determines it.
use Rattle.std.proofs.Common.{◌≡◌, ℕ, zero, suc, ◌<◌, ◌≤◌, ◌*◌, ◌^◌, List, [], ◌∷◌, ◌++◌, length, arith}
use Rattle.std.specs.List.{AllByRecursion}
use Rattle.tw_text.specs.declared.limits.TheConstants.{CONTROLS_LIMIT, WIRES_LIMIT}
use Rattle.tw_gate.specs.Gates.{PlainGate, X, H, T, Tdg}
use Rattle.tw_gate.specs.Weight.{weight, gate_weight, t_count}
use Rattle.tw_gate.specs.declared.gate.Level.{Level}
use Rattle.tw_gate.specs.declared.gate.Level.TheVariants as levels
use Rattle.tw_gatetext.specs.Text.{File, file_text, HasFewControls}
use Rattle.tw_gatetext.specs.Valid.{FitsLevel, FitsWires, IsValid}
use Rattle.tw_gatetext.specs.LineWords.{numbers_of}
use Rattle.tw_gatetext.proofs.Lists.{all_push}
use Rattle.tw_gatetext.proofs.OneToOne.{HasSmallHeader, HasSmallNumbers, file_text-delimited}

pub HasFewControls-fits : (level : Level) (gate : PlainGate) → FitsLevel level gate → HasFewControls gate
HasFewControls-fits levels.Mcx (X controls target) fits = fits
HasFewControls-fits levels.Tof (X controls target) fits = omega arith
HasFewControls-fits levels.T (X controls target) fits = omega arith
HasFewControls-fits level gate fits = tt

-- the gates of a valid file can be written
pub few_controls : (level : Level) (gates : List PlainGate) → AllByRecursion (FitsLevel level) gates → AllByRecursion HasFewControls gates
few_controls level [] fit = tt
few_controls level (gate ∷ gates) fit = (HasFewControls-fits level gate fit.0, few_controls level gates fit.1)

weight-le : (controls : ℕ) → controls ≤ CONTROLS_LIMIT → weight controls ≤ 875
weight-le zero few = omega arith
weight-le (suc zero) few = omega arith
weight-le (suc (suc controls)) few = omega arith

pub gate_weight-le : (gate : PlainGate) → HasFewControls gate → gate_weight gate ≤ 875
gate_weight-le (X controls target) few = weight-le (length controls) few
gate_weight-le (H wire) few = omega arith
gate_weight-le (T wire) few = omega arith
gate_weight-le (Tdg wire) few = omega arith

pub t_count-le : (level : Level) (gates : List PlainGate) → AllByRecursion (FitsLevel level) gates → t_count gates ≤ 875 * length gates
t_count-le level [] fit = omega arith
t_count-le level (gate ∷ gates) fit =
    omega (arith, gate_weight-le gate (HasFewControls-fits level gate fit.0), t_count-le level gates fit.1)

all_below : (bound wires : ℕ) (ns : List ℕ) → wires ≤ bound → AllByRecursion (λ n. n < wires) ns → AllByRecursion (λ n. n < bound) ns
all_below bound wires [] few below = tt
all_below bound wires (n ∷ ns) few below = (omega (arith, below.0), all_below bound wires ns few below.1)

x_below : (bound : ℕ) (controls : List ℕ) (target : ℕ) → CONTROLS_LIMIT < bound → length controls ≤ CONTROLS_LIMIT → AllByRecursion (λ n. n < bound) (controls ++ target ∷ [])
    → AllByRecursion (λ n. n < bound) (numbers_of (X controls target))
x_below bound [] target room few below = below
x_below bound (a ∷ []) target room few below = below
x_below bound (a ∷ b ∷ []) target room few below = below
x_below bound (a ∷ b ∷ c ∷ rest) target room few below = (omega arith, below)

-- the numbers of a gate that fits are below the bound of its wires
pub numbers_below : (bound : ℕ) (level : Level) (wires : ℕ) (gate : PlainGate) → CONTROLS_LIMIT < bound → wires ≤ bound → FitsLevel level gate → FitsWires wires gate
    → AllByRecursion (λ n. n < bound) (numbers_of gate)
numbers_below bound level wires (X controls target) room few level_fits fits =
    x_below bound controls target room (HasFewControls-fits level (X controls target) level_fits)
    (all_push (λ n. n < bound) controls target (all_below bound wires controls few fits.1.0) (omega (arith, fits.1.1)))
numbers_below bound level wires (H wire) room few level_fits fits = (omega (arith, fits.1), tt)
numbers_below bound level wires (T wire) room few level_fits fits = (omega (arith, fits.1), tt)
numbers_below bound level wires (Tdg wire) room few level_fits fits = (omega (arith, fits.1), tt)

pub small_numbers : (level : Level) (wires : ℕ) (gate : PlainGate) → wires ≤ WIRES_LIMIT → FitsLevel level gate → FitsWires wires gate → HasSmallNumbers gate
small_numbers level wires gate few level_fits fits = numbers_below (2 ^ 64) level wires gate (omega arith) (omega arith) level_fits fits

-- the numbers of gates that fit are below 2 ^ 64
pub small_gates : (level : Level) (wires : ℕ) (gates : List PlainGate) → wires ≤ WIRES_LIMIT → AllByRecursion (FitsLevel level) gates → AllByRecursion (FitsWires wires) gates → AllByRecursion HasSmallNumbers gates
small_gates level wires [] few level_fits fits = tt
small_gates level wires (gate ∷ gates) few level_fits fits =
    (small_numbers level wires gate few level_fits.0 fits.0, small_gates level wires gates few level_fits.1 fits.1)

pub small_header : (file : File) → IsValid file → HasSmallHeader file
small_header file valid = record {
  wires = omega (arith, valid.few_wires);
  gates = omega (arith, valid.few_gates);
  t_count = omega (arith, valid.counted, valid.few_gates, t_count-le file.level file.gates valid.fit_level);
}

-- the text of a valid file determines it, and is no proper prefix of another's
pub file_text-prefix_free : (file other : File) (xs ys : List ℕ) → IsValid file → IsValid other → file_text file ++ xs ≡ file_text other ++ ys → (file ≡ other) × (xs ≡ ys)
file_text-prefix_free file other xs ys valid valid' e =
    file_text-delimited file other xs ys (small_header file valid) (small_header other valid')
    (small_gates file.level file.wires file.gates valid.few_wires valid.fit_level valid.fit_wires)
    (small_gates other.level other.wires other.gates valid'.few_wires valid'.fit_level valid'.fit_wires)
    e
