-- The worked example is a valid file. Which wires fit a line.
use Rattle.std.proofs.Common.{◌≡◌, ℕ, ◌<◌, [], ◌∷◌, refl, arith}
use Rattle.tw_gate.specs.Gates.{X, H}
use Rattle.tw_gatetext.specs.Text.{example_file}
use Rattle.tw_gatetext.specs.Taking.{FitsLine}
use Rattle.tw_gatetext.specs.Valid.{IsValid}

apart : (a b : ℕ) → a < b → ¬ (b ≡ a)
apart a b less same = omega arith

above : (a b : ℕ) → a < b → ¬ (a ≡ b)
above a b less same = omega arith

pub IsValid-example : IsValid example_file
IsValid-example = record {
  some_wires = omega arith;
  few_wires = omega arith;
  few_gates = omega arith;
  fit_level = (omega arith, (omega arith, (omega arith, (omega arith, (omega arith, tt)))));
  fit_wires = (
    ((tt, (apart 2 5 (omega arith), tt)), ((omega arith, tt), omega arith)),
    (
      ((tt, (apart 3 6 (omega arith), tt)), ((omega arith, tt), omega arith)),
      (
        (((omega arith, tt), (above 4 5 (omega arith), (above 4 6 (omega arith), tt))), ((omega arith, (omega arith, tt)), omega arith)),
        (
          ((tt, (apart 3 6 (omega arith), tt)), ((omega arith, tt), omega arith)),
          (
            ((tt, (apart 2 5 (omega arith), tt)), ((omega arith, tt), omega arith)),
            tt,
          ),
        ),
      ),
    ),
  );
  counted = refl;
}

pub FitsLine-example : FitsLine (X (5 ∷ 6 ∷ []) 4)
FitsLine-example = record { few = omega arith; low = ((omega arith, (omega arith, tt)), omega arith) }

-- wire 1,048,576 fits no line
pub FitsLine-high : FitsLine (H 1048576) → ⊥
FitsLine-high fits = omega (arith, fits.low)
