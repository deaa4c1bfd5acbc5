-- What the gates of a valid file are, and the inverse of a valid file.
use Rattle.std.proofs.Common.{◌≡◌, ◌∙◌, sym, ℕ, List, [], ◌∷◌, arith, refl}
use Rattle.std.specs.List.{AllByRecursion}
use Rattle.tw_gate.specs.declared.gate.Level.{Level}
use Rattle.tw_gate.specs.declared.gate.Level.TheVariants as levels
use Rattle.tw_gate.specs.Gates.{PlainGate, X, H, T, Tdg, inverse_gate, inverse, HasWiresBelow, SparesControls, IsClassical, IsPermutation}
use Rattle.tw_gate.proofs.Inverse.{all_inverse, length-inverse, t_count-inverse, permutes}
use Rattle.tw_gatetext.specs.Text.{File, HasFewControls}
use Rattle.tw_gatetext.specs.Valid.{FitsLevel, FitsWires, IsValid}
use Rattle.tw_gatetext.proofs.Bounds.{few_controls}

level-inverse_gate : (level : Level) (gate : PlainGate) → FitsLevel level gate → FitsLevel level (inverse_gate gate)
level-inverse_gate level (X controls target) fits = fits
level-inverse_gate level (H wire) fits = fits
level-inverse_gate levels.Mcx gate fits = absurd fits
level-inverse_gate levels.Tof gate fits = absurd fits
level-inverse_gate levels.T (T wire) fits = tt
level-inverse_gate levels.T (Tdg wire) fits = tt

wires-inverse_gate : (wires : ℕ) (gate : PlainGate) → FitsWires wires gate → FitsWires wires (inverse_gate gate)
wires-inverse_gate wires (X controls target) fits = fits
wires-inverse_gate wires (H wire) fits = fits
wires-inverse_gate wires (T wire) fits = fits
wires-inverse_gate wires (Tdg wire) fits = fits

-- the inverse file is valid
pub valid-inverse : (file : File) → IsValid file → IsValid (record { level = file.level; wires = file.wires; t_count = file.t_count; gates = inverse file.gates })
valid-inverse file valid = record {
  some_wires = valid.some_wires;
  few_wires = valid.few_wires;
  few_gates = omega (arith, valid.few_gates, length-inverse file.gates);
  fit_level = all_inverse (FitsLevel file.level) (level-inverse_gate file.level) file.gates valid.fit_level;
  fit_wires = all_inverse (FitsWires file.wires) (wires-inverse_gate file.wires) file.gates valid.fit_wires;
  counted = valid.counted ∙ sym (t_count-inverse file.gates);
}

-- and can be written
pub few_controls-inverse : (file : File) → IsValid file → AllByRecursion HasFewControls (inverse file.gates)
few_controls-inverse file valid = few_controls file.level (inverse file.gates) (valid-inverse file valid).fit_level

-- the gates act only on the wires of the file
pub below : (wires : ℕ) (gates : List PlainGate) → AllByRecursion (FitsWires wires) gates → AllByRecursion (HasWiresBelow wires) gates
below wires [] fit = tt
below wires (gate ∷ gates) fit = (fit.0.1, below wires gates fit.1)

-- no target is among the controls of its gate
pub spare : (wires : ℕ) (gates : List PlainGate) → AllByRecursion (FitsWires wires) gates → AllByRecursion SparesControls gates
spare wires [] fit = tt
spare wires (gate ∷ gates) fit = (fit.0.0.1, spare wires gates fit.1)

-- the gates of a file of another level than t are classical
pub classical : (level : Level) (gates : List PlainGate) → ¬ (level ≡ levels.T) → AllByRecursion (FitsLevel level) gates → AllByRecursion IsClassical gates
classical level [] other fit = tt
classical level (X controls target ∷ gates) other fit = (tt, classical level gates other fit.1)
classical levels.Mcx (gate ∷ gates) other fit = absurd fit.0
classical levels.Tof (gate ∷ gates) other fit = absurd fit.0
classical levels.T (gate ∷ gates) other fit = absurd (other refl)

-- a valid file without Hadamard and T gates permutes the states of its wires
pub permutes-file : (file : File) → IsValid file → AllByRecursion IsClassical file.gates → IsPermutation file.wires file.gates
permutes-file file valid all = permutes file.wires file.gates all (spare file.wires file.gates valid.fit_wires)
