-- The T-count of gates.
use Rattle.std.specs.Prelude.{◌≡◌, ℕ, zero, suc, ◌+◌, ◌-◌, ◌*◌, List, [], ◌∷◌, length, refl}
use Rattle.tw_gate.specs.declared.gate.TheConstants.{TOFFOLI_T_COUNT}
use Rattle.tw_gate.specs.Gates.{PlainGate, X, H, T, Tdg, example}

-- the T-count of an X gate, by its number of controls; c controls, of two or more, take 2c - 3 Toffolis
abbrev pub weight : ℕ → ℕ
weight zero = 0
weight (suc zero) = 0
weight controls = TOFFOLI_T_COUNT * (2 * controls - 3)

-- the T-count of a gate
abbrev pub gate_weight : PlainGate → ℕ
gate_weight (X controls target) = weight (length controls)
gate_weight (H wire) = 0
gate_weight (T wire) = 1
gate_weight (Tdg wire) = 1

-- the T-count of a list of gates
abbrev pub t_count : List PlainGate → ℕ
t_count [] = 0
t_count (gate ∷ gates) = gate_weight gate + t_count gates

pub weight_0 : weight 0 ≡ 0
weight_0 = refl

pub weight_1 : weight 1 ≡ 0
weight_1 = refl

pub weight_2 : weight 2 ≡ 7
weight_2 = refl

pub weight_3 : weight 3 ≡ 21
weight_3 = refl

pub weight_4 : weight 4 ≡ 35
weight_4 = refl

pub weight_5 : weight 5 ≡ 49
weight_5 = refl

pub t_count-example : t_count example ≡ 7
t_count-example = refl
