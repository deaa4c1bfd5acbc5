-- Gates as plain data, and what a list of them does to bits.
use Rattle.std.proofs.Common.{arith}
use Rattle.std.specs.Prelude.{◌≡◌, ◌≢◌, ℕ, ◌<◌, Bool, true, false, ◌&&◌, if◌then◌else◌, List, [], ◌∷◌, ◌++◌, length, refl}
use Rattle.std.specs.List.{AllByRecursion}
use Rattle.tw_bits.specs.Lists.{bit_at, flipped}
use Rattle.tw_gate.specs.declared.gate.Gate.{Gate}
use Rattle.tw_gate.specs.declared.gate.Gate.TheVariants as given

-- a gate, with its controls and its target or its wire
pub data PlainGate : Type 0 where
  X : (controls : List ℕ) (target : ℕ) → PlainGate
  H : (wire : ℕ) → PlainGate
  T : (wire : ℕ) → PlainGate
  Tdg : (wire : ℕ) → PlainGate

-- a gate of the code, without the address of its controls in memory
abbrev pub plain : Gate → PlainGate
plain (given.X controls target) = X controls.now target
plain (given.H wire) = H wire
plain (given.T wire) = T wire
plain (given.Tdg wire) = Tdg wire

-- whether all these wires are 1
abbrev pub all_one : List ℕ → List Bool → Bool
all_one [] bits = true
all_one (wire ∷ wires) bits = bit_at bits wire && all_one wires bits

-- an X gate flips its target exactly if all its controls are 1; the others move no basis state here
abbrev pub act_gate : PlainGate → List Bool → List Bool
act_gate (X controls target) bits = if all_one controls bits then flipped bits target else bits
act_gate _ bits = bits

-- the gates, in order
abbrev pub act : List PlainGate → List Bool → List Bool
act [] bits = bits
act (gate ∷ gates) bits = act gates (act_gate gate bits)

-- the inverse of a gate: T and its inverse are exchanged, the others are their own inverses
abbrev pub inverse_gate : PlainGate → PlainGate
inverse_gate (T wire) = Tdg wire
inverse_gate (Tdg wire) = T wire
inverse_gate gate = gate

-- the inverse of a list: the inverse gates in reverse order
abbrev pub inverse : List PlainGate → List PlainGate
inverse [] = []
inverse (gate ∷ gates) = inverse gates ++ inverse_gate gate ∷ []

-- the controls of a gate; only X gates have controls
abbrev pub controls_of : PlainGate → List ℕ
controls_of (X controls target) = controls
controls_of _ = []

-- all wires of a gate are below this number
abbrev pub HasWiresBelow : ℕ → PlainGate → Type 0
HasWiresBelow wires (X controls target) = AllByRecursion (λ c. c < wires) controls × (target < wires)
HasWiresBelow wires (H wire) = wire < wires
HasWiresBelow wires (T wire) = wire < wires
HasWiresBelow wires (Tdg wire) = wire < wires

-- each number is below the next one
abbrev pub Ascends : List ℕ → Type 0
Ascends [] = Unit {0}
Ascends (a ∷ []) = Unit {0}
Ascends (a ∷ b ∷ rest) = (a < b) × Ascends (b ∷ rest)

-- the number is not among these
abbrev pub IsNotAmong : ℕ → List ℕ → Type 0
IsNotAmong n others = AllByRecursion (λ a. n ≢ a) others

-- the target of an X gate is not among its controls
abbrev pub SparesControls : PlainGate → Type 0
SparesControls (X controls target) = IsNotAmong target controls
SparesControls _ = Unit {0}

-- the controls of a gate ascend strictly, and its target is not among them
abbrev pub IsProper : PlainGate → Type 0
IsProper gate = Ascends (controls_of gate) × SparesControls gate

-- a gate that permutes basis states: an X gate; Hadamard and T gates change amplitudes
abbrev pub IsClassical : PlainGate → Type 0
IsClassical (X controls target) = Unit {0}
IsClassical _ = ⊥

-- The gates are X gates, and permute the lists of this number of bits: they keep the length, and the gates and their inverse undo
-- each other.
pub record IsPermutation (wires : ℕ) (gates : List PlainGate) : Type 0 where
  pub classical : AllByRecursion IsClassical gates
  pub wide : (bits : List Bool) → length bits ≡ wires → length (act gates bits) ≡ wires
  pub undone : (bits : List Bool) → act (inverse gates) (act gates bits) ≡ bits
  pub undoes : (bits : List Bool) → act gates (act (inverse gates) bits) ≡ bits

-- the gates of a list, or if the Bool is true its inverse
abbrev pub directed : Bool → List PlainGate → List PlainGate
directed true gates = inverse gates
directed false gates = gates

-- five gates that flip wire 4 exactly if wires 2 and 5 differ and wires 3 and 6 differ
abbrev pub example : List PlainGate
example =
    X (2 ∷ []) 5
    ∷ X (3 ∷ []) 6
    ∷ X (5 ∷ 6 ∷ []) 4
    ∷ X (3 ∷ []) 6
    ∷ X (2 ∷ []) 5
    ∷ []

pub act-example : act example (true ∷ false ∷ true ∷ true ∷ false ∷ false ∷ false ∷ []) ≡ true ∷ false ∷ true ∷ true ∷ true ∷ false ∷ false ∷ []
act-example = refl

pub act-inverse-example : act (inverse example) (true ∷ false ∷ true ∷ true ∷ true ∷ false ∷ false ∷ []) ≡ true ∷ false ∷ true ∷ true ∷ false ∷ false ∷ false ∷ []
act-inverse-example = refl

pub inverse-t_h : inverse (T 0 ∷ H 1 ∷ []) ≡ H 1 ∷ Tdg 0 ∷ []
inverse-t_h = refl

pub all_one-both : all_one (0 ∷ 2 ∷ []) (true ∷ false ∷ true ∷ []) ≡ true
all_one-both = refl

pub all_one-not : all_one (0 ∷ 1 ∷ []) (true ∷ false ∷ true ∷ []) ≡ false
all_one-not = refl

pub Ascends-two : Ascends (2 ∷ 5 ∷ [])
Ascends-two = (omega arith, tt)

pub Ascends-same : ¬ Ascends (2 ∷ 2 ∷ [])
Ascends-same ascends = omega (arith, ascends.0)

pub IsProper-toffoli : IsProper (X (5 ∷ 6 ∷ []) 4)
IsProper-toffoli = ((omega arith, tt), ((λ (same : 4 ≡ 5). omega (arith, same)), ((λ (same : 4 ≡ 6). omega (arith, same)), tt)))

pub IsProper-target : ¬ IsProper (X (2 ∷ []) 2)
IsProper-target proper = proper.1.0 refl

pub directed-inverse : directed true (T 0 ∷ H 1 ∷ []) ≡ H 1 ∷ Tdg 0 ∷ []
directed-inverse = refl

pub directed-same : directed false (T 0 ∷ H 1 ∷ []) ≡ T 0 ∷ H 1 ∷ []
directed-same = refl
