-- The gates of a code.
use Rattle.std.specs.Prelude.{◌≡◌, ℕ, ◌≤◌, Bool, true, false, List, [], ◌∷◌, ◌++◌, length, refl}
use Rattle.tw_gate.specs.Gates.{PlainGate, X, controls_of}
use Rattle.tw_code.specs.Trees.{CodeTree, Nothing, Then, FlipCode, IfCode, WithCode, ConjCode}
use Rattle.tw_code.specs.Examples.{conjunction, chain, around, idle}
use Rattle.tw_code.specs.Sorting.{sorted}

-- the gates of a code under these controls, in order; backward if the Bool is true
abbrev pub emitted : CodeTree → Bool → List ℕ → List PlainGate
emitted Nothing backward present = []
emitted (Then first rest) false present = emitted first false present ++ emitted rest false present
emitted (Then first rest) true present = emitted rest true present ++ emitted first true present
emitted (FlipCode controls target) backward present = X (sorted (controls ++ present)) target ∷ []
emitted (IfCode wire body) backward present = emitted body backward (wire ∷ present)
emitted (WithCode setup work) backward present = emitted setup false present ++ (emitted work backward present ++ emitted setup true present)
emitted (ConjCode setup work) backward present = emitted setup false [] ++ (emitted work backward present ++ emitted setup true [])

-- the gate has at most this number of controls
abbrev pub HasControlsUpTo : ℕ → PlainGate → Type 0
HasControlsUpTo most gate = length (controls_of gate) ≤ most

-- a buffer of this length has room for the controls of the gate, and the gate fits the taker
abbrev pub CanTake : {O : Type 0} → (O → PlainGate → Type 0) → O → ℕ → PlainGate → Type 0
CanTake fits out room gate = HasControlsUpTo room gate × fits out gate

pub emitted-conjunction : emitted conjunction false []
    ≡ X (2 ∷ []) 6
    ∷ X (3 ∷ []) 7
    ∷ X (4 ∷ []) 8
    ∷ X (6 ∷ 7 ∷ 8 ∷ []) 5
    ∷ X (4 ∷ []) 8
    ∷ X (3 ∷ []) 7
    ∷ X (2 ∷ []) 6
    ∷ []
emitted-conjunction = refl

-- the setup of a `With` gets the present controls
pub emitted-around : emitted around false [] ≡ X (1 ∷ 2 ∷ []) 3 ∷ X (1 ∷ 3 ∷ []) 0 ∷ X (1 ∷ 2 ∷ []) 3 ∷ []
emitted-around = refl

pub emitted-chain : emitted chain true (3 ∷ 5 ∷ []) ≡ X (1 ∷ 3 ∷ 5 ∷ []) 2 ∷ X (0 ∷ 3 ∷ 5 ∷ []) 1 ∷ []
emitted-chain = refl

-- two controls are present, but each gate has none
pub emitted-idle : emitted idle false [] ≡ X [] 3 ∷ X [] 3 ∷ []
emitted-idle = refl
