-- Bits of all wires as a function from wires, for laws: each effect of a code is an XOR by another such function.
use Rattle.std.proofs.Common.{arith}
use Rattle.std.specs.Prelude.{◌≡◌, ℕ, zero, suc, ◌+◌, ◌==◌, ◌≤◌, ◌<◌, Bool, true, false, not, ◌&&◌, if◌then◌else◌, List, [], ◌∷◌, refl}
use Rattle.tw_code.specs.Trees.{CodeTree, Nothing, Then, FlipCode, IfCode, WithCode, ConjCode}
use Rattle.tw_code.specs.Examples.{conjunction, around, chain}

abbrev pub xor : Bool → Bool → Bool
xor true bit = not bit
xor false bit = bit

-- the bit of each wire
abbrev pub Bits : Type 0
Bits = ℕ → Bool

-- all bits 0
abbrev pub zeros : Bits
zeros = λ wire. false

-- the XOR of two
abbrev pub changed : Bits → Bits → Bits
changed bits by = λ wire. xor (bits wire) (by wire)

-- a bit on one wire, 0 elsewhere
abbrev pub one_at : ℕ → Bool → Bits
one_at at bit = λ wire. bit && (wire == at)

-- bits from a wire on, 0 elsewhere
abbrev pub placed : ℕ → List Bool → Bits
placed at [] = zeros
placed at (bit ∷ bits) = changed (one_at at bit) (placed (suc at) bits)

-- this number of bits from a wire on
abbrev pub read : ℕ → ℕ → Bits → List Bool
read at zero bits = []
read at (suc count) bits = bits at ∷ read (suc at) count bits

-- the XOR of two lists, as long as the shorter one
abbrev pub xors : List Bool → List Bool → List Bool
xors [] others = []
xors (bit ∷ bits) [] = []
xors (bit ∷ bits) (other ∷ others) = xor bit other ∷ xors bits others

-- a wire of the region of this number of wires from this wire on
pub record IsIn (from count wire : ℕ) : Type 0 where
  pub from_start : from ≤ wire
  pub before_end : wire < from + count

-- no wire has both properties
abbrev pub AreDisjoint : (ℕ → Type 0) → (ℕ → Type 0) → Type 0
AreDisjoint P Q = (wire : ℕ) → P wire → Q wire → ⊥

-- all wires with a property are 0 here
abbrev pub AreZero : (ℕ → Type 0) → Bits → Type 0
AreZero P bits = (wire : ℕ) → P wire → bits wire ≡ false

-- whether all these wires are 1
abbrev pub all_on : List ℕ → Bits → Bool
all_on [] bits = true
all_on (wire ∷ wires) bits = bits wire && all_on wires bits

-- what a code does to the bits of all wires, forward or, if the Bool is true, backward
abbrev pub mean_wires : CodeTree → Bool → Bits → Bits
mean_wires Nothing backward bits = bits
mean_wires (Then first rest) false bits = mean_wires rest false (mean_wires first false bits)
mean_wires (Then first rest) true bits = mean_wires first true (mean_wires rest true bits)
mean_wires (FlipCode controls target) backward bits = changed bits (one_at target (all_on controls bits))
mean_wires (IfCode wire body) backward bits = if bits wire then mean_wires body backward bits else bits
mean_wires (WithCode setup work) backward bits = mean_wires setup true (mean_wires work backward (mean_wires setup false bits))
mean_wires (ConjCode setup work) backward bits = mean_wires setup true (mean_wires work backward (mean_wires setup false bits))

pub read-placed_between : read 2 5 (placed 3 (true ∷ false ∷ true ∷ [])) ≡ false ∷ true ∷ false ∷ true ∷ false ∷ []
read-placed_between = refl

pub read-changed_twice : read 0 3 (changed (placed 0 (true ∷ true ∷ [])) (placed 1 (true ∷ true ∷ []))) ≡ true ∷ false ∷ true ∷ []
read-changed_twice = refl

-- wires 2, 3 and 4 are 1: wire 5 is flipped
pub mean_wires-conjunction : read 2 7 (mean_wires conjunction false (placed 2 (true ∷ true ∷ true ∷ []))) ≡ true ∷ true ∷ true ∷ true ∷ false ∷ false ∷ false ∷ []
mean_wires-conjunction = refl

pub mean_wires-chain_backward : read 0 3 (mean_wires chain true (placed 0 (true ∷ true ∷ true ∷ []))) ≡ true ∷ false ∷ false ∷ []
mean_wires-chain_backward = refl

pub mean_wires-around : read 0 4 (mean_wires around false (placed 1 (true ∷ true ∷ []))) ≡ true ∷ true ∷ true ∷ false ∷ []
mean_wires-around = refl

-- a region of two wires ends before the third
pub IsIn-last : IsIn 3 2 4
IsIn-last = record { from_start = omega arith; before_end = omega arith }

pub IsIn-past : ¬ IsIn 3 2 5
IsIn-past inside = omega (arith, inside.before_end)

pub AreDisjoint-neighbours : AreDisjoint (IsIn 3 2) (IsIn 5 1)
AreDisjoint-neighbours wire first second = omega (arith, first.before_end, second.from_start)
