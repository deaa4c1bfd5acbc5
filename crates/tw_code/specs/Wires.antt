-- The wires that a code uses, and proper code.
use Rattle.std.proofs.Common.{arith}
use Rattle.std.specs.Prelude.{◌≡◌, ◌≢◌, ℕ, ◌<◌, List, [], ◌∷◌, refl}
use Rattle.std.specs.List.{AllByRecursion}
use Rattle.tw_gate.specs.Gates.{IsNotAmong}
use Rattle.tw_code.specs.Trees.{CodeTree, Nothing, Then, FlipCode, IfCode, WithCode, ConjCode}

-- each wire that the code uses has this property
abbrev pub EachWire : (ℕ → Type 0) → CodeTree → Type 0
EachWire P Nothing = Unit {0}
EachWire P (Then first rest) = EachWire P first × EachWire P rest
EachWire P (FlipCode controls target) = AllByRecursion P controls × P target
EachWire P (IfCode wire body) = P wire × EachWire P body
EachWire P (WithCode setup work) = EachWire P setup × EachWire P work
EachWire P (ConjCode setup work) = EachWire P setup × EachWire P work

-- the code does not use the wire
abbrev pub IsUnused : ℕ → CodeTree → Type 0
IsUnused wire code = EachWire (λ used. wire ≢ used) code

-- the code uses none of these wires
abbrev pub AreUnused : List ℕ → CodeTree → Type 0
AreUnused wires code = AllByRecursion (λ wire. IsUnused wire code) wires

-- all wires that the code uses are below this number
abbrev pub UsesWiresBelow : ℕ → CodeTree → Type 0
UsesWiresBelow wires code = EachWire (λ used. used < wires) code

-- each number occurs once
abbrev pub AreDistinct : List ℕ → Type 0
AreDistinct [] = Unit {0}
AreDistinct (n ∷ others) = IsNotAmong n others × AreDistinct others

-- the wires of each X gate are distinct, and the body of an `If` does not use the wire of the `If`
abbrev pub IsProperCode : CodeTree → Type 0
IsProperCode Nothing = Unit {0}
IsProperCode (Then first rest) = IsProperCode first × IsProperCode rest
IsProperCode (FlipCode controls target) = AreDistinct (target ∷ controls)
IsProperCode (IfCode wire body) = IsUnused wire body × IsProperCode body
IsProperCode (WithCode setup work) = IsProperCode setup × IsProperCode work
IsProperCode (ConjCode setup work) = IsProperCode setup × IsProperCode work

pub IsProperCode-flip : IsProperCode (FlipCode (6 ∷ 5 ∷ []) 4)
IsProperCode-flip = (
  ((λ (same : 4 ≡ 6). omega (arith, same)), ((λ (same : 4 ≡ 5). omega (arith, same)), tt)),
  (((λ (same : 6 ≡ 5). omega (arith, same)), tt), (tt, tt)),
)

pub IsProperCode-target : ¬ IsProperCode (FlipCode (2 ∷ []) 2)
IsProperCode-target proper = proper.0.0 refl

pub IsProperCode-twice : ¬ IsProperCode (FlipCode (2 ∷ 2 ∷ []) 3)
IsProperCode-twice proper = proper.1.0.0 refl

pub IsProperCode-own_control : ¬ IsProperCode (IfCode 2 (FlipCode (2 ∷ []) 3))
IsProperCode-own_control proper = proper.0.0.0 refl

pub UsesWiresBelow-five : UsesWiresBelow 5 (IfCode 4 (FlipCode (2 ∷ []) 3))
UsesWiresBelow-five = (omega arith, ((omega arith, tt), omega arith))

pub UsesWiresBelow-four : ¬ UsesWiresBelow 4 (IfCode 4 (FlipCode (2 ∷ []) 3))
UsesWiresBelow-four below = omega (arith, below.0)
