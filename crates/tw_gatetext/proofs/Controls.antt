-- Ascending controls, one by one from the first.
use Rattle.std.proofs.Common.{◌≡◌, sym, ◌↔◌, ℕ, ◌+◌, ◌<◌, ◌≤◌, List, [], ◌∷◌, arith}
use Rattle.std.specs.List.{AllByRecursion}
use Rattle.tw_gate.specs.Gates.{Ascends, IsNotAmong}

-- the first of these is at least this number
abbrev pub StartsAt : ℕ → List ℕ → Type 0
StartsAt least [] = Unit {0}
StartsAt least (a ∷ rest) = least ≤ a

-- these are controls that fit, from this wire on
pub record MayFollow (wires target least : ℕ) (controls : List ℕ) : Type 0 where
  pub starts : StartsAt least controls
  pub ascend : Ascends controls
  pub spare : IsNotAmong target controls
  pub below : AllByRecursion (λ c. c < wires) controls

follow_cons : (wires target least control : ℕ) (rest : List ℕ) → least ≤ control → control < wires → ¬ (control ≡ target)
    → MayFollow wires target least (control ∷ rest) ↔ MayFollow wires target (control + 1) rest
follow_cons wires target least control [] from within spare = (
  λ all. record { starts = tt; ascend = tt; spare = tt; below = tt },
  λ all. record { starts = from; ascend = tt; spare = (λ same. spare (sym same), tt); below = (within, tt) },
)
follow_cons wires target least control (next ∷ rest) from within spare = (
  λ all. record { starts = omega (arith, all.ascend.0); ascend = all.ascend.1; spare = all.spare.1; below = all.below.1 },
  λ all. record { starts = from; ascend = (omega (arith, all.starts), all.ascend); spare = (λ same. spare (sym same), all.spare); below = (within, all.below) },
)

-- a control that fits, and those after it
pub follow_step : (wires target least control : ℕ) (controls rest : List ℕ) → controls ≡ control ∷ rest → least ≤ control → control < wires → ¬ (control ≡ target)
    → MayFollow wires target least controls ↔ MayFollow wires target (control + 1) rest
follow_step wires target least control controls rest split from within spare = rw split (follow_cons wires target least control rest from within spare)
