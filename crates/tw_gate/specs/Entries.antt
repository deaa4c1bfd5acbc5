-- How a list stores its gates: entries, and one pool with the controls of all of them.
use Rattle.std.specs.Prelude.{◌≡◌, ℕ, ◌+◌, ◌≤◌, List, [], ◌∷◌, map, slice_range, refl}
use Rattle.tw_gate.specs.declared.list.Kind.{Kind}
use Rattle.tw_gate.specs.declared.list.Kind.TheVariants as kind
use Rattle.tw_gate.specs.declared.list.Entry.{Entry}
use Rattle.tw_gate.specs.Gates.{PlainGate, X, H, T, Tdg}

-- the gate of a kind
abbrev pub gate_with : Kind → List ℕ → ℕ → PlainGate
gate_with kind.X controls wire = X controls wire
gate_with kind.H controls wire = H wire
gate_with kind.T controls wire = T wire
gate_with kind.Tdg controls wire = Tdg wire

-- the gate of an entry, whose controls are its part of the pool
abbrev pub gate_of : List ℕ → Entry → PlainGate
gate_of pool entry = gate_with entry.kind (slice_range pool entry.from (entry.from + entry.controls)) entry.wire

-- the controls of an entry lie within a pool of this length
abbrev pub LiesWithin : ℕ → Entry → Type 0
LiesWithin size entry = entry.from + entry.controls ≤ size

-- the kind of the inverse gate: T and its inverse are exchanged
abbrev pub inverse_kind : Kind → Kind
inverse_kind kind.T = kind.Tdg
inverse_kind kind.Tdg = kind.T
inverse_kind other = other

abbrev pub inverse_entry : Entry → Entry
inverse_entry entry = record { kind = inverse_kind entry.kind; controls = entry.controls; wire = entry.wire; from = entry.from }

-- two gates that share a pool
pub gate_of-pool :
    map (gate_of (2 ∷ 3 ∷ 4 ∷ [])) (record { kind = kind.X; controls = 1; wire = 5; from = 0 } ∷ record { kind = kind.X; controls = 2; wire = 6; from = 1 } ∷ [])
    ≡ X (2 ∷ []) 5 ∷ X (3 ∷ 4 ∷ []) 6 ∷ []
gate_of-pool = refl

pub inverse_entry-t : gate_of [] (inverse_entry (record { kind = kind.T; controls = 0; wire = 7; from = 0 })) ≡ Tdg 7
inverse_entry-t = refl
