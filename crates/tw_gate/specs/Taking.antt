-- What a call that gives gates to a taker did, and what a list of gates took.
use Rattle.std.specs.Prelude.{◌≡◌, ℕ, List, [], ◌∷◌, ◌++◌, Result, OnOk, OnErr, refl}
use Rattle.tw_io.specs.Devices.{Rose}
use Rattle.tw_gate.specs.declared.out.Stopped.{Stopped}
use Rattle.tw_gate.specs.Gates.{PlainGate, T, H}

-- What a call that gives gates to a taker did. On Ok the taker took them all, and its fault counter is unchanged.
-- If the taker stopped, it broke in them, and its fault counter rose.
-- broke in them, and its fault counter rose.
pub record Gave {O : Type 0} (took broke : O → O → List PlainGate → Type 0) (faults : O → ℕ) (old new : O) (result : Result (Unit {0}) Stopped) (gates : List PlainGate) : Type 0 where
  pub whole : OnOk result (took old new gates)
  pub broken : OnErr result (broke old new gates)
  pub cause : OnErr result (Rose (faults old) (faults new))
  pub steady : OnOk result (faults new ≡ faults old)

-- a list took these gates: they follow its own
abbrev pub Grew : List PlainGate → List PlainGate → List PlainGate → Type 0
Grew before now gates = now ≡ before ++ gates

-- a list took a prefix of these gates
pub record GrewPrefix (before now gates : List PlainGate) : Type 0 where
  pub prefix : List PlainGate
  pub rest : List PlainGate
  pub split : gates ≡ prefix ++ rest
  pub grew : Grew before now prefix

Grew-two : Grew (T 0 ∷ []) (T 0 ∷ H 1 ∷ T 2 ∷ []) (H 1 ∷ T 2 ∷ [])
Grew-two = refl

GrewPrefix-one : GrewPrefix (T 0 ∷ []) (T 0 ∷ H 1 ∷ []) (H 1 ∷ T 2 ∷ [])
GrewPrefix-one = record { prefix = H 1 ∷ []; rest = T 2 ∷ []; split = refl; grew = refl }
