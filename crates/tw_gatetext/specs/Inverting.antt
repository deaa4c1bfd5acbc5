-- What the calls that write the lines of an inverse file find and do.
use Rattle.std.specs.Prelude.{◌≡◌, ◌≢◌, ◌⊎◌, ℕ, ◌<◌, ◌^◌, List, [], ◌++◌, codes, Option, Result, Ok, OnOk, OnErr}
use Rattle.std.specs.List.{AllByRecursion}
use Rattle.tw_io.specs.declared.device.WriteFault.{WriteFault}
use Rattle.tw_io.specs.Devices.{Wrote}
use Rattle.tw_gate.specs.Gates.{PlainGate}
use Rattle.tw_gatetext.specs.LineWords.{numbers_of}

-- no byte ends a line
abbrev pub HasNoNewline : List ℕ → Type 0
HasNoNewline text = AllByRecursion (λ byte. byte ≢ 10) text

-- the text is empty or ends with the end of a line
abbrev pub EndsLine : List ℕ → Type 0
EndsLine text = (text ≡ []) ⊎ ((front : List ℕ) × (text ≡ front ++ codes "\n"))

-- the numbers on the lines of gates are below 2 ^ 64
abbrev pub HaveSmallNumbers : List PlainGate → Type 0
HaveSmallNumbers gates = AllByRecursion (λ gate. AllByRecursion (λ n. n < 2 ^ 64) (numbers_of gate)) gates

-- A piece was put behind a chunk of bytes. On Ok the sink took a prefix of both, and the rest is the chunk now.
-- At a fault the sink took a part of them.
pub record Put {K : Type 0} (taken : K → Option (List ℕ)) (faults : K → ℕ) (old new : K) (result : Result (Unit {0}) WriteFault) (before now piece : List ℕ) : Type 0 where
  pub whole : OnOk result ((written : List ℕ) × Wrote taken faults old new (Ok tt) written × (before ++ piece ≡ written ++ now))
  pub broken : OnErr result (Wrote taken faults old new result (before ++ piece))
