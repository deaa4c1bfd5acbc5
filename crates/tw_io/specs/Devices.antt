-- What byte devices report, and what a call took from a source or gave to a sink.
use Rattle.std.specs.Prelude.{◌≡◌, ℕ, ◌+◌, ◌-◌, ◌^◌, ◌<◌, ◌≤◌, List, [], ◌∷◌, ◌++◌, length, min, max, Option, Some, None, Result, Err, OnOk, OnErr, IfSome, refl}
use Rattle.tw_io.specs.declared.device.WriteFault.{WriteFault}
use Rattle.tw_io.specs.declared.device.ReadError.{ReadError}
use Rattle.tw_io.specs.declared.device.ReadError.TheVariants as error

-- a counter of 64 bits after one more event: it saturates at its greatest value
abbrev pub next_count : ℕ → ℕ
next_count count = min (count + 1) (2 ^ 64 - 1)

next_count-first : next_count 0 ≡ 1
next_count-first = refl

next_count-last : next_count 18446744073709551615 ≡ 18446744073709551615
next_count-last = refl

-- the error counter rose, or is at its greatest value; it never fell
abbrev pub Rose : ℕ → ℕ → Type 0
Rose before now = max before (next_count before) ≤ now

-- the error counter after a whole read: it rose iff a read failed
abbrev pub CountsRead : {V : Type 0} → Result V ReadError → ℕ → ℕ → Type 0
CountsRead (Err error.ReadFault) before now = Rose before now
CountsRead other before now = now ≡ before

-- the source gave this piece, a prefix of what was left; it reports its bytes iff it reported them before
abbrev pub Takes : Option (List ℕ) → Option (List ℕ) → List ℕ → Type 0
Takes None None piece = Unit {0}
Takes (Some before) (Some now) piece = before ≡ piece ++ now
Takes None (Some now) piece = ⊥
Takes (Some before) None piece = ⊥

Takes-two : Takes (Some (1 ∷ 2 ∷ 3 ∷ [])) (Some (3 ∷ [])) (1 ∷ 2 ∷ [])
Takes-two = refl

Takes-none : Takes (Some (3 ∷ [])) (Some (3 ∷ [])) []
Takes-none = refl

-- the source gave from `least` to `most` bytes
pub record TakesBetween (before now : Option (List ℕ)) (least most : ℕ) : Type 0 where
  pub bytes : List ℕ
  pub enough : least ≤ length bytes
  pub within : length bytes ≤ most
  pub taken : Takes before now bytes

-- the source gave exactly `count` bytes
pub record TakesExactly (before now : Option (List ℕ)) (count : ℕ) : Type 0 where
  pub bytes : List ℕ
  pub counted : length bytes ≡ count
  pub taken : Takes before now bytes

-- nothing is left, if the source reports its bytes
abbrev pub IsAtEnd : Option (List ℕ) → Type 0
IsAtEnd left = IfSome left (λ bytes. bytes ≡ [])

-- the sink took this piece after what it had taken; it reports its bytes iff it reported them before
abbrev pub Appends : Option (List ℕ) → Option (List ℕ) → List ℕ → Type 0
Appends None None piece = Unit {0}
Appends (Some before) (Some now) piece = now ≡ before ++ piece
Appends None (Some now) piece = ⊥
Appends (Some before) None piece = ⊥

Appends-two : Appends (Some (1 ∷ [])) (Some (1 ∷ 2 ∷ 3 ∷ [])) (2 ∷ 3 ∷ [])
Appends-two = refl

Appends-none : Appends (Some (1 ∷ [])) (Some (1 ∷ [])) []
Appends-none = refl

-- the sink took a prefix of the text
pub record AppendsPrefix (before now : Option (List ℕ)) (text : List ℕ) : Type 0 where
  pub prefix : List ℕ
  pub suffix : List ℕ
  pub split : text ≡ prefix ++ suffix
  pub taken : Appends before now prefix

-- the sink took a proper prefix of the text
pub record AppendsProperPrefix (before now : Option (List ℕ)) (text : List ℕ) : Type 0 where
  pub taken : AppendsPrefix before now text
  pub proper : 0 < length taken.suffix

-- a call that writes a text: on Ok the sink took it whole, and its error counter is unchanged; on a fault the sink took a prefix,
-- and its error counter rose
pub record Wrote {K : Type 0} (taken : K → Option (List ℕ)) (faults : K → ℕ) (old new : K) (result : Result (Unit {0}) WriteFault) (text : List ℕ) : Type 0 where
  pub whole : OnOk result (Appends (taken old) (taken new) text)
  pub broken : OnErr result (AppendsPrefix (taken old) (taken new) text)
  pub cause : OnErr result (Rose (faults old) (faults new))
  pub steady : OnOk result (faults new ≡ faults old)
