-- What contracts see of the devices in memory.
use Rattle.std.specs.Prelude.{◌≡◌, ◌==◌, ℕ, Bool, true, false, List, [], ◌∷◌, refl}
use Rattle.std.specs.List.{list_any}

-- a source in memory: the bytes that are left, the most bytes of one read, the numbers of the failing calls, the number of
-- calls so far, and the error counter
pub record SourceView : Type 0 where
  pub left : List ℕ
  pub chunk : ℕ
  pub failing : List ℕ
  pub calls : ℕ
  pub faults : ℕ

-- a sink in memory: the bytes taken, the most bytes in all, the numbers of the failing calls, the number of calls so far,
-- and the error counter
pub record SinkView : Type 0 where
  pub taken : List ℕ
  pub room : ℕ
  pub failing : List ℕ
  pub calls : ℕ
  pub faults : ℕ

-- a sink in memory that grows: the bytes taken, and the error counter
pub record VecView : Type 0 where
  pub taken : List ℕ
  pub faults : ℕ

-- whether the call of this number fails
abbrev pub is_listed : List ℕ → ℕ → Bool
is_listed failing call = list_any (λ number. number == call) failing

is_listed-second : is_listed (2 ∷ 5 ∷ []) 5 ≡ true
is_listed-second = refl

is_listed-none : is_listed (2 ∷ 5 ∷ []) 3 ≡ false
is_listed-none = refl
