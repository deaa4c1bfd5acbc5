-- What contracts see of a sink behind a buffer.
use Rattle.std.specs.Prelude.{◌≡◌, ℕ, List, [], ◌∷◌, ◌++◌, Option, Some, None, refl}
use Rattle.std.specs.Coded.{Coded, code_by, coded×, coded_list, coded_ℕ}
use Rattle.std.specs.Io.KnownBytes.{append_known}
use Rattle.tw_io.specs.Devices.{Appends}

-- a sink behind a buffer: the sink, and the bytes in the buffer, which the sink has still to take
pub record Buffered (K : Type 0) : Type 0 where
  pub sink : K
  pub pending : List ℕ

-- it is stored as the pair of its fields
abbrev pub buffered_code : {K : Type 0} → Coded K → Coded (Buffered K)
buffered_code {K} code =
    code_by (K × List ℕ) (coded× code (coded_list coded_ℕ)) (λ s. (s.sink, s.pending)) (λ p. record { sink = p.0; pending = p.1 }) (λ _. refl)

module _ {K : Type 0} (taken : K → Option (List ℕ)) where
  -- the bytes that the sink took, and then the pending ones, if the sink reports its bytes
  abbrev pub taken_with_pending : Buffered K → Option (List ℕ)
  taken_with_pending s = append_known (taken s.sink) s.pending

  -- the sink took a prefix of the pending bytes, and the suffix is still pending
  pub record HandedOver (old new : Buffered K) : Type 0 where
    pub prefix : List ℕ
    pub split : old.pending ≡ prefix ++ new.pending
    pub took : Appends (taken old.sink) (taken new.sink) prefix

taken_with_pending-two : taken_with_pending {K = List ℕ} Some (record { sink = 1 ∷ []; pending = 2 ∷ 3 ∷ [] }) ≡ Some (1 ∷ 2 ∷ 3 ∷ [])
taken_with_pending-two = refl

taken_with_pending-unknown : taken_with_pending {K = ℕ} (λ _. None) (record { sink = 0; pending = 2 ∷ 3 ∷ [] }) ≡ None
taken_with_pending-unknown = refl

HandedOver-one : HandedOver {K = List ℕ} Some (record { sink = []; pending = 1 ∷ 2 ∷ [] }) (record { sink = 1 ∷ []; pending = 2 ∷ [] })
HandedOver-one = record { prefix = 1 ∷ []; split = refl; took = refl }
