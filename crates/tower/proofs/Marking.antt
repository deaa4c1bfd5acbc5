-- The line `%%` is found from the left.
use Rattle.std.proofs.Common.{◌≡◌, ◌∙◌, ap, sym, subst, ℕ, zero, suc, ◌+◌, ◌==◌, ◌<◌, ◌≤◌, Bool, true, false, if◌then◌else◌, List, [], ◌∷◌, ◌++◌, length, take, drop, slice_index_or, Option, Some, None, append_assoc, append-nil, arith, refl}
use Rattle.std.proofs.Math.Seq.{take-suc}
use Rattle.tower.specs.Marks.{after_mark, parted_at, parted}

-- the parts, with these bytes before them
abbrev pub passed : List ℕ → List ℕ × List ℕ → List ℕ × List ℕ
passed bytes parts = (bytes ++ parts.0, parts.1)

-- the bytes up to a place are passed: no line `%%` begins before it
abbrev pub IsPassed : List ℕ → ℕ → Bool → Type 0
IsPassed bytes place begins = (place ≤ length bytes) × (parted true bytes ≡ passed (take place bytes) (parted begins (drop place bytes)))

drop_here : (bytes : List ℕ) (place : ℕ) → place < length bytes → drop place bytes ≡ slice_index_or bytes place 0 ∷ drop (suc place) bytes
drop_here [] place within = absurd (omega (arith, within))
drop_here (byte ∷ bytes) zero within = refl
drop_here (byte ∷ bytes) (suc place) within = drop_here bytes place (omega (arith, within))

drop_all : (bytes : List ℕ) (place : ℕ) → length bytes ≤ place → drop place bytes ≡ []
drop_all [] zero past = refl
drop_all [] (suc place) past = refl
drop_all (byte ∷ bytes) zero past = absurd (omega (arith, past))
drop_all (byte ∷ bytes) (suc place) past = drop_all bytes place (omega (arith, past))

take_all : (bytes : List ℕ) (place : ℕ) → length bytes ≤ place → take place bytes ≡ bytes
take_all [] zero past = refl
take_all [] (suc place) past = refl
take_all (byte ∷ bytes) zero past = absurd (omega (arith, past))
take_all (byte ∷ bytes) (suc place) past = ap (λ rest. byte ∷ rest) (take_all bytes place (omega (arith, past)))

-- the mark at a place
abbrev mark_at : List ℕ → ℕ → Bool → Option (List ℕ)
mark_at bytes place begins = if begins then after_mark (drop place bytes) else None

parted_here : (bytes : List ℕ) (place : ℕ) (begins : Bool) (found : Option (List ℕ)) → place < length bytes → mark_at bytes place begins ≡ found
    → parted begins (drop place bytes) ≡ parted_at found (slice_index_or bytes place 0) (parted (slice_index_or bytes place 0 == 10) (drop (suc place) bytes))
parted_here bytes place begins found within is =
    let here = drop_here bytes place within in
    rw here (ap (λ mark. parted_at mark (slice_index_or bytes place 0) (parted (slice_index_or bytes place 0 == 10) (drop (suc place) bytes))) (ap (λ rest. if begins then after_mark rest else None) (sym here) ∙ is))

next : (bytes : List ℕ) (place : ℕ) (begins : Bool) → place < length bytes → mark_at bytes place begins ≡ None → IsPassed bytes place begins → IsPassed bytes (suc place) (slice_index_or bytes place 0 == 10)
next bytes place begins within none is = (
  omega (arith, within),
  is.1 ∙ ap (passed (take place bytes)) (parted_here bytes place begins None within none)
      ∙ (λ i. (step i, (parted (slice_index_or bytes place 0 == 10) (drop (suc place) bytes)).1)),
)
  where
    step : take place bytes ++ slice_index_or bytes place 0 ∷ (parted (slice_index_or bytes place 0 == 10) (drop (suc place) bytes)).0 ≡ take (suc place) bytes ++ (parted (slice_index_or bytes place 0 == 10) (drop (suc place) bytes)).0
    step =
        sym (append_assoc (take place bytes) (slice_index_or bytes place 0 ∷ []) (parted (slice_index_or bytes place 0 == 10) (drop (suc place) bytes)).0)
        ∙ ap (λ (front : List ℕ). front ++ (parted (slice_index_or bytes place 0 == 10) (drop (suc place) bytes)).0) (sym (take-suc bytes place 0 within))

pub passed_next : (bytes : List ℕ) (place : ℕ) (begins : Bool) → place < length bytes → mark_at bytes place begins ≡ None → IsPassed bytes place begins → IsPassed bytes (place + 1) (slice_index_or bytes place 0 == 10)
passed_next bytes place begins within none is = subst (λ n. IsPassed bytes n (slice_index_or bytes place 0 == 10)) (omega arith) (next bytes place begins within none is)

pub parted_at_mark : (bytes rest : List ℕ) (place : ℕ) (begins : Bool) → place < length bytes → mark_at bytes place begins ≡ Some rest → IsPassed bytes place begins → ◌≡◌ {A = List ℕ × List ℕ} (take place bytes, rest) (parted true bytes)
parted_at_mark bytes rest place begins within found is =
    (λ i. (sym (append-nil (take place bytes)) i, rest)) ∙ (ap (passed (take place bytes)) (sym (parted_here bytes place begins (Some rest) within found)) ∙ sym is.1)

pub parted_at_end : (bytes : List ℕ) (place : ℕ) (begins : Bool) → length bytes ≤ place → IsPassed bytes place begins → ◌≡◌ {A = List ℕ × List ℕ} (bytes, []) (parted true bytes)
parted_at_end bytes place begins past is =
    (λ i. (whole i, [])) ∙ (ap (λ rest. passed (take place bytes) (parted begins rest)) (sym (drop_all bytes place past)) ∙ sym is.1)
  where
    whole : bytes ≡ take place bytes ++ []
    whole = sym (append-nil (take place bytes) ∙ take_all bytes place past)
