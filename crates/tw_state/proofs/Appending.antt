-- Bits that are written after the first ones, where all later ones are zero.
use Rattle.std.proofs.Common.{◌≡◌, ◌∙◌, ◌+◌, ◌-◌, ◌≤◌, refl, sym, ap, arith, ℕ, Bool, false, List, [], ◌++◌, length, drop, replicate, length-append, append_assoc}
use Rattle.std.proofs.lemmas.List.{length-replicate, drop-replicate, replicate-append-replicate, append-nil}
use Rattle.std.proofs.Math.Seq.{take-append_seam, drop-append-add}
use Rattle.tw_bits.specs.Writing.{written, padded}
use Rattle.tw_state.specs.EntryEncoding.{Appends}

-- a write directly after the first bits
written_after : (n : ℕ) (first more : List Bool) → length first + length more ≤ n → written (length first) more (padded n first) ≡ padded n (first ++ more)
written_after n first more fits =
    let zeros : List Bool = replicate (n - length first) false in
    let rest : n - length first - length more ≡ n - length (first ++ more) = rw (length-append) (omega (arith, fits)) in
    ap (λ bits. bits ++ (more ++ drop (length first + length more) (first ++ zeros))) (take-append_seam first zeros)
    ∙ ap (λ bits. first ++ (more ++ bits)) (drop-append-add first zeros (length more) ∙ drop-replicate (length more) (n - length first) false ∙ ap (λ k. replicate k false) rest)
    ∙ sym (append_assoc first more (replicate (n - length (first ++ more)) false))

-- zeros after the bits are there already
zeros_after : (n k : ℕ) (bits : List Bool) → length bits + k ≤ n → padded n (bits ++ replicate k false) ≡ padded n bits
zeros_after n k bits fits =
    let len : length (bits ++ replicate k false) ≡ length bits + k = length-append bits (replicate k false) ∙ ap (λ m. length bits + m) (length-replicate k false) in
    let all : k + (n - (length bits + k)) ≡ n - length bits = omega (arith, fits) in
    ap (λ m. (bits ++ replicate k false) ++ replicate (n - m) false) len
    ∙ append_assoc bits (replicate k false) (replicate (n - (length bits + k)) false)
    ∙ ap (λ zeros. bits ++ zeros) (replicate-append-replicate k (n - (length bits + k)) false ∙ ap (λ m. replicate m false) all)

pub appends_nothing : (at : ℕ) (bits : List Bool) → Appends at [] bits bits
appends_nothing at bits = record { as_many = refl; after = λ first is zero_after. zero_after ∙ ap (padded (length bits)) (sym (append-nil first)) }

-- a write appends its bits
pub appends_written : (at : ℕ) (more old new : List Bool) → new ≡ written at more old → length new ≡ length old → at + length more ≤ length old → Appends at more old new
appends_written at more old new is len fits = record {
  as_many = len;
  after = λ first is_at zero_after.
      is ∙ ap (written at more) zero_after ∙ ap (λ n. written n more (padded (length old) first)) (sym is_at)
      ∙ written_after (length old) first more (let same : length first ≡ at = is_at in omega (arith, same, fits));
}

-- zeros up to a length are appended with the bits
pub appends_padded : (at size : ℕ) (more old new : List Bool) → length more ≤ size → at + size ≤ length old → Appends at more old new → Appends at (padded size more) old new
appends_padded at size more old new within fits appends = record {
  as_many = appends.as_many;
  after = λ first is_at zero_after.
      appends.after first is_at zero_after
      ∙ sym (ap (padded (length old)) (sym (append_assoc first more (replicate (size - length more) false)))
      ∙ zeros_after (length old) (size - length more) (first ++ more)
      (let same : length first ≡ at = is_at in let len : length (first ++ more) ≡ length first + length more = length-append first more in omega (arith, same, len, within, fits)));
}

-- two appended lists are one
pub appends_both : (at next : ℕ) (xs ys old middle new : List Bool) → next ≡ at + length xs → Appends at xs old middle → Appends next ys middle new → Appends at (xs ++ ys) old new
appends_both at next xs ys old middle new is_next one two = record {
  as_many = two.as_many ∙ one.as_many;
  after = λ first is_at zero_after.
      let there = one.after first is_at zero_after in
      let len : length (first ++ xs) ≡ next = length-append first xs ∙ (ap (λ n. n + length xs) is_at ∙ sym is_next) in
      two.after (first ++ xs) len (there ∙ ap (λ n. padded n (first ++ xs)) (sym one.as_many))
      ∙ ap (λ n. padded n ((first ++ xs) ++ ys)) one.as_many
      ∙ ap (padded (length old)) (append_assoc first xs ys);
}
