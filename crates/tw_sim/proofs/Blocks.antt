-- The first lanes of words: one lane more, and all of them after gates.
use Rattle.std.proofs.Common.{◌≡◌, ◌≢◌, ◌∙◌, ap, sym, refl, ℕ, zero, suc, ◌+◌, ◌<◌, ◌≤◌, Bool, false, List, [], ◌∷◌, ◌++◌, length, nat_eq, map, replicate, append_assoc, append-nil, arith}
use Rattle.std.specs.List.{range_with_len}
use Rattle.std.proofs.lemmas.List.{length-map, length-replicate, map-id}
use Rattle.std.proofs.lemmas.List.FromFn.{map-range_with_len_more}
use Rattle.std.proofs.lemmas.Nat.Bits.{bit_at-zero}
use Rattle.tw_gate.specs.Gates.{PlainGate, act}
use Rattle.tw_sim.specs.BitLines.{bit_line, bit_lines, HaveWires, AreLinesOf}
use Rattle.tw_sim.specs.Lanes.{number_bit, lane, lanes, LanesActed}
use Rattle.tw_sim.proofs.Laws.{bit_lines-prefix}
use Rattle.tw_sim.proofs.Reading.{bit_lines-append}

lanes-more : (count : ℕ) (words : List ℕ) → lanes (count + 1) words ≡ lanes count words ++ lane count words ∷ []
lanes-more count words = map-range_with_len_more (λ place. lane place words) 0 count count (omega arith)

-- the line of one more lane
pub bit_lines-lanes_more : (count : ℕ) (words : List ℕ) → bit_lines (lanes (count + 1) words) ≡ bit_lines (lanes count words) ++ bit_line (lane count words)
bit_lines-lanes_more count words =
    ap bit_lines (lanes-more count words)
    ∙ bit_lines-append (lanes count words) (lane count words ∷ [])
    ∙ ap (λ last. bit_lines (lanes count words) ++ last) (append-nil (bit_line (lane count words)))

same_over : (f g : ℕ → List Bool) (h : List Bool → List Bool) (from count : ℕ) → ((place : ℕ) → place < from + count → f place ≡ h (g place)) → map f (range_with_len from count) ≡ map h (map g (range_with_len from count))
same_over f g h from zero same = refl
same_over f g h from (suc count) same =
    let first = same from (omega arith) in
    let others = same_over f g h (from + 1) count (λ place below. same place (omega arith)) in
    cc

-- the lanes after gates
pub lanes_acted : (gates : List PlainGate) (before now : List ℕ) (count : ℕ) → count ≤ 64 → LanesActed gates before now → lanes count now ≡ map (act gates) (lanes count before)
lanes_acted gates before now count few acted =
    same_over (λ place. lane place now) (λ place. lane place before) (act gates) 0 count (λ place below. acted place (omega arith))

-- the lanes have as many bits as there are words
pub HaveWires-lanes : (wires count : ℕ) (words : List ℕ) → wires ≡ length words → HaveWires wires (lanes count words)
HaveWires-lanes wires count words size = wide 0 count
  where
    wide : (from count : ℕ) → HaveWires wires (map (λ place. lane place words) (range_with_len from count))
    wide from zero = tt
    wide from (suc count) = (length-map words (number_bit from) ∙ sym size, wide (from + 1) count)

-- the lines before the rest are in the first lanes, and the other lanes are 0
pub record AreLoaded (text rest words : List ℕ) (count : ℕ) : Type 0 where
  pub few : count ≤ 64
  pub read : text ≡ bit_lines (lanes count words) ++ rest
  pub zeros : (later : ℕ) → count ≤ later → lane later words ≡ replicate (length words) false

zero_lane : (place n : ℕ) → lane place (replicate n 0) ≡ replicate n false
zero_lane place zero = refl
zero_lane place (suc n) =
    let first : number_bit place 0 ≡ false = ap (λ n. nat_eq n 1) (bit_at-zero place) in
    let others = zero_lane place n in
    cc

pub loaded_none : (text words : List ℕ) (n : ℕ) → words ≡ replicate n 0 → AreLoaded text text words 0
loaded_none text words n none =
    let size : n ≡ length words = sym (ap length none ∙ length-replicate n 0) in
    record { few = omega arith; read = refl; zeros = λ later from. ap (lane later) none ∙ zero_lane later n ∙ ap (λ k. replicate k false) size }

-- the rest begins with a line
pub loaded_next : {text rest words : List ℕ} {count : ℕ} (wires : ℕ) → wires ≡ length words → AreLoaded text rest words count → (states : List (List Bool)) × AreLinesOf wires text states → rest ≢ [] →
    (bits : List Bool) × (behind : List ℕ) × (length bits ≡ length words) × (rest ≡ bit_line bits ++ behind)
loaded_next {rest} {words} {count} wires size loaded right some =
    let split = bit_lines-prefix wires right.0 (lanes count words) rest right.1.wide (HaveWires-lanes wires count words size) (sym right.1.spelled ∙ loaded.read) in
    first_line split.0 split.2 split.3
  where
    first_line : (left : List (List Bool)) → HaveWires wires left → rest ≡ bit_lines left → (bits : List Bool) × (behind : List ℕ) × (length bits ≡ length words) × (rest ≡ bit_line bits ++ behind)
    first_line [] wide is = absurd (some is)
    first_line (bits ∷ left) wide is = (bits, bit_lines left, wide.0 ∙ size, is)

-- loading one more lane does not change the other lanes
lanes_kept : (count : ℕ) (words new : List ℕ) → ((other : ℕ) → other ≢ count → lane other new ≡ lane other words) → lanes count new ≡ lanes count words
lanes_kept count words new others =
    same_over (λ place. lane place new) (λ place. lane place words) (λ bits. bits) 0 count (λ place below. others place (λ e. omega arith)) ∙ map-id (lanes count words)

pub loaded_more : {text rest words : List ℕ} {count : ℕ} (new behind : List ℕ) → AreLoaded text rest words count → count < 64 → length new ≡ length words → rest ≡ bit_line (lane count new) ++ behind
    → ((other : ℕ) → other ≢ count → lane other new ≡ lane other words) → AreLoaded text behind new (count + 1)
loaded_more {text} {rest} {words} {count} new behind loaded more size line others = record {
  few = omega arith;
  read =
      loaded.read
      ∙ ap (λ states. bit_lines states ++ rest) (sym (lanes_kept count words new others))
      ∙ ap (λ last. bit_lines (lanes count new) ++ last) line
      ∙ sym (append_assoc (bit_lines (lanes count new)) (bit_line (lane count new)) behind)
      ∙ ap (λ front. front ++ behind) (sym (bit_lines-lanes_more count new));
  zeros = λ later from. others later (λ e. omega arith) ∙ loaded.zeros later (omega arith) ∙ ap (λ n. replicate n false) (sym size);
}
