-- The lines of gates written from the last one to the first, each as the line of the inverse gate.
use Rattle.std.proofs.Common.{◌≡◌, ◌∙◌, ap, sym, subst, ℕ, ◌<◌, List, [], ◌∷◌, ◌++◌, length, take, drop, codes, Option, Result, Ok, Err, refl, arith, append_assoc, append-nil}
use Rattle.std.proofs.Math.Seq.{take-append_seam, drop-append_seam}
use Rattle.tw_io.specs.declared.device.WriteFault.{WriteFault}
use Rattle.tw_io.specs.Devices.{Wrote}
use Rattle.tw_io.proofs.Devices.{wrote_then, wrote_prefix}
use Rattle.tw_gate.specs.Gates.{PlainGate, inverse_gate, inverse}
use Rattle.tw_gate.proofs.Inverse.{inverse-append}
use Rattle.tw_gatetext.specs.Text.{line, lines}
use Rattle.tw_gatetext.specs.TakingLaws.{lines-append}
use Rattle.tw_gatetext.specs.Inverting.{EndsLine, HasNoNewline, HaveSmallNumbers, Put}
use Rattle.tw_gatetext.proofs.LineEnds.{front_of, line-front, no_newline-front, lines-end, no_lines}

-- the last gate of some, and the gates before it
record HasLast (gates : List PlainGate) : Type 0 where
  others : List PlainGate
  gate : PlainGate
  split : gates ≡ others ++ gate ∷ []

last_of : (first : PlainGate) (gates : List PlainGate) → HasLast (first ∷ gates)
last_of first [] = record { others = []; gate = first; split = refl }
last_of first (second ∷ gates) =
    let last = last_of second gates in
    record { others = first ∷ last.others; gate = last.gate; split = ap (λ (more : List PlainGate). first ∷ more) last.split }

last_of_some : (gates : List PlainGate) (text : List ℕ) → text ≡ lines gates → 0 < length text → HasLast gates
last_of_some [] text is some = absurd (omega (arith, ap length is))
last_of_some (first ∷ gates) text is some = last_of first gates

small_parts : (xs : List PlainGate) (x : PlainGate) → HaveSmallNumbers (xs ++ x ∷ []) → HaveSmallNumbers xs × HaveSmallNumbers (x ∷ [])
small_parts [] x small = (tt, small)
small_parts (y ∷ xs) x small = let parts = small_parts xs x small.1 in ((small.0, parts.0), parts.1)

-- where the last line of a text begins
abbrev pub BeginsLast : List ℕ → ℕ → Type 0
BeginsLast text place = (front line : List ℕ) → EndsLine front → HasNoNewline line → text ≡ front ++ (line ++ codes "\n") → place ≡ length front

-- the lines of gates, split before the last one
record IsSplit (gates : List PlainGate) (text : List ℕ) (place : ℕ) : Type 0 where
  others : List PlainGate
  gate : PlainGate
  split : gates ≡ others ++ gate ∷ []
  small : HaveSmallNumbers others
  before : take place text ≡ lines others
  last : drop place text ≡ line gate

split_last : (gates : List PlainGate) (text : List ℕ) (place : ℕ) → HaveSmallNumbers gates → text ≡ lines gates → 0 < length text → BeginsLast text place → IsSplit gates text place
split_last gates text place small is some begins =
    let found = last_of_some gates text is some in
    let parts = small_parts found.others found.gate (rw found.split at small) in
    let whole : text ≡ lines found.others ++ line found.gate =
    is ∙ ap lines found.split ∙ lines-append found.others (found.gate ∷ []) ∙ ap (λ (t : List ℕ). lines found.others ++ t) (append-nil (line found.gate)) in
    let at = begins (lines found.others) (front_of found.gate) (lines-end found.others) (no_newline-front found.gate parts.1.0)
    (whole ∙ ap (λ (t : List ℕ). lines found.others ++ t) (line-front found.gate)) in
    record {
      others = found.others;
      gate = found.gate;
      split = found.split;
      small = parts.0;
      before = ap (λ (n : ℕ). take n text) at ∙ ap (take (length (lines found.others))) whole ∙ take-append_seam (lines found.others) (line found.gate);
      last = ap (λ (n : ℕ). drop n text) at ∙ ap (drop (length (lines found.others))) whole ∙ drop-append_seam (lines found.others) (line found.gate);
    }

lines-last : (others : List PlainGate) (gate : PlainGate) → lines (inverse (others ++ gate ∷ [])) ≡ line (inverse_gate gate) ++ lines (inverse others)
lines-last others gate = ap lines (inverse-append others (gate ∷ []))

module _ {K : Type 0} (taken : K → Option (List ℕ)) (faults : K → ℕ) where
  -- The lines of these gates are being written from the last one to the first. This chunk is not yet written, and this text is left.
  pub record Reverses (start at : K) (gates : List PlainGate) (chunk left : List ℕ) : Type 0 where
    pub others : List PlainGate
    pub small : HaveSmallNumbers others
    pub is : left ≡ lines others
    pub later : (c : K) (r : Result (Unit {0}) WriteFault) → Wrote taken faults at c r (chunk ++ lines (inverse others)) → Wrote taken faults start c r (lines (inverse gates))

  pub reverses_start : (a : K) (gates : List PlainGate) (chunk left : List ℕ) → HaveSmallNumbers gates → left ≡ lines gates → chunk ≡ [] → Reverses a a gates chunk left
  reverses_start a gates chunk left small is none =
      record { others = gates; small = small; is = is; later = λ c r wrote. subst (λ (text : List ℕ). Wrote taken faults a c r (text ++ lines (inverse gates))) none wrote }

  joined : (before piece written now more : List ℕ) → before ++ piece ≡ written ++ now → before ++ (piece ++ more) ≡ written ++ (now ++ more)
  joined before piece written now more e = sym (append_assoc before piece more) ∙ ap (λ (t : List ℕ). t ++ more) e ∙ append_assoc written now more

  -- one more line is put
  pub reverses_more : (start a b : K) (gates : List PlainGate) (chunk now left front text : List ℕ) (place : ℕ) → Reverses start a gates chunk left → 0 < length left → BeginsLast left place
      → front ≡ take place left → text ≡ drop place left → ((gate : PlainGate) → text ≡ line gate → Put taken faults a b (Ok tt) chunk now (line (inverse_gate gate))) → Reverses start b gates now front
  reverses_more start a b gates chunk now left front text place so some begins first second put =
      let cut = split_last so.others left place so.small so.is some begins in
      let done = put cut.gate (second ∙ cut.last) in
      let written = done.whole.0 in
      record {
        others = cut.others;
        small = cut.small;
        is = first ∙ cut.before;
        later = λ c r wrote.
            so.later c r
            (subst (λ (t : List ℕ). Wrote taken faults a c r t)
            (sym (joined chunk (line (inverse_gate cut.gate)) written now (lines (inverse cut.others)) done.whole.2)
            ∙ ap (λ (t : List ℕ). chunk ++ t) (sym (lines-last cut.others cut.gate) ∙ ap (λ (gs : List PlainGate). lines (inverse gs)) (sym cut.split)))
            (wrote_then taken faults a b c r written (now ++ lines (inverse cut.others)) done.whole.1 wrote));
      }

  -- a line is not put
  pub reverses_broke : (start a b : K) (fault : WriteFault) (gates : List PlainGate) (chunk now left text : List ℕ) (place : ℕ) → Reverses start a gates chunk left → 0 < length left → BeginsLast left place
      → text ≡ drop place left → ((gate : PlainGate) → text ≡ line gate → Put taken faults a b (Err fault) chunk now (line (inverse_gate gate))) → Wrote taken faults start b (Err fault) (lines (inverse gates))
  reverses_broke start a b fault gates chunk now left text place so some begins second put =
      let cut = split_last so.others left place so.small so.is some begins in
      let done = put cut.gate (second ∙ cut.last) in
      so.later b (Err fault)
      (subst (λ (t : List ℕ). Wrote taken faults a b (Err fault) t)
      (append_assoc chunk (line (inverse_gate cut.gate)) (lines (inverse cut.others))
      ∙ ap (λ (t : List ℕ). chunk ++ t) (sym (lines-last cut.others cut.gate) ∙ ap (λ (gs : List PlainGate). lines (inverse gs)) (sym cut.split)))
      (wrote_prefix taken faults a b fault (chunk ++ line (inverse_gate cut.gate)) (lines (inverse cut.others)) done.broken))

  -- no line is left, and the chunk is written
  pub reverses_end : (start a b : K) (r : Result (Unit {0}) WriteFault) (gates : List PlainGate) (chunk left : List ℕ) → Reverses start a gates chunk left → length left ≡ 0 → Wrote taken faults a b r chunk
      → Wrote taken faults start b r (lines (inverse gates))
  reverses_end start a b r gates chunk left so none wrote =
      so.later b r
      (subst (λ (t : List ℕ). Wrote taken faults a b r t) (sym (append-nil chunk) ∙ ap (λ (gs : List PlainGate). chunk ++ lines (inverse gs)) (sym (no_lines so.others (sym (ap length so.is) ∙ none)))) wrote)
