-- Right lines answered block by block.
use Rattle.std.proofs.Common.{◌≡◌, ◌∙◌, ap, sym, ℕ, Bool, List, [], ◌++◌, length, map, append_assoc, append-nil, length-append, arith}
use Rattle.std.proofs.lemmas.List.{map-append}
use Rattle.tw_gate.specs.Gates.{PlainGate, act}
use Rattle.tw_sim.specs.BitLines.{bit_lines, HaveWires, AreLinesOf}
use Rattle.tw_sim.proofs.Laws.{bit_lines-prefix, bit_lines-injective}
use Rattle.tw_sim.proofs.Reading.{bit_lines-append, HaveWires-append}

-- the lines before the rest are answered
pub record AreAnswered (wires : ℕ) (gates : List PlainGate) (text rest answer : List ℕ) : Type 0 where
  pub states : List (List Bool)
  pub wide : HaveWires wires states
  pub spelled : text ≡ bit_lines states ++ rest
  pub answered : answer ≡ bit_lines (map (act gates) states)

-- right lines follow them
pub right_left : {wires : ℕ} {gates : List PlainGate} {text rest answer : List ℕ} → AreAnswered wires gates text rest answer → (states : List (List Bool)) × AreLinesOf wires text states → (left : List (List Bool)) × AreLinesOf wires rest left
right_left {wires} {rest} begun right =
    let split = bit_lines-prefix wires right.0 begun.states rest right.1.wide begun.wide (sym right.1.spelled ∙ begun.spelled) in (
      split.0,
      record { spelled = split.3; wide = split.2; few = omega (arith, right.1.few, ap length split.1, length-append begun.states split.0) },
    )

-- the next lines are answered too
pub answered_more : {wires : ℕ} {gates : List PlainGate} {text rest answer : List ℕ} (behind now : List ℕ) → AreAnswered wires gates text rest answer →
    (next : List (List Bool)) × HaveWires wires next × (rest ≡ bit_lines next ++ behind) × (now ≡ answer ++ bit_lines (map (act gates) next)) → AreAnswered wires gates text behind now
answered_more {wires} {gates} {rest} behind now begun next = record {
  states = begun.states ++ next.0;
  wide = HaveWires-append wires begun.states next.0 begun.wide next.1;
  spelled =
      begun.spelled
      ∙ ap (λ rest. bit_lines begun.states ++ rest) next.2
      ∙ sym (append_assoc (bit_lines begun.states) (bit_lines next.0) behind)
      ∙ ap (λ front. front ++ behind) (sym (bit_lines-append begun.states next.0));
  answered =
      next.3
      ∙ ap (λ front. front ++ bit_lines (map (act gates) next.0)) begun.answered
      ∙ sym (bit_lines-append (map (act gates) begun.states) (map (act gates) next.0))
      ∙ ap bit_lines (sym (map-append (act gates) begun.states next.0));
}

-- all lines are answered
pub answered_all : {wires : ℕ} {gates : List PlainGate} {text rest answer : List ℕ} → AreAnswered wires gates text rest answer → (states : List (List Bool)) × AreLinesOf wires text states → rest ≡ [] →
    (states : List (List Bool)) × AreLinesOf wires text states × (answer ≡ bit_lines (map (act gates) states))
answered_all {wires} {text} begun right none =
    let spelled : text ≡ bit_lines begun.states = begun.spelled ∙ ap (λ rest. bit_lines begun.states ++ rest) none ∙ append-nil (bit_lines begun.states) in
    let same = bit_lines-injective wires begun.states right.0 begun.wide right.1.wide (sym spelled ∙ right.1.spelled) in
    (begun.states, record { spelled = spelled; wide = begun.wide; few = omega (arith, right.1.few, ap length same) }, begun.answered)
