-- The inverse of a list of gates.
use Rattle.std.proofs.Common.{◌≡◌, ◌∙◌, ap, sym, ℕ, ◌+◌, Bool, true, false, cond, List, [], ◌∷◌, ◌++◌, length, refl, append_assoc, arith, length-append}
use mathlib.Core.List.{append-nil}
use Rattle.std.specs.List.{AllByRecursion}
use Rattle.tw_bits.specs.Lists.{flipped}
use Rattle.tw_bits.proofs.Laws.{flipped-flipped}
use Rattle.tw_gate.specs.Gates.{PlainGate, X, H, T, Tdg, all_one, act_gate, act, inverse_gate, inverse, SparesControls, IsClassical, IsPermutation}
use Rattle.tw_gate.specs.Weight.{gate_weight, t_count}
use Rattle.tw_gate.proofs.Act.{act-append, length-act, all_one-flipped}

undoes : (controls : List ℕ) (target : ℕ) (bits : List Bool) (k : Bool) → all_one controls bits ≡ k → all_one controls (flipped bits target) ≡ k → act_gate (X controls target) (cond k (flipped bits target) bits) ≡ bits
undoes controls target bits true before after = rw after (flipped-flipped bits target)
undoes controls target bits false before after = rw before refl

pub act_gate-inverse : (gate : PlainGate) (bits : List Bool) → SparesControls gate → act_gate (inverse_gate gate) (act_gate gate bits) ≡ bits
act_gate-inverse (X controls target) bits spares = undoes controls target bits (all_one controls bits) refl (all_one-flipped controls bits target spares)
act_gate-inverse (H wire) bits spares = refl
act_gate-inverse (T wire) bits spares = refl
act_gate-inverse (Tdg wire) bits spares = refl

pub act-inverse : (gates : List PlainGate) (bits : List Bool) → AllByRecursion SparesControls gates → act (inverse gates) (act gates bits) ≡ bits
act-inverse [] bits spare = refl
act-inverse (gate ∷ gates) bits spare =
    act-append (inverse gates) (inverse_gate gate ∷ []) (act gates (act_gate gate bits))
    ∙ ap (act_gate (inverse_gate gate)) (act-inverse gates (act_gate gate bits) spare.1)
    ∙ act_gate-inverse gate bits spare.0

pub inverse-append : (xs ys : List PlainGate) → inverse (xs ++ ys) ≡ inverse ys ++ inverse xs
inverse-append [] ys = sym (append-nil (inverse ys))
inverse-append (gate ∷ xs) ys = rw (inverse-append xs ys, append_assoc)

pub length-inverse : (gates : List PlainGate) → length (inverse gates) ≡ length gates
length-inverse [] = refl
length-inverse (gate ∷ gates) = omega (arith, length-append (inverse gates) (inverse_gate gate ∷ []), length-inverse gates)

pub t_count-append : (xs ys : List PlainGate) → t_count (xs ++ ys) ≡ t_count xs + t_count ys
t_count-append [] ys = omega arith
t_count-append (gate ∷ xs) ys = omega (arith, t_count-append xs ys)

pub gate_weight-inverse : (gate : PlainGate) → gate_weight (inverse_gate gate) ≡ gate_weight gate
gate_weight-inverse (X controls target) = refl
gate_weight-inverse (H wire) = refl
gate_weight-inverse (T wire) = refl
gate_weight-inverse (Tdg wire) = refl

pub t_count-inverse : (gates : List PlainGate) → t_count (inverse gates) ≡ t_count gates
t_count-inverse [] = refl
t_count-inverse (gate ∷ gates) = omega (arith, t_count-append (inverse gates) (inverse_gate gate ∷ []), t_count-inverse gates, gate_weight-inverse gate)

inverse_gate-twice : (gate : PlainGate) → inverse_gate (inverse_gate gate) ≡ gate
inverse_gate-twice (X controls target) = refl
inverse_gate-twice (H wire) = refl
inverse_gate-twice (T wire) = refl
inverse_gate-twice (Tdg wire) = refl

pub inverse-twice : (gates : List PlainGate) → inverse (inverse gates) ≡ gates
inverse-twice [] = refl
inverse-twice (gate ∷ gates) = inverse-append (inverse gates) (inverse_gate gate ∷ []) ∙ rw (inverse_gate-twice gate, inverse-twice gates) refl

all_push : (P : PlainGate → Type 0) (gates : List PlainGate) (gate : PlainGate) → AllByRecursion P gates → P gate → AllByRecursion P (gates ++ gate ∷ [])
all_push P [] gate all last = (last, tt)
all_push P (first ∷ gates) gate all last = (all.0, all_push P gates gate all.1 last)

-- a property of the gates that each gate shares with its inverse is a property of the inverse gates
pub all_inverse : (P : PlainGate → Type 0) → ((gate : PlainGate) → P gate → P (inverse_gate gate)) → (gates : List PlainGate) → AllByRecursion P gates → AllByRecursion P (inverse gates)
all_inverse P kept [] all = tt
all_inverse P kept (gate ∷ gates) all = all_push P (inverse gates) (inverse_gate gate) (all_inverse P kept gates all.1) (kept gate all.0)

spares-inverse_gate : (gate : PlainGate) → SparesControls gate → SparesControls (inverse_gate gate)
spares-inverse_gate (X controls target) spares = spares
spares-inverse_gate (H wire) spares = tt
spares-inverse_gate (T wire) spares = tt
spares-inverse_gate (Tdg wire) spares = tt

-- the gates undo the inverse gates
pub act-uninverse : (gates : List PlainGate) (bits : List Bool) → AllByRecursion SparesControls gates → act gates (act (inverse gates) bits) ≡ bits
act-uninverse gates bits spare =
    ap (λ (twice : List PlainGate). act twice (act (inverse gates) bits)) (sym (inverse-twice gates))
    ∙ act-inverse (inverse gates) bits (all_inverse SparesControls spares-inverse_gate gates spare)

pub inverse_undoes : (gates inverted : List PlainGate) → inverted ≡ inverse gates → AllByRecursion SparesControls gates → (bits : List Bool) → act inverted (act gates bits) ≡ bits
inverse_undoes gates inverted is spare bits = rw is (act-inverse gates bits spare)

pub undoes_inverse : (gates inverted : List PlainGate) → inverted ≡ inverse gates → AllByRecursion SparesControls gates → (bits : List Bool) → act gates (act inverted bits) ≡ bits
undoes_inverse gates inverted is spare bits = rw is (act-uninverse gates bits spare)

-- X gates whose targets are not among their controls permute the lists of bits
pub permutes : (wires : ℕ) (gates : List PlainGate) → AllByRecursion IsClassical gates → AllByRecursion SparesControls gates → IsPermutation wires gates
permutes wires gates classical spare = record {
  classical = classical;
  wide = λ bits wide. length-act gates bits ∙ wide;
  undone = λ bits. act-inverse gates bits spare;
  undoes = λ bits. act-uninverse gates bits spare;
}
