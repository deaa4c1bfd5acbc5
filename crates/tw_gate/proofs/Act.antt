-- What gates do to bits.
use Rattle.std.proofs.Common.{◌≡◌, ◌∙◌, ℕ, Bool, true, false, cond, List, [], ◌∷◌, ◌++◌, length, refl}
use Rattle.tw_bits.specs.Lists.{flipped}
use Rattle.tw_bits.proofs.Laws.{length-flipped, bit_at-flipped}
use Rattle.tw_gate.specs.Gates.{PlainGate, X, H, T, Tdg, all_one, act_gate, act, IsNotAmong}

pub act-append : (xs ys : List PlainGate) (bits : List Bool) → act (xs ++ ys) bits ≡ act ys (act xs bits)
act-append [] ys bits = refl
act-append (gate ∷ xs) ys bits = act-append xs ys (act_gate gate bits)

pub length-act_gate : (gate : PlainGate) (bits : List Bool) → length (act_gate gate bits) ≡ length bits
length-act_gate (X controls target) bits =
    elim (all_one controls bits) as (λ k. length (cond k (flipped bits target) bits) ≡ length bits) [ true ↦ length-flipped bits target | false ↦ refl ]
length-act_gate (H wire) bits = refl
length-act_gate (T wire) bits = refl
length-act_gate (Tdg wire) bits = refl

pub length-act : (gates : List PlainGate) (bits : List Bool) → length (act gates bits) ≡ length bits
length-act [] bits = refl
length-act (gate ∷ gates) bits = length-act gates (act_gate gate bits) ∙ length-act_gate gate bits

pub all_one-flipped : (controls : List ℕ) (bits : List Bool) (target : ℕ) → IsNotAmong target controls → all_one controls (flipped bits target) ≡ all_one controls bits
all_one-flipped [] bits target none = refl
all_one-flipped (wire ∷ controls) bits target none =
    let one = bit_at-flipped bits target wire none.0 in
    let others = all_one-flipped controls bits target none.1 in
    cc
