-- What the code of an `if` does to the bits of all wires.
use Rattle.std.proofs.Common.{◌≡◌, ◌≢◌, ◌∙◌, ap, sym, refl, ℕ, Bool, true, false, cond, ◌&&◌, [], ◌∷◌}
use Rattle.tw_code.specs.Trees.{CodeTree, FlipCode, IfCode, ConjCode, sequence}
use Rattle.tw_code.specs.Wires.{EachWire, IsUnused}
use Rattle.tw_code.specs.Functions.{xor, Bits, changed, one_at, mean_wires}
use Rattle.tw_code.proofs.Changes.{xor_false, changed_assoc, one_at-elsewhere, one_at-there, one_at-both}
use Rattle.tw_code.proofs.Wires.{each_weaker}
use Rattle.tw_code.proofs.WireMeaning.{framed, mean_other, sandwich}
use Rattle.tw_lower.specs.Lowering.{if_tree, if_else_tree}

-- a bit on a wire that the code does not use spares it
spares : (wire : ℕ) (bit : Bool) (code : CodeTree) → IsUnused wire code → EachWire (λ used. one_at wire bit used ≡ false) code
spares wire bit code unused =
    each_weaker (λ used. wire ≢ used) (λ used. one_at wire bit used ≡ false) (λ used other. one_at-elsewhere wire bit used (λ same. other (sym same))) code unused

-- the body under a wire that has this bit and was zero
under : (wire : ℕ) (body : CodeTree) (bits : Bits) (is : Bool) → bits wire ≡ false → IsUnused wire body
    → mean_wires (IfCode wire body) false (changed bits (one_at wire is)) ≡ changed (cond is (mean_wires body false bits) bits) (one_at wire is)
under wire body bits true empty unused =
    let lit : Bits = changed bits (one_at wire true) in
    ap (λ k. cond k (mean_wires body false lit) lit) (ap (λ k. xor k (one_at wire true wire)) empty ∙ one_at-there wire true)
    ∙ framed body false bits (one_at wire true) (spares wire true body unused)
under wire body bits false empty unused =
    let same : Bits = changed bits (one_at wire false) in
    ap (λ k. cond k (mean_wires body false same) same) (xor_false (bits wire) ∙ empty)

-- the same with the wire flipped for the time of the body
under_not : (wire : ℕ) (body : CodeTree) (bits : Bits) (is : Bool) → bits wire ≡ false → IsUnused wire body
    → mean_wires (ConjCode (FlipCode [] wire) (IfCode wire body)) false (changed bits (one_at wire is)) ≡ changed (cond is bits (mean_wires body false bits)) (one_at wire is)
under_not wire body bits is empty unused =
    sandwich (FlipCode [] wire) (IfCode wire body) false (changed bits (one_at wire is)) (changed (cond is bits (mean_wires body false bits)) (one_at wire is)) (one_at wire true)
    (tt, tt) refl refl
    (ap (mean_wires (IfCode wire body) false) (flip_bit bits is) ∙ under wire body bits (xor is true) empty unused ∙ ap (λ (b : Bits). changed b (one_at wire (xor is true))) (exchange is) ∙ sym (flip_bit (cond is bits (mean_wires body false bits)) is))
  where
    flip_bit : (b : Bits) (k : Bool) → changed (changed b (one_at wire k)) (one_at wire true) ≡ changed b (one_at wire (xor k true))
    flip_bit b k = changed_assoc b (one_at wire k) (one_at wire true) ∙ ap (changed b) (one_at-both wire k true)

    exchange : (k : Bool) → cond (xor k true) (mean_wires body false bits) bits ≡ cond k bits (mean_wires body false bits)
    exchange true = refl
    exchange false = refl

-- the condition is copied to the wire of the `if`
copied : (from wire : ℕ) (bits : Bits) (is : Bool) → bits from ≡ is → mean_wires (FlipCode (from ∷ []) wire) false bits ≡ changed bits (one_at wire is)
copied from wire bits is holds = ap (λ k. changed bits (one_at wire k)) (ap (λ k. k && true) holds ∙ whole is)
  where
    whole : (k : Bool) → (k && true) ≡ k
    whole true = refl
    whole false = refl

-- the condition has the same bit before and after; it is on another wire than that of the `if`, which is zero and used in no branch
pub record IsCondition (from wire : ℕ) (start end : Bits) (is : Bool) : Type 0 where
  pub before : start from ≡ is
  pub after : end from ≡ is
  pub other : wire ≢ from
  pub empty : start wire ≡ false

-- an `if` without `else`
pub if_does : (from wire : ℕ) (body : CodeTree) (start end : Bits) (is : Bool) → IsCondition from wire start end is → IsUnused wire body
    → cond is (mean_wires body false start) start ≡ end → mean_wires (if_tree from wire body) false start ≡ end
if_does from wire body start end is at unused does =
    sandwich (FlipCode (from ∷ []) wire) (sequence (IfCode wire body ∷ [])) false start end (one_at wire is) ((at.other, tt), (tt, tt))
    (copied from wire start is at.before) (copied from wire end is at.after)
    (under wire body start is at.empty unused ∙ ap (λ (b : Bits). changed b (one_at wire is)) does)

-- an `if` with `else`
pub if_else_does : (from wire : ℕ) (first other : CodeTree) (start end : Bits) (is : Bool) → IsCondition from wire start end is → IsUnused wire first → IsUnused wire other
    → cond is (mean_wires first false start) (mean_wires other false start) ≡ end → mean_wires (if_else_tree from wire first other) false start ≡ end
if_else_does from wire first other start end is at unused unused_other does =
    sandwich (FlipCode (from ∷ []) wire) (sequence (IfCode wire first ∷ ConjCode (FlipCode [] wire) (IfCode wire other) ∷ [])) false start end (one_at wire is) ((at.other, tt), (tt, tt))
    (copied from wire start is at.before) (copied from wire end is at.after)
    (ap (mean_wires (ConjCode (FlipCode [] wire) (IfCode wire other)) false) (under wire first start is at.empty unused)
    ∙ under_not wire other (cond is (mean_wires first false start) start) is (still_empty is) unused_other
    ∙ ap (λ (b : Bits). changed b (one_at wire is)) (one_side is ∙ does))
  where
    still_empty : (k : Bool) → cond k (mean_wires first false start) start wire ≡ false
    still_empty true = mean_other wire first false start unused ∙ at.empty
    still_empty false = at.empty

    one_side : (k : Bool) → cond k (cond k (mean_wires first false start) start) (mean_wires other false (cond k (mean_wires first false start) start)) ≡ cond k (mean_wires first false start) (mean_wires other false start)
    one_side true = refl
    one_side false = refl
