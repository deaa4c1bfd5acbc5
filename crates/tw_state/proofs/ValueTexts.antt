-- The text of a value ends where a byte that is no digit follows it, so a text determines the value of its type.
use Rattle.std.proofs.Common.{◌≡◌, ◌∙◌, refl, sym, ap, ℕ, ◌^◌, ◌<◌, ◌≤◌, Bool, true, false, List, ◌∷◌, ◌++◌, codes, arith, append_assoc, nat_eq, get_or, drop}
use Rattle.std.proofs.lemmas.List.{append_cancel_left}
use Rattle.std.proofs.Math.Pow.{pow_mono}
use Rattle.std.proofs.lemmas.Bool.Decides.{Decides-eqb}
use Rattle.std.specs.Char.{is_ascii_digit}
use Rattle.tw_text.proofs.Decimals.{decimal-delimited}
use Rattle.tw_types.specs.Types.{Widths, AreInRange, Ty, UnitTy, Word, Boolean, Pointer, PairTy, block_count}
use Rattle.tw_types.specs.Values.{Value, UnitValue, Number, Truth, Address, PairValue, HasType}
use Rattle.tw_types.proofs.Encoding.{address_below}
use Rattle.tw_state.specs.StateText.{value_text}
use Rattle.tw_state.proofs.Basics.{contradiction}

-- texts with other first bytes are not equal
pub other_first : {P : Type 0} {c d : ℕ} {xs ys : List ℕ} → nat_eq c d ≡ false → c ∷ xs ≡ d ∷ ys → P
other_first {P} {c} {d} differ same =
    let is : c ≡ d = ap (λ t. get_or t 0 0) same in
    contradiction ((Decides-eqb c d).1 is) differ

-- and equal texts have equal rests
pub same_rest : {c d : ℕ} {xs ys : List ℕ} → c ∷ xs ≡ d ∷ ys → xs ≡ ys
same_rest same = ap (drop 1) same

pair_text : (x y rest : List ℕ) → (codes "(" ++ (x ++ (codes ", " ++ (y ++ codes ")")))) ++ rest ≡ codes "(" ++ (x ++ (codes ", " ++ (y ++ (codes ")" ++ rest))))
pair_text x y rest = simp append_assoc

-- numbers of words and addresses are below 2^64
word_small : (widths : Widths) → AreInRange widths → (n : ℕ) → n < 2 ^ widths.word → n < 2 ^ 64
word_small widths range n below =
    let most = pow_mono {i = widths.word} {j = 64} (omega (arith, range.word_to)) in omega (arith, below, most)

pub address_small : (widths : Widths) → AreInRange widths → (block : ℕ) → block ≤ block_count widths → block < 2 ^ 64
address_small widths range block within =
    let below = address_below widths block within in
    let most = pow_mono {i = widths.addr} {j = 64} (omega (arith, range.addr_to)) in omega (arith, below, most)

truths-delimited : (is other : Bool) (xs ys : List ℕ) → value_text (Truth is) ++ xs ≡ value_text (Truth other) ++ ys → (Truth is ≡ Truth other) × (xs ≡ ys)
truths-delimited true true xs ys same = (refl, append_cancel_left (codes "true") xs ys same)
truths-delimited false false xs ys same = (refl, append_cancel_left (codes "false") xs ys same)
truths-delimited true false xs ys same = other_first refl same
truths-delimited false true xs ys same = other_first refl same

-- two values of one type before bytes that are no digits are equal if the texts are
pub values-delimited : (widths : Widths) → AreInRange widths → (ty : Ty) (x y : Value) (c d : ℕ) (xs ys : List ℕ) → HasType widths x ty → HasType widths y ty → is_ascii_digit c ≡ false → is_ascii_digit d ≡ false
    → value_text x ++ c ∷ xs ≡ value_text y ++ d ∷ ys → (x ≡ y) × (c ∷ xs ≡ d ∷ ys)
values-delimited widths range UnitTy UnitValue UnitValue c d xs ys typed also edge edge2 same = (refl, append_cancel_left (codes "()") (c ∷ xs) (d ∷ ys) same)
values-delimited widths range Word (Number m) (Number n) c d xs ys typed also edge edge2 same =
    let both = decimal-delimited m n c d xs ys (word_small widths range m typed) (word_small widths range n also) edge edge2 same in
    (ap Number both.0, both.1)
values-delimited widths range Boolean (Truth is) (Truth other) c d xs ys typed also edge edge2 same = truths-delimited is other (c ∷ xs) (d ∷ ys) same
values-delimited widths range (Pointer target) (Address m) (Address n) c d xs ys typed also edge edge2 same =
    let both = decimal-delimited m n c d xs ys (address_small widths range m typed) (address_small widths range n also) edge edge2 (append_cancel_left (codes "@") _ _ same) in
    (ap Address both.0, both.1)
values-delimited widths range (PairTy first second) (PairValue a b) (PairValue e f) c d xs ys typed also edge edge2 same =
    let nested = sym (pair_text (value_text a) (value_text b) (c ∷ xs)) ∙ same ∙ pair_text (value_text e) (value_text f) (d ∷ ys) in
    let left = values-delimited widths range first a e _ _ _ _ typed.0 also.0 refl refl (append_cancel_left (codes "(") _ _ nested) in
    let right = values-delimited widths range second b f _ _ _ _ typed.1 also.1 refl refl (append_cancel_left (codes ", ") _ _ left.1) in
    (ap (λ v. PairValue v b) left.0 ∙ ap (PairValue e) right.0, same_rest right.1)
values-delimited widths range UnitTy UnitValue y c d xs ys typed also edge edge2 same = absurd also
values-delimited widths range Word (Number m) y c d xs ys typed also edge edge2 same = absurd also
values-delimited widths range Boolean (Truth is) y c d xs ys typed also edge edge2 same = absurd also
values-delimited widths range (Pointer target) (Address m) y c d xs ys typed also edge edge2 same = absurd also
values-delimited widths range (PairTy first second) (PairValue a b) y c d xs ys typed also edge edge2 same = absurd also
values-delimited widths range ty x y c d xs ys typed also edge edge2 same = absurd typed
