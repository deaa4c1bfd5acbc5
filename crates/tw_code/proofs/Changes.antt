-- Laws of changed bits, of placed bits and of read ones.
use Rattle.std.proofs.Common.{◌≡◌, ◌≢◌, ◌∙◌, ap, sym, refl, ℕ, zero, suc, ◌+◌, ◌==◌, Bool, true, false, List, [], ◌∷◌, ◌++◌, length, replicate, arith}
use Rattle.std.proofs.lemmas.Bool.{eq-eqb, ne_eqb, and_right}
use Rattle.tw_code.specs.Functions.{xor, Bits, zeros, changed, one_at, placed, read, xors, IsIn, AreZero}

xor_assoc : (a b c : Bool) → xor (xor a b) c ≡ xor a (xor b c)
xor_assoc true true true = refl
xor_assoc true true false = refl
xor_assoc true false c = refl
xor_assoc false b c = refl

xor_comm : (a b : Bool) → xor a b ≡ xor b a
xor_comm true true = refl
xor_comm true false = refl
xor_comm false true = refl
xor_comm false false = refl

xor_self : (a : Bool) → xor a a ≡ false
xor_self true = refl
xor_self false = refl

pub xor_false : (a : Bool) → xor a false ≡ a
xor_false true = refl
xor_false false = refl

pub changed_assoc : (a b c : Bits) → changed (changed a b) c ≡ changed a (changed b c)
changed_assoc a b c = λ i wire. xor_assoc (a wire) (b wire) (c wire) i

pub changed_comm : (a b : Bits) → changed a b ≡ changed b a
changed_comm a b = λ i wire. xor_comm (a wire) (b wire) i

pub changed_self : (a : Bits) → changed a a ≡ zeros
changed_self a = λ i wire. xor_self (a wire) i

pub changed_zeros : (a : Bits) → changed a zeros ≡ a
changed_zeros a = λ i wire. xor_false (a wire) i

-- a change made twice is undone
pub changed_twice : (a b : Bits) → changed (changed a b) b ≡ a
changed_twice a b = changed_assoc a b b ∙ ap (changed a) (changed_self b) ∙ changed_zeros a

-- the order of changes does not matter
pub changed_swap : (a b c : Bits) → changed (changed a b) c ≡ changed (changed a c) b
changed_swap a b c = changed_assoc a b c ∙ ap (changed a) (changed_comm b c) ∙ sym (changed_assoc a c b)

-- a change does not reach a wire that it spares
pub changed_spared : (a b : Bits) (wire : ℕ) → b wire ≡ false → changed a b wire ≡ a wire
changed_spared a b wire spared = ap (xor (a wire)) spared ∙ xor_false (a wire)

pub one_at-elsewhere : (at : ℕ) (bit : Bool) (wire : ℕ) → wire ≢ at → one_at at bit wire ≡ false
one_at-elsewhere at bit wire other = and_right bit (wire == at) (ne_eqb wire at other)

pub one_at-there : (at : ℕ) (bit : Bool) → one_at at bit at ≡ bit
one_at-there at true = eq-eqb at at refl
one_at-there at false = refl

-- two changes of one wire are one
pub one_at-both : (at : ℕ) (a b : Bool) → changed (one_at at a) (one_at at b) ≡ one_at at (xor a b)
one_at-both at true true = changed_self (one_at at true)
one_at-both at true false = changed_zeros (one_at at true)
one_at-both at false b = refl

pub placed_elsewhere : (at : ℕ) (bits : List Bool) (wire : ℕ) → (IsIn at (length bits) wire → ⊥) → placed at bits wire ≡ false
placed_elsewhere at [] wire outside = refl
placed_elsewhere at (bit ∷ bits) wire outside =
    let other : wire ≢ at = λ same. outside (record { from_start = omega (arith, same); before_end = omega (arith, same) }) in
    ap (λ k. xor k (placed (suc at) bits wire)) (one_at-elsewhere at bit wire other)
    ∙ placed_elsewhere (suc at) bits wire (λ inside. outside (record { from_start = omega (arith, inside.from_start); before_end = omega (arith, inside.before_end) }))

pub placed_first : (at : ℕ) (bit : Bool) (bits : List Bool) → placed at (bit ∷ bits) at ≡ bit
placed_first at bit bits =
    changed_spared (one_at at bit) (placed (suc at) bits) at (placed_elsewhere (suc at) bits at (λ inside. omega (arith, inside.from_start)))
    ∙ one_at-there at bit

pub placed_append : (at : ℕ) (xs ys : List Bool) → placed at (xs ++ ys) ≡ changed (placed at xs) (placed (at + length xs) ys)
placed_append at [] ys = let e : at ≡ at + 0 = omega arith in ap (λ from. placed from ys) e
placed_append at (bit ∷ xs) ys =
    let e : suc at + length xs ≡ at + length (bit ∷ xs) = omega arith in
    ap (changed (one_at at bit)) (placed_append (suc at) xs ys ∙ ap (λ from. changed (placed (suc at) xs) (placed from ys)) e)
    ∙ sym (changed_assoc (one_at at bit) (placed (suc at) xs) (placed (at + length (bit ∷ xs)) ys))

pub placed_zeros : (at count : ℕ) → placed at (replicate count false) ≡ zeros
placed_zeros at zero = refl
placed_zeros at (suc count) = placed_zeros (suc at) count

pub placed_xors : (at : ℕ) (xs ys : List Bool) → length xs ≡ length ys → placed at (xors xs ys) ≡ changed (placed at xs) (placed at ys)
placed_xors at [] [] same = refl
placed_xors at [] (y ∷ ys) same = absurd (omega (arith, same))
placed_xors at (x ∷ xs) [] same = absurd (omega (arith, same))
placed_xors at (x ∷ xs) (y ∷ ys) same =
    let first : Bits = placed (suc at) xs in
    let second : Bits = placed (suc at) ys in
    ap (changed (one_at at (xor x y))) (placed_xors (suc at) xs ys (omega (arith, same)))
    ∙ ap (λ (one : Bits). changed one (changed first second)) (sym (one_at-both at x y))
    ∙ sym (changed_assoc (changed (one_at at x) (one_at at y)) first second)
    ∙ ap (λ (some : Bits). changed some second) (changed_swap (one_at at x) (one_at at y) first)
    ∙ changed_assoc (changed (one_at at x) first) (one_at at y) second

pub length-read : (at count : ℕ) (bits : Bits) → length (read at count bits) ≡ count
length-read at zero bits = refl
length-read at (suc count) bits = ap suc (length-read (suc at) count bits)

-- equal bits in a region read the same
pub read_same : (at count : ℕ) (a b : Bits) → ((wire : ℕ) → IsIn at count wire → a wire ≡ b wire) → read at count a ≡ read at count b
read_same at zero a b same = refl
read_same at (suc count) a b same =
    let one : a at ≡ b at = same at (record { from_start = omega arith; before_end = omega arith }) in
    let others = read_same (suc at) count a b (λ wire inside. same wire (record { from_start = omega (arith, inside.from_start); before_end = omega (arith, inside.before_end) })) in
    λ i. one i ∷ others i

-- a change that spares a region is not read there
pub read_changed : (at count : ℕ) (bits by : Bits) → AreZero (IsIn at count) by → read at count (changed bits by) ≡ read at count bits
read_changed at count bits by spared = read_same at count (changed bits by) bits (λ wire inside. changed_spared bits by wire (spared wire inside))

pub read_placed : (at : ℕ) (bits : List Bool) → read at (length bits) (placed at bits) ≡ bits
read_placed at [] = refl
read_placed at (bit ∷ bits) =
    let first = placed_first at bit bits in
    let spared : AreZero (IsIn (suc at) (length bits)) (one_at at bit) = λ wire inside. one_at-elsewhere at bit wire (λ same. omega (arith, same, inside.from_start)) in
    let others =
    ap (read (suc at) (length bits)) (changed_comm (one_at at bit) (placed (suc at) bits))
    ∙ read_changed (suc at) (length bits) (placed (suc at) bits) (one_at at bit) spared
    ∙ read_placed (suc at) bits in
    λ i. first i ∷ others i

pub read_xors : (at count : ℕ) (a b : Bits) → read at count (changed a b) ≡ xors (read at count a) (read at count b)
read_xors at zero a b = refl
read_xors at (suc count) a b = ap (λ rest. xor (a at) (b at) ∷ rest) (read_xors (suc at) count a b)
