-- The bits of a list as bits of all wires: what a code does to both is the same if all its wires have a bit in the list.
use Rattle.std.proofs.Common.{◌≡◌, ◌∙◌, ap, sym, refl, ℕ, zero, suc, ◌+◌, ◌<◌, Bool, true, false, not, cond, ◌&&◌, List, [], ◌∷◌, length, arith}
use Rattle.std.specs.List.{AllByRecursion}
use Rattle.tw_bits.specs.Lists.{bit_at, flipped}
use Rattle.tw_gate.specs.Gates.{all_one}
use Rattle.tw_code.specs.Trees.{CodeTree, Nothing, Then, FlipCode, IfCode, WithCode, ConjCode}
use Rattle.tw_code.specs.Meaning.{mean}
use Rattle.tw_code.specs.Wires.{UsesWiresBelow}
use Rattle.tw_code.specs.Functions.{xor, Bits, changed, one_at, read, IsIn, AreZero, all_on, mean_wires}
use Rattle.tw_code.proofs.Changes.{changed_zeros, changed_spared, one_at-elsewhere, one_at-there, read_changed}

xor_true : (a : Bool) → xor a true ≡ not a
xor_true true = refl
xor_true false = refl

pub bit_at-read : (at count : ℕ) (bits : Bits) (i : ℕ) → i < count → bit_at (read at count bits) i ≡ bits (at + i)
bit_at-read at zero bits i inside = absurd (omega (arith, inside))
bit_at-read at (suc count) bits zero inside = let e : at ≡ at + 0 = omega arith in ap bits e
bit_at-read at (suc count) bits (suc i) inside =
    let e : suc at + i ≡ at + suc i = omega arith in
    bit_at-read (suc at) count bits i (omega (arith, inside)) ∙ ap bits e

flipped-read : (at count : ℕ) (bits : Bits) (i : ℕ) → i < count → flipped (read at count bits) i ≡ read at count (changed bits (one_at (at + i) true))
flipped-read at zero bits i inside = absurd (omega (arith, inside))
flipped-read at (suc count) bits zero inside =
    let e : at ≡ at + 0 = omega arith in
    let by : Bits = one_at at true in
    let spared : AreZero (IsIn (suc at) count) by = λ wire inside. one_at-elsewhere at true wire (λ same. omega (arith, same, inside.from_start)) in
    let first : not (bits at) ≡ changed bits by at = sym (ap (xor (bits at)) (one_at-there at true) ∙ xor_true (bits at)) in
    let others = sym (read_changed (suc at) count bits by spared) in
    (λ j. first j ∷ others j) ∙ ap (λ wire. read at (suc count) (changed bits (one_at wire true))) e
flipped-read at (suc count) bits (suc i) inside =
    let e : suc at + i ≡ at + suc i = omega arith in
    let by : Bits = one_at (at + suc i) true in
    let first : bits at ≡ changed bits by at = sym (changed_spared bits by at (one_at-elsewhere (at + suc i) true at (λ same. omega (arith, same)))) in
    let others = flipped-read (suc at) count bits i (omega (arith, inside)) ∙ ap (λ wire. read (suc at) count (changed bits (one_at wire true))) e in
    λ j. first j ∷ others j

all_one-read : (count : ℕ) (bits : Bits) (wires : List ℕ) → AllByRecursion (λ wire. wire < count) wires → all_one wires (read 0 count bits) ≡ all_on wires bits
all_one-read count bits [] below = refl
all_one-read count bits (wire ∷ wires) below =
    let e : 0 + wire ≡ wire = omega arith in
    let one = bit_at-read 0 count bits wire below.0 ∙ ap bits e in
    let others = all_one-read count bits wires below.1 in
    λ i. one i && others i

flip-read : (count : ℕ) (bits : Bits) (target : ℕ) (k : Bool) → target < count → cond k (flipped (read 0 count bits) target) (read 0 count bits) ≡ read 0 count (changed bits (one_at target k))
flip-read count bits target true below =
    let e : 0 + target ≡ target = omega arith in
    flipped-read 0 count bits target below ∙ ap (λ wire. read 0 count (changed bits (one_at wire true))) e
flip-read count bits target false below = ap (read 0 count) (sym (changed_zeros bits))

if-read : (count : ℕ) (k : Bool) (a b : Bits) (c : List Bool) → c ≡ read 0 count a → cond k c (read 0 count b) ≡ read 0 count (cond k a b)
if-read count true a b c same = same
if-read count false a b c same = refl

-- a code that is applied to the first bits, all of its wires among them
pub mean-read : (code : CodeTree) (backward : Bool) (count : ℕ) (bits : Bits) → UsesWiresBelow count code → mean code backward (read 0 count bits) ≡ read 0 count (mean_wires code backward bits)
mean-read Nothing backward count bits below = refl
mean-read (Then first rest) false count bits below = ap (mean rest false) (mean-read first false count bits below.0) ∙ mean-read rest false count (mean_wires first false bits) below.1
mean-read (Then first rest) true count bits below = ap (mean first true) (mean-read rest true count bits below.1) ∙ mean-read first true count (mean_wires rest true bits) below.0
mean-read (FlipCode controls target) backward count bits below =
    ap (λ k. cond k (flipped (read 0 count bits) target) (read 0 count bits)) (all_one-read count bits controls below.0) ∙ flip-read count bits target (all_on controls bits) below.1
mean-read (IfCode wire body) backward count bits below =
    let e : 0 + wire ≡ wire = omega arith in
    ap (λ k. cond k (mean body backward (read 0 count bits)) (read 0 count bits)) (bit_at-read 0 count bits wire below.0 ∙ ap bits e)
    ∙ if-read count (bits wire) (mean_wires body backward bits) bits (mean body backward (read 0 count bits)) (mean-read body backward count bits below.1)
mean-read (WithCode setup work) backward count bits below =
    let start : Bits = mean_wires setup false bits in
    ap (λ s. mean setup true (mean work backward s)) (mean-read setup false count bits below.0)
    ∙ ap (mean setup true) (mean-read work backward count start below.1)
    ∙ mean-read setup true count (mean_wires work backward start) below.0
mean-read (ConjCode setup work) backward count bits below =
    let start : Bits = mean_wires setup false bits in
    ap (λ s. mean setup true (mean work backward s)) (mean-read setup false count bits below.0)
    ∙ ap (mean setup true) (mean-read work backward count start below.1)
    ∙ mean-read setup true count (mean_wires work backward start) below.0

read_next : (at count : ℕ) (bits : Bits) → read (suc at) count bits ≡ read at count (λ wire. bits (suc wire))
read_next at zero bits = refl
read_next at (suc count) bits = ap (λ rest. bits (suc at) ∷ rest) (read_next (suc at) count bits)

-- a list is read from its own bits
pub read-bit_at : (bits : List Bool) → read 0 (length bits) (bit_at bits) ≡ bits
read-bit_at [] = refl
read-bit_at (bit ∷ bits) = ap (λ rest. bit ∷ rest) (read_next 0 (length bits) (bit_at (bit ∷ bits)) ∙ read-bit_at bits)

-- what a code does to a list, by what it does to the bits of all wires
pub mean_on_list : (code : CodeTree) (backward : Bool) (bits : List Bool) → UsesWiresBelow (length bits) code → mean code backward bits ≡ read 0 (length bits) (mean_wires code backward (bit_at bits))
mean_on_list code backward bits below = ap (mean code backward) (sym (read-bit_at bits)) ∙ mean-read code backward (length bits) (bit_at bits) below
