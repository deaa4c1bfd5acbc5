-- Laws of what codes do to bits.
use Rattle.std.proofs.Common.{◌≡◌, ◌∙◌, ap, sym, refl, ℕ, zero, suc, Bool, true, false, not, cond, List, [], ◌∷◌, ◌++◌, length, map, reverse, arith}
use Rattle.std.proofs.lemmas.List.{reverse-append}
use Rattle.std.specs.List.{AllByRecursion}
use Rattle.tw_bits.specs.Lists.{bit_at, flipped}
use Rattle.tw_bits.proofs.Laws.{bit_at-flipped}
use Rattle.tw_gate.specs.Gates.{X, all_one}
use Rattle.tw_gate.proofs.Act.{length-act_gate, all_one-flipped}
use Rattle.tw_gate.proofs.Inverse.{act_gate-inverse}
use Rattle.tw_code.specs.Trees.{CodeTree, Nothing, Then, FlipCode, IfCode, WithCode, ConjCode, sequence, followed, back}
use Rattle.tw_code.specs.Meaning.{mean}
use Rattle.tw_code.specs.Wires.{EachWire, IsUnused, AreUnused, IsProperCode}

-- the length is kept
pub length-mean : (code : CodeTree) (backward : Bool) (bits : List Bool) → length (mean code backward bits) ≡ length bits
length-mean Nothing backward bits = refl
length-mean (Then first rest) false bits = length-mean rest false (mean first false bits) ∙ length-mean first false bits
length-mean (Then first rest) true bits = length-mean first true (mean rest true bits) ∙ length-mean rest true bits
length-mean (FlipCode controls target) backward bits = length-act_gate (X controls target) bits
length-mean (IfCode wire body) backward bits =
    elim (bit_at bits wire) as (λ k. length (cond k (mean body backward bits) bits) ≡ length bits) [ true ↦ length-mean body backward bits | false ↦ refl ]
length-mean (WithCode setup work) backward bits =
    length-mean setup true (mean work backward (mean setup false bits)) ∙ (length-mean work backward (mean setup false bits) ∙ length-mean setup false bits)
length-mean (ConjCode setup work) backward bits =
    length-mean setup true (mean work backward (mean setup false bits)) ∙ (length-mean work backward (mean setup false bits) ∙ length-mean setup false bits)

-- a wire that the code does not use keeps its bit
pub bit_at-mean : (wire : ℕ) (code : CodeTree) (backward : Bool) (bits : List Bool) → IsUnused wire code → bit_at (mean code backward bits) wire ≡ bit_at bits wire
bit_at-mean wire Nothing backward bits unused = refl
bit_at-mean wire (Then first rest) false bits unused = bit_at-mean wire rest false (mean first false bits) unused.1 ∙ bit_at-mean wire first false bits unused.0
bit_at-mean wire (Then first rest) true bits unused = bit_at-mean wire first true (mean rest true bits) unused.0 ∙ bit_at-mean wire rest true bits unused.1
bit_at-mean wire (FlipCode controls target) backward bits unused =
    elim (all_one controls bits) as (λ k. bit_at (cond k (flipped bits target) bits) wire ≡ bit_at bits wire)
    [ true ↦ bit_at-flipped bits target wire (λ same. unused.1 (sym same)) | false ↦ refl ]
bit_at-mean wire (IfCode control body) backward bits unused =
    elim (bit_at bits control) as (λ k. bit_at (cond k (mean body backward bits) bits) wire ≡ bit_at bits wire) [ true ↦ bit_at-mean wire body backward bits unused.1 | false ↦ refl ]
bit_at-mean wire (WithCode setup work) backward bits unused =
    bit_at-mean wire setup true (mean work backward (mean setup false bits)) unused.0
    ∙ (bit_at-mean wire work backward (mean setup false bits) unused.1 ∙ bit_at-mean wire setup false bits unused.0)
bit_at-mean wire (ConjCode setup work) backward bits unused =
    bit_at-mean wire setup true (mean work backward (mean setup false bits)) unused.0
    ∙ (bit_at-mean wire work backward (mean setup false bits) unused.1 ∙ bit_at-mean wire setup false bits unused.0)

-- so do several wires
pub all_one-mean : (wires : List ℕ) (code : CodeTree) (backward : Bool) (bits : List Bool) → AreUnused wires code → all_one wires (mean code backward bits) ≡ all_one wires bits
all_one-mean [] code backward bits unused = refl
all_one-mean (wire ∷ wires) code backward bits unused =
    let one = bit_at-mean wire code backward bits unused.0 in
    let others = all_one-mean wires code backward bits unused.1 in
    cc

undo_if : (wire : ℕ) (body : CodeTree) (backward : Bool) (bits : List Bool) (k : Bool) → bit_at bits wire ≡ k
    → bit_at (mean body backward bits) wire ≡ bit_at bits wire → mean body (not backward) (mean body backward bits) ≡ bits
    → mean (IfCode wire body) (not backward) (cond k (mean body backward bits) bits) ≡ bits
undo_if wire body backward bits true is same undone = rw (same ∙ is) undone
undo_if wire body backward bits false is same undone = rw is refl

-- a proper code backward undoes the code, and forward undoes it backward
pub mean-undone : (code : CodeTree) (backward : Bool) (bits : List Bool) → IsProperCode code → mean code (not backward) (mean code backward bits) ≡ bits
mean-undone Nothing backward bits proper = refl
mean-undone (Then first rest) false bits proper = ap (mean first true) (mean-undone rest false (mean first false bits) proper.1) ∙ mean-undone first false bits proper.0
mean-undone (Then first rest) true bits proper = ap (mean rest false) (mean-undone first true (mean rest true bits) proper.0) ∙ mean-undone rest true bits proper.1
mean-undone (FlipCode controls target) backward bits proper = act_gate-inverse (X controls target) bits proper.0
mean-undone (IfCode wire body) backward bits proper =
    undo_if wire body backward bits (bit_at bits wire) refl (bit_at-mean wire body backward bits proper.0) (mean-undone body backward bits proper.1)
mean-undone (WithCode setup work) backward bits proper =
    let start : List Bool = mean setup false bits in
    ap (λ s. mean setup true (mean work (not backward) s)) (mean-undone setup true (mean work backward start) proper.0)
    ∙ (ap (mean setup true) (mean-undone work backward start proper.1) ∙ mean-undone setup false bits proper.0)
mean-undone (ConjCode setup work) backward bits proper =
    let start : List Bool = mean setup false bits in
    ap (λ s. mean setup true (mean work (not backward) s)) (mean-undone setup true (mean work backward start) proper.0)
    ∙ (ap (mean setup true) (mean-undone work backward start proper.1) ∙ mean-undone setup false bits proper.0)

-- forward after backward, and backward after forward, are the identity
pub mean-backward_forward : (code : CodeTree) (bits : List Bool) → IsProperCode code → mean code false (mean code true bits) ≡ bits
mean-backward_forward code bits proper = mean-undone code true bits proper

pub mean-forward_backward : (code : CodeTree) (bits : List Bool) → IsProperCode code → mean code true (mean code false bits) ≡ bits
mean-forward_backward code bits proper = mean-undone code false bits proper

mean-followed : (code last : CodeTree) (bits : List Bool) → mean (followed code last) false bits ≡ mean last false (mean code false bits)
mean-followed Nothing last bits = refl
mean-followed (Then first rest) last bits = mean-followed rest last (mean first false bits)
mean-followed (FlipCode controls target) last bits = refl
mean-followed (IfCode wire body) last bits = refl
mean-followed (WithCode setup work) last bits = refl
mean-followed (ConjCode setup work) last bits = refl

mean-followed_backward : (code last : CodeTree) (bits : List Bool) → mean (followed code last) true bits ≡ mean code true (mean last true bits)
mean-followed_backward Nothing last bits = refl
mean-followed_backward (Then first rest) last bits = ap (mean first true) (mean-followed_backward rest last bits)
mean-followed_backward (FlipCode controls target) last bits = refl
mean-followed_backward (IfCode wire body) last bits = refl
mean-followed_backward (WithCode setup work) last bits = refl
mean-followed_backward (ConjCode setup work) last bits = refl

-- the reverse of a code does what the code does backward, and the other way round
pub mean-back : (code : CodeTree) (backward : Bool) (bits : List Bool) → mean (back code) backward bits ≡ mean code (not backward) bits
mean-back Nothing backward bits = refl
mean-back (Then first rest) false bits =
    mean-followed (back rest) (back first) bits ∙ (ap (mean (back first) false) (mean-back rest false bits) ∙ mean-back first false (mean rest true bits))
mean-back (Then first rest) true bits =
    mean-followed_backward (back rest) (back first) bits ∙ (ap (mean (back rest) true) (mean-back first true bits) ∙ mean-back rest true (mean first false bits))
mean-back (FlipCode controls target) backward bits = refl
mean-back (IfCode wire body) backward bits = ap (λ s. cond (bit_at bits wire) s bits) (mean-back body backward bits)
mean-back (WithCode setup work) backward bits = ap (mean setup true) (mean-back work backward (mean setup false bits))
mean-back (ConjCode setup work) backward bits = ap (mean setup true) (mean-back work backward (mean setup false bits))

-- two sequences, one after the other
pub mean-sequence : (xs ys : List CodeTree) (bits : List Bool) → mean (sequence (xs ++ ys)) false bits ≡ mean (sequence ys) false (mean (sequence xs) false bits)
mean-sequence [] ys bits = refl
mean-sequence (code ∷ xs) ys bits = mean-sequence xs ys (mean code false bits)

pub mean-sequence_backward : (xs ys : List CodeTree) (bits : List Bool) → mean (sequence (xs ++ ys)) true bits ≡ mean (sequence xs) true (mean (sequence ys) true bits)
mean-sequence_backward [] ys bits = refl
mean-sequence_backward (code ∷ xs) ys bits = ap (mean code true) (mean-sequence_backward xs ys bits)

flipped-commute : (bits : List Bool) (a b : ℕ) → flipped (flipped bits a) b ≡ flipped (flipped bits b) a
flipped-commute [] a b = refl
flipped-commute (bit ∷ bits) zero zero = refl
flipped-commute (bit ∷ bits) zero (suc b) = refl
flipped-commute (bit ∷ bits) (suc a) zero = refl
flipped-commute (bit ∷ bits) (suc a) (suc b) = ap (λ rest. bit ∷ rest) (flipped-commute bits a b)

-- a wire that the code does not use does not matter: flipping it before or after is the same
pub mean-flipped : (wire : ℕ) (code : CodeTree) (backward : Bool) (bits : List Bool) → IsUnused wire code → mean code backward (flipped bits wire) ≡ flipped (mean code backward bits) wire
mean-flipped wire Nothing backward bits unused = refl
mean-flipped wire (Then first rest) false bits unused = ap (mean rest false) (mean-flipped wire first false bits unused.0) ∙ mean-flipped wire rest false (mean first false bits) unused.1
mean-flipped wire (Then first rest) true bits unused = ap (mean first true) (mean-flipped wire rest true bits unused.1) ∙ mean-flipped wire first true (mean rest true bits) unused.0
mean-flipped wire (FlipCode controls target) backward bits unused =
    rw (all_one-flipped controls bits wire unused.0)
    (elim (all_one controls bits) as (λ k. cond k (flipped (flipped bits wire) target) (flipped bits wire) ≡ flipped (cond k (flipped bits target) bits) wire)
    [ true ↦ flipped-commute bits wire target | false ↦ refl ])
mean-flipped wire (IfCode control body) backward bits unused =
    rw (bit_at-flipped bits wire control unused.0, mean-flipped wire body backward bits unused.1)
    (elim (bit_at bits control) as (λ k. cond k (flipped (mean body backward bits) wire) (flipped bits wire) ≡ flipped (cond k (mean body backward bits) bits) wire)
    [ true ↦ refl | false ↦ refl ])
mean-flipped wire (WithCode setup work) backward bits unused =
    let start : List Bool = mean setup false bits in
    ap (λ s. mean setup true (mean work backward s)) (mean-flipped wire setup false bits unused.0)
    ∙ (ap (mean setup true) (mean-flipped wire work backward start unused.1) ∙ mean-flipped wire setup true (mean work backward start) unused.0)
mean-flipped wire (ConjCode setup work) backward bits unused =
    let start : List Bool = mean setup false bits in
    ap (λ s. mean setup true (mean work backward s)) (mean-flipped wire setup false bits unused.0)
    ∙ (ap (mean setup true) (mean-flipped wire work backward start unused.1) ∙ mean-flipped wire setup true (mean work backward start) unused.0)

agree-flipped : (a b : List Bool) (target wire : ℕ) → length a ≡ length b → bit_at a wire ≡ bit_at b wire → bit_at (flipped a target) wire ≡ bit_at (flipped b target) wire
agree-flipped [] [] target wire same agree = refl
agree-flipped [] (y ∷ b) target wire same agree = absurd (omega (arith, same))
agree-flipped (x ∷ a) [] target wire same agree = absurd (omega (arith, same))
agree-flipped (x ∷ a) (y ∷ b) zero zero same agree = ap not agree
agree-flipped (x ∷ a) (y ∷ b) zero (suc wire) same agree = agree
agree-flipped (x ∷ a) (y ∷ b) (suc target) zero same agree = agree
agree-flipped (x ∷ a) (y ∷ b) (suc target) (suc wire) same agree = agree-flipped a b target wire (omega (arith, same)) agree

-- these bits agree on the wires with a property
abbrev Agree : (ℕ → Type 0) → List Bool → List Bool → Type 0
Agree P a b = (wire : ℕ) → P wire → bit_at a wire ≡ bit_at b wire

all_one-agree : (P : ℕ → Type 0) (wires : List ℕ) (a b : List Bool) → Agree P a b → AllByRecursion P wires → all_one wires a ≡ all_one wires b
all_one-agree P [] a b agree all = refl
all_one-agree P (wire ∷ wires) a b agree all =
    let one = agree wire all.0 in
    let others = all_one-agree P wires a b agree all.1 in
    cc

agree-cond : (k l : Bool) (a b c d : List Bool) (wire : ℕ) → k ≡ l → bit_at a wire ≡ bit_at b wire → bit_at c wire ≡ bit_at d wire → bit_at (cond k a c) wire ≡ bit_at (cond l b d) wire
agree-cond true l a b c d wire same first other = rw (← same) first
agree-cond false l a b c d wire same first other = rw (← same) other

lengths : (code : CodeTree) (backward : Bool) (a b : List Bool) → length a ≡ length b → length (mean code backward a) ≡ length (mean code backward b)
lengths code backward a b same = length-mean code backward a ∙ (same ∙ sym (length-mean code backward b))

-- what a code leaves on wires of a set that has all its wires depends on the bits of this set alone
pub mean-agree : (P : ℕ → Type 0) (code : CodeTree) (backward : Bool) (a b : List Bool) → EachWire P code → length a ≡ length b → Agree P a b → Agree P (mean code backward a) (mean code backward b)
mean-agree P Nothing backward a b each same agree wire own = agree wire own
mean-agree P (Then first rest) false a b each same agree wire own =
    mean-agree P rest false (mean first false a) (mean first false b) each.1 (lengths first false a b same) (mean-agree P first false a b each.0 same agree) wire own
mean-agree P (Then first rest) true a b each same agree wire own =
    mean-agree P first true (mean rest true a) (mean rest true b) each.0 (lengths rest true a b same) (mean-agree P rest true a b each.1 same agree) wire own
mean-agree P (FlipCode controls target) backward a b each same agree wire own =
    agree-cond (all_one controls a) (all_one controls b) (flipped a target) (flipped b target) a b wire (all_one-agree P controls a b agree each.0)
    (agree-flipped a b target wire same (agree wire own)) (agree wire own)
mean-agree P (IfCode control body) backward a b each same agree wire own =
    agree-cond (bit_at a control) (bit_at b control) (mean body backward a) (mean body backward b) a b wire (agree control each.0)
    (mean-agree P body backward a b each.1 same agree wire own) (agree wire own)
mean-agree P (WithCode setup work) backward a b each same agree wire own =
    let first : Agree P (mean setup false a) (mean setup false b) = mean-agree P setup false a b each.0 same agree in
    let len = lengths setup false a b same in
    let second : Agree P (mean work backward (mean setup false a)) (mean work backward (mean setup false b)) = mean-agree P work backward (mean setup false a) (mean setup false b) each.1 len first in
    mean-agree P setup true (mean work backward (mean setup false a)) (mean work backward (mean setup false b)) each.0 (lengths work backward (mean setup false a) (mean setup false b) len) second wire own
mean-agree P (ConjCode setup work) backward a b each same agree wire own =
    let first : Agree P (mean setup false a) (mean setup false b) = mean-agree P setup false a b each.0 same agree in
    let len = lengths setup false a b same in
    let second : Agree P (mean work backward (mean setup false a)) (mean work backward (mean setup false b)) = mean-agree P work backward (mean setup false a) (mean setup false b) each.1 len first in
    mean-agree P setup true (mean work backward (mean setup false a)) (mean work backward (mean setup false b)) each.0 (lengths work backward (mean setup false a) (mean setup false b) len) second wire own

followed-sequence : (codes : List CodeTree) (last : CodeTree) → followed (sequence codes) last ≡ sequence (codes ++ last ∷ [])
followed-sequence [] last = refl
followed-sequence (code ∷ codes) last = ap (Then code) (followed-sequence codes last)

-- the reverse of a sequence: the reverses of the parts in reverse order
pub back-sequence : (codes : List CodeTree) → back (sequence codes) ≡ sequence (reverse (map back codes))
back-sequence [] = refl
back-sequence (code ∷ codes) =
    ap (λ x. followed x (back code)) (back-sequence codes)
    ∙ (followed-sequence (reverse (map back codes)) (back code)
    ∙ ap sequence (sym (reverse-append (back code ∷ []) (map back codes))))
