-- Laws of what codes do to the bits of all wires.
use Rattle.std.proofs.Common.{◌≡◌, ◌≢◌, ◌∙◌, ap, sym, refl, ℕ, Bool, true, false, not, cond, ◌&&◌, List, [], ◌∷◌, ◌++◌}
use Rattle.std.specs.List.{AllByRecursion}
use Rattle.tw_code.specs.Trees.{CodeTree, Nothing, Then, FlipCode, IfCode, WithCode, ConjCode, sequence, followed, back}
use Rattle.tw_code.specs.Wires.{EachWire, IsUnused, IsProperCode}
use Rattle.tw_code.specs.Functions.{Bits, changed, one_at, all_on, mean_wires}
use Rattle.tw_code.proofs.Lists.{all_weaker}
use Rattle.tw_code.proofs.Changes.{changed_swap, changed_twice, changed_spared, one_at-elsewhere}

-- a change that spares the wires
pub all_on-spared : (wires : List ℕ) (bits by : Bits) → AllByRecursion (λ wire. by wire ≡ false) wires → all_on wires (changed bits by) ≡ all_on wires bits
all_on-spared [] bits by spared = refl
all_on-spared (wire ∷ wires) bits by spared =
    let one = changed_spared bits by wire spared.0 in
    let others = all_on-spared wires bits by spared.1 in
    λ i. one i && others i

framed_if : (k : Bool) (a b by : Bits) (c : Bits) → c ≡ changed a by → cond k c (changed b by) ≡ changed (cond k a b) by
framed_if true a b by c same = same
framed_if false a b by c same = refl

-- a code commutes with every change that spares its wires
pub framed : (code : CodeTree) (backward : Bool) (bits by : Bits) → EachWire (λ wire. by wire ≡ false) code → mean_wires code backward (changed bits by) ≡ changed (mean_wires code backward bits) by
framed Nothing backward bits by spared = refl
framed (Then first rest) false bits by spared = ap (mean_wires rest false) (framed first false bits by spared.0) ∙ framed rest false (mean_wires first false bits) by spared.1
framed (Then first rest) true bits by spared = ap (mean_wires first true) (framed rest true bits by spared.1) ∙ framed first true (mean_wires rest true bits) by spared.0
framed (FlipCode controls target) backward bits by spared =
    ap (λ k. changed (changed bits by) (one_at target k)) (all_on-spared controls bits by spared.0) ∙ changed_swap bits by (one_at target (all_on controls bits))
framed (IfCode wire body) backward bits by spared =
    ap (λ k. cond k (mean_wires body backward (changed bits by)) (changed bits by)) (changed_spared bits by wire spared.0)
    ∙ framed_if (bits wire) (mean_wires body backward bits) bits by (mean_wires body backward (changed bits by)) (framed body backward bits by spared.1)
framed (WithCode setup work) backward bits by spared =
    let start : Bits = mean_wires setup false bits in
    ap (λ s. mean_wires setup true (mean_wires work backward s)) (framed setup false bits by spared.0)
    ∙ ap (mean_wires setup true) (framed work backward start by spared.1)
    ∙ framed setup true (mean_wires work backward start) by spared.0
framed (ConjCode setup work) backward bits by spared =
    let start : Bits = mean_wires setup false bits in
    ap (λ s. mean_wires setup true (mean_wires work backward s)) (framed setup false bits by spared.0)
    ∙ ap (mean_wires setup true) (framed work backward start by spared.1)
    ∙ framed setup true (mean_wires work backward start) by spared.0

other_if : (k : Bool) (a b : Bits) (wire : ℕ) → a wire ≡ b wire → cond k a b wire ≡ b wire
other_if true a b wire same = same
other_if false a b wire same = refl

-- a wire that the code does not use keeps its bit
pub mean_other : (wire : ℕ) (code : CodeTree) (backward : Bool) (bits : Bits) → IsUnused wire code → mean_wires code backward bits wire ≡ bits wire
mean_other wire Nothing backward bits unused = refl
mean_other wire (Then first rest) false bits unused = mean_other wire rest false (mean_wires first false bits) unused.1 ∙ mean_other wire first false bits unused.0
mean_other wire (Then first rest) true bits unused = mean_other wire first true (mean_wires rest true bits) unused.0 ∙ mean_other wire rest true bits unused.1
mean_other wire (FlipCode controls target) backward bits unused =
    changed_spared bits (one_at target (all_on controls bits)) wire (one_at-elsewhere target (all_on controls bits) wire unused.1)
mean_other wire (IfCode control body) backward bits unused = other_if (bits control) (mean_wires body backward bits) bits wire (mean_other wire body backward bits unused.1)
mean_other wire (WithCode setup work) backward bits unused =
    let start : Bits = mean_wires setup false bits in
    mean_other wire setup true (mean_wires work backward start) unused.0 ∙ mean_other wire work backward start unused.1 ∙ mean_other wire setup false bits unused.0
mean_other wire (ConjCode setup work) backward bits unused =
    let start : Bits = mean_wires setup false bits in
    mean_other wire setup true (mean_wires work backward start) unused.0 ∙ mean_other wire work backward start unused.1 ∙ mean_other wire setup false bits unused.0

undo_if : (wire : ℕ) (body : CodeTree) (backward : Bool) (bits : Bits) (k : Bool) → bits wire ≡ k → mean_wires body backward bits wire ≡ bits wire
    → mean_wires body (not backward) (mean_wires body backward bits) ≡ bits → mean_wires (IfCode wire body) (not backward) (cond k (mean_wires body backward bits) bits) ≡ bits
undo_if wire body backward bits true is same undone = rw (same ∙ is) undone
undo_if wire body backward bits false is same undone = rw is refl

-- a proper code backward undoes the code, and forward undoes it backward
pub undo : (code : CodeTree) (backward : Bool) (bits : Bits) → IsProperCode code → mean_wires code (not backward) (mean_wires code backward bits) ≡ bits
undo Nothing backward bits proper = refl
undo (Then first rest) false bits proper = ap (mean_wires first true) (undo rest false (mean_wires first false bits) proper.1) ∙ undo first false bits proper.0
undo (Then first rest) true bits proper = ap (mean_wires rest false) (undo first true (mean_wires rest true bits) proper.0) ∙ undo rest true bits proper.1
undo (FlipCode controls target) backward bits proper =
    let by : Bits = one_at target (all_on controls bits) in
    let spared : AllByRecursion (λ wire. by wire ≡ false) controls =
    all_weaker (λ wire. target ≢ wire) (λ wire. by wire ≡ false) (λ wire other. one_at-elsewhere target (all_on controls bits) wire (λ same. other (sym same))) controls proper.0 in
    ap (λ k. changed (changed bits by) (one_at target k)) (all_on-spared controls bits by spared) ∙ changed_twice bits by
undo (IfCode wire body) backward bits proper = undo_if wire body backward bits (bits wire) refl (mean_other wire body backward bits proper.0) (undo body backward bits proper.1)
undo (WithCode setup work) backward bits proper =
    let start : Bits = mean_wires setup false bits in
    ap (λ s. mean_wires setup true (mean_wires work (not backward) s)) (undo setup true (mean_wires work backward start) proper.0)
    ∙ ap (mean_wires setup true) (undo work backward start proper.1)
    ∙ undo setup false bits proper.0
undo (ConjCode setup work) backward bits proper =
    let start : Bits = mean_wires setup false bits in
    ap (λ s. mean_wires setup true (mean_wires work (not backward) s)) (undo setup true (mean_wires work backward start) proper.0)
    ∙ ap (mean_wires setup true) (undo work backward start proper.1)
    ∙ undo setup false bits proper.0

-- work that only changes wires which the setup does not use does so between the setup and its undoing
pub around : (setup work : CodeTree) (backward : Bool) (bits by : Bits) → IsProperCode setup → EachWire (λ wire. by wire ≡ false) setup
    → mean_wires work backward (mean_wires setup false bits) ≡ changed (mean_wires setup false bits) by → mean_wires (ConjCode setup work) backward bits ≡ changed bits by
around setup work backward bits by proper spared does =
    ap (mean_wires setup true) does ∙ framed setup true (mean_wires setup false bits) by spared ∙ ap (λ (s : Bits). changed s by) (undo setup false bits proper)

-- a setup that makes the same change before and after the work
pub sandwich : (setup work : CodeTree) (backward : Bool) (start end by : Bits) → IsProperCode setup → mean_wires setup false start ≡ changed start by
    → mean_wires setup false end ≡ changed end by → mean_wires work backward (changed start by) ≡ changed end by → mean_wires (ConjCode setup work) backward start ≡ end
sandwich setup work backward start end by proper first last does =
    ap (λ s. mean_wires setup true (mean_wires work backward s)) first ∙ ap (mean_wires setup true) (does ∙ sym last) ∙ undo setup false end proper

followed_forward : (code last : CodeTree) (bits : Bits) → mean_wires (followed code last) false bits ≡ mean_wires last false (mean_wires code false bits)
followed_forward Nothing last bits = refl
followed_forward (Then first rest) last bits = followed_forward rest last (mean_wires first false bits)
followed_forward (FlipCode controls target) last bits = refl
followed_forward (IfCode wire body) last bits = refl
followed_forward (WithCode setup work) last bits = refl
followed_forward (ConjCode setup work) last bits = refl

followed_backward : (code last : CodeTree) (bits : Bits) → mean_wires (followed code last) true bits ≡ mean_wires code true (mean_wires last true bits)
followed_backward Nothing last bits = refl
followed_backward (Then first rest) last bits = ap (mean_wires first true) (followed_backward rest last bits)
followed_backward (FlipCode controls target) last bits = refl
followed_backward (IfCode wire body) last bits = refl
followed_backward (WithCode setup work) last bits = refl
followed_backward (ConjCode setup work) last bits = refl

-- the reverse of a code does what the code does backward, and the other way round
pub wires-back : (code : CodeTree) (backward : Bool) (bits : Bits) → mean_wires (back code) backward bits ≡ mean_wires code (not backward) bits
wires-back Nothing backward bits = refl
wires-back (Then first rest) false bits =
    followed_forward (back rest) (back first) bits ∙ ap (mean_wires (back first) false) (wires-back rest false bits) ∙ wires-back first false (mean_wires rest true bits)
wires-back (Then first rest) true bits =
    followed_backward (back rest) (back first) bits ∙ ap (mean_wires (back rest) true) (wires-back first true bits) ∙ wires-back rest true (mean_wires first false bits)
wires-back (FlipCode controls target) backward bits = refl
wires-back (IfCode wire body) backward bits = ap (λ s. cond (bits wire) s bits) (wires-back body backward bits)
wires-back (WithCode setup work) backward bits = ap (mean_wires setup true) (wires-back work backward (mean_wires setup false bits))
wires-back (ConjCode setup work) backward bits = ap (mean_wires setup true) (wires-back work backward (mean_wires setup false bits))

-- two sequences, one after the other
pub wires-sequence : (xs ys : List CodeTree) (bits : Bits) → mean_wires (sequence (xs ++ ys)) false bits ≡ mean_wires (sequence ys) false (mean_wires (sequence xs) false bits)
wires-sequence [] ys bits = refl
wires-sequence (code ∷ xs) ys bits = wires-sequence xs ys (mean_wires code false bits)
