-- Laws of the gates of a code.
use Rattle.std.proofs.Common.{◌≡◌, ◌≢◌, ◌∙◌, ap, sym, refl, ℕ, ◌<◌, Bool, true, false, not, ◌&&◌, cond, List, [], ◌∷◌, ◌++◌, append_assoc}
use Rattle.std.proofs.lemmas.List.{append-nil}
use Rattle.std.specs.List.{AllByRecursion}
use Rattle.tw_bits.specs.Lists.{bit_at, flipped}
use Rattle.tw_gate.specs.Gates.{PlainGate, X, all_one, act, inverse, Ascends, IsNotAmong, IsProper, IsClassical, HasWiresBelow}
use Rattle.tw_gate.proofs.Act.{act-append}
use Rattle.tw_gate.proofs.Inverse.{inverse-append}
use Rattle.tw_code.specs.Trees.{CodeTree, Nothing, Then, FlipCode, IfCode, WithCode, ConjCode, followed, back}
use Rattle.tw_code.specs.Meaning.{mean}
use Rattle.tw_code.specs.Wires.{EachWire, IsUnused, AreUnused, UsesWiresBelow, AreDistinct, IsProperCode}
use Rattle.tw_code.specs.Sorting.{sorted}
use Rattle.tw_code.specs.Emission.{emitted}
use Rattle.tw_code.proofs.Lists.{all_append, all_weaker}
use Rattle.tw_code.proofs.Meaning.{all_one-mean, mean-forward_backward}
use Rattle.tw_code.proofs.Sorting.{all_one-sorted, all-sorted, ascends-sorted, distinct_from_ascends}
use Rattle.tw_code.proofs.Wires.{distinct-append}

-- the gates do this if all present controls are 1, and nothing else
abbrev Does : List PlainGate → List ℕ → (List Bool → List Bool) → Type 0
Does gates present f = (bits : List Bool) → act gates bits ≡ cond (all_one present bits) (f bits) bits

-- this keeps the present controls
abbrev Keeps : List ℕ → (List Bool → List Bool) → Type 0
Keeps present f = (bits : List Bool) → all_one present (f bits) ≡ all_one present bits

then_by : (ys : List PlainGate) (present : List ℕ) (f g : List Bool → List Bool) (bits : List Bool) (k : Bool) → all_one present bits ≡ k → Does ys present g → Keeps present f
    → act ys (cond k (f bits) bits) ≡ cond k (g (f bits)) bits
then_by ys present f g bits true is second keeps = second (f bits) ∙ rw (keeps bits ∙ is) refl
then_by ys present f g bits false is second keeps = second bits ∙ rw is refl

does-append : (xs ys : List PlainGate) (present : List ℕ) (f g : List Bool → List Bool) → Does xs present f → Does ys present g → Keeps present f → Does (xs ++ ys) present (λ bits. g (f bits))
does-append xs ys present f g first second keeps bits =
    act-append xs ys bits ∙ (ap (act ys) (first bits) ∙ then_by ys present f g bits (all_one present bits) refl second keeps)

-- gates without controls, then gates under the present ones, then the first ones undone
around_by : (f g h : List Bool → List Bool) (present : List ℕ) (bits : List Bool) (k : Bool) → h (f bits) ≡ bits → h (cond k (g (f bits)) (f bits)) ≡ cond k (h (g (f bits))) bits
around_by f g h present bits true undone = refl
around_by f g h present bits false undone = undone

does-around : (xs ys zs : List PlainGate) (present : List ℕ) (f g h : List Bool → List Bool) → Does xs [] f → Does ys present g → Does zs [] h → Keeps present f
    → ((bits : List Bool) → h (f bits) ≡ bits) → Does (xs ++ (ys ++ zs)) present (λ bits. h (g (f bits)))
does-around xs ys zs present f g h first second third keeps undone bits =
    act-append xs (ys ++ zs) bits
    ∙ (act-append ys zs (act xs bits)
    ∙ (third (act ys (act xs bits))
    ∙ (ap (λ s. h (act ys s)) (first bits)
    ∙ (ap h (second (f bits))
    ∙ (ap (λ k. h (cond k (g (f bits)) (f bits))) (keeps bits) ∙ around_by f g h present bits (all_one present bits) (undone bits))))))

all_one-append : (xs ys : List ℕ) (bits : List Bool) → all_one (xs ++ ys) bits ≡ (all_one xs bits && all_one ys bits)
all_one-append [] ys bits = refl
all_one-append (wire ∷ xs) ys bits =
    ap (λ others. bit_at bits wire && others) (all_one-append xs ys bits)
    ∙ elim (bit_at bits wire) as (λ k. (k && (all_one xs bits && all_one ys bits)) ≡ ((k && all_one xs bits) && all_one ys bits)) [ true ↦ refl | false ↦ refl ]

cond_and : {A : Type 0} (a b : Bool) (x y : A) → cond (a && b) x y ≡ cond b (cond a x y) y
cond_and true true x y = refl
cond_and true false x y = refl
cond_and false true x y = refl
cond_and false false x y = refl

-- wires that are used nowhere in two parts
unused_first : (P Q : ℕ → Type 0) (wires : List ℕ) → AllByRecursion (λ w. P w × Q w) wires → AllByRecursion P wires
unused_first P Q wires all = all_weaker (λ w. P w × Q w) P (λ w both. both.0) wires all

unused_second : (P Q : ℕ → Type 0) (wires : List ℕ) → AllByRecursion (λ w. P w × Q w) wires → AllByRecursion Q wires
unused_second P Q wires all = all_weaker (λ w. P w × Q w) Q (λ w both. both.1) wires all

-- The gates of a proper code under controls that it does not use do what the code means if all controls are 1, and nothing else.
pub act-emitted : (code : CodeTree) (backward : Bool) (present : List ℕ) → IsProperCode code → AreUnused present code
    → (bits : List Bool) → act (emitted code backward present) bits ≡ cond (all_one present bits) (mean code backward bits) bits
act-emitted Nothing backward present proper unused bits = elim (all_one present bits) as (λ k. bits ≡ cond k bits bits) [ true ↦ refl | false ↦ refl ]
act-emitted (Then first rest) false present proper unused bits =
    let one = unused_first (λ w. IsUnused w first) (λ w. IsUnused w rest) present unused in
    let two = unused_second (λ w. IsUnused w first) (λ w. IsUnused w rest) present unused in
    does-append (emitted first false present) (emitted rest false present) present (mean first false) (mean rest false)
    (act-emitted first false present proper.0 one) (act-emitted rest false present proper.1 two) (λ s. all_one-mean present first false s one) bits
act-emitted (Then first rest) true present proper unused bits =
    let one = unused_first (λ w. IsUnused w first) (λ w. IsUnused w rest) present unused in
    let two = unused_second (λ w. IsUnused w first) (λ w. IsUnused w rest) present unused in
    does-append (emitted rest true present) (emitted first true present) present (mean rest true) (mean first true)
    (act-emitted rest true present proper.1 two) (act-emitted first true present proper.0 one) (λ s. all_one-mean present rest true s two) bits
act-emitted (FlipCode controls target) backward present proper unused bits =
    ap (λ k. cond k (flipped bits target) bits) (all_one-sorted (controls ++ present) bits ∙ all_one-append controls present bits)
    ∙ cond_and (all_one controls bits) (all_one present bits) (flipped bits target) bits
act-emitted (IfCode wire body) backward present proper unused bits =
    act-emitted body backward (wire ∷ present) proper.1 (proper.0, unused_second (λ w. w ≢ wire) (λ w. IsUnused w body) present unused) bits
    ∙ cond_and (bit_at bits wire) (all_one present bits) (mean body backward bits) bits
act-emitted (WithCode setup work) backward present proper unused bits =
    let one = unused_first (λ w. IsUnused w setup) (λ w. IsUnused w work) present unused in
    let two = unused_second (λ w. IsUnused w setup) (λ w. IsUnused w work) present unused in
    does-append (emitted setup false present) (emitted work backward present ++ emitted setup true present) present (mean setup false)
    (λ s. mean setup true (mean work backward s))
    (act-emitted setup false present proper.0 one)
    (does-append (emitted work backward present) (emitted setup true present) present (mean work backward) (mean setup true)
    (act-emitted work backward present proper.1 two) (act-emitted setup true present proper.0 one) (λ s. all_one-mean present work backward s two))
    (λ s. all_one-mean present setup false s one) bits
act-emitted (ConjCode setup work) backward present proper unused bits =
    let one = unused_first (λ w. IsUnused w setup) (λ w. IsUnused w work) present unused in
    let two = unused_second (λ w. IsUnused w setup) (λ w. IsUnused w work) present unused in
    does-around (emitted setup false []) (emitted work backward present) (emitted setup true []) present (mean setup false) (mean work backward) (mean setup true)
    (act-emitted setup false [] proper.0 tt) (act-emitted work backward present proper.1 two) (act-emitted setup true [] proper.0 tt)
    (λ s. all_one-mean present setup false s one) (λ s. mean-forward_backward setup s proper.0) bits

all_around : (P : PlainGate → Type 0) (xs ys zs : List PlainGate) → AllByRecursion P xs → AllByRecursion P ys → AllByRecursion P zs → AllByRecursion P (xs ++ (ys ++ zs))
all_around P xs ys zs first second third = all_append P xs (ys ++ zs) first (all_append P ys zs second third)

proper_gates : (code : CodeTree) (backward : Bool) (present : List ℕ) → IsProperCode code → AreDistinct present → AreUnused present code → AllByRecursion IsProper (emitted code backward present)
proper_gates Nothing backward present proper distinct unused = tt
proper_gates (Then first rest) false present proper distinct unused =
    all_append IsProper (emitted first false present) (emitted rest false present)
    (proper_gates first false present proper.0 distinct (unused_first (λ w. IsUnused w first) (λ w. IsUnused w rest) present unused))
    (proper_gates rest false present proper.1 distinct (unused_second (λ w. IsUnused w first) (λ w. IsUnused w rest) present unused))
proper_gates (Then first rest) true present proper distinct unused =
    all_append IsProper (emitted rest true present) (emitted first true present)
    (proper_gates rest true present proper.1 distinct (unused_second (λ w. IsUnused w first) (λ w. IsUnused w rest) present unused))
    (proper_gates first true present proper.0 distinct (unused_first (λ w. IsUnused w first) (λ w. IsUnused w rest) present unused))
proper_gates (FlipCode controls target) backward present proper distinct unused =
    let others : AllByRecursion (λ w. IsNotAmong w controls) present = unused_first (λ w. IsNotAmong w controls) (λ w. w ≢ target) present unused in
    let apart : AllByRecursion (λ w. w ≢ target) present = unused_second (λ w. IsNotAmong w controls) (λ w. w ≢ target) present unused in
    let spared : IsNotAmong target (controls ++ present) = all_append (λ w. target ≢ w) controls present proper.0 (all_weaker (λ w. w ≢ target) (λ w. target ≢ w) (λ w other same. other (sym same)) present apart) in
    ((ascends-sorted (controls ++ present) (distinct-append controls present proper.1 distinct others), all-sorted (λ w. target ≢ w) (controls ++ present) spared), tt)
proper_gates (IfCode wire body) backward present proper distinct unused =
    let others : IsNotAmong wire present = all_weaker (λ w. (w ≢ wire) × IsUnused w body) (λ w. wire ≢ w) (λ w both same. both.0 (sym same)) present unused in
    proper_gates body backward (wire ∷ present) proper.1 (others, distinct) (proper.0, unused_second (λ w. w ≢ wire) (λ w. IsUnused w body) present unused)
proper_gates (WithCode setup work) backward present proper distinct unused =
    let one = unused_first (λ w. IsUnused w setup) (λ w. IsUnused w work) present unused in
    let two = unused_second (λ w. IsUnused w setup) (λ w. IsUnused w work) present unused in
    all_around IsProper (emitted setup false present) (emitted work backward present) (emitted setup true present)
    (proper_gates setup false present proper.0 distinct one) (proper_gates work backward present proper.1 distinct two) (proper_gates setup true present proper.0 distinct one)
proper_gates (ConjCode setup work) backward present proper distinct unused =
    let two = unused_second (λ w. IsUnused w setup) (λ w. IsUnused w work) present unused in
    all_around IsProper (emitted setup false []) (emitted work backward present) (emitted setup true [])
    (proper_gates setup false [] proper.0 tt tt) (proper_gates work backward present proper.1 distinct two) (proper_gates setup true [] proper.0 tt tt)

-- The controls of each gate of a proper code ascend strictly, and the target is not among them.
pub proper-emitted : (code : CodeTree) (backward : Bool) (present : List ℕ) → IsProperCode code → Ascends present → AreUnused present code → AllByRecursion IsProper (emitted code backward present)
proper-emitted code backward present proper ascends unused = proper_gates code backward present proper (distinct_from_ascends present ascends) unused

-- A property of all X gates whose controls and target have a property is one of the gates of a code whose wires have it.
pub all-emitted : (P : ℕ → Type 0) (Q : PlainGate → Type 0) → ((controls : List ℕ) (target : ℕ) → AllByRecursion P controls → P target → Q (X controls target))
    → (code : CodeTree) (backward : Bool) (present : List ℕ) → EachWire P code → AllByRecursion P present → AllByRecursion Q (emitted code backward present)
all-emitted P Q gate Nothing backward present each all = tt
all-emitted P Q gate (Then first rest) false present each all =
    all_append Q (emitted first false present) (emitted rest false present) (all-emitted P Q gate first false present each.0 all) (all-emitted P Q gate rest false present each.1 all)
all-emitted P Q gate (Then first rest) true present each all =
    all_append Q (emitted rest true present) (emitted first true present) (all-emitted P Q gate rest true present each.1 all) (all-emitted P Q gate first true present each.0 all)
all-emitted P Q gate (FlipCode controls target) backward present each all =
    (gate (sorted (controls ++ present)) target (all-sorted P (controls ++ present) (all_append P controls present each.0 all)) each.1, tt)
all-emitted P Q gate (IfCode wire body) backward present each all = all-emitted P Q gate body backward (wire ∷ present) each.1 (each.0, all)
all-emitted P Q gate (WithCode setup work) backward present each all =
    all_around Q (emitted setup false present) (emitted work backward present) (emitted setup true present)
    (all-emitted P Q gate setup false present each.0 all) (all-emitted P Q gate work backward present each.1 all) (all-emitted P Q gate setup true present each.0 all)
all-emitted P Q gate (ConjCode setup work) backward present each all =
    all_around Q (emitted setup false []) (emitted work backward present) (emitted setup true [])
    (all-emitted P Q gate setup false [] each.0 tt) (all-emitted P Q gate work backward present each.1 all) (all-emitted P Q gate setup true [] each.0 tt)

-- The wires of each gate are below a number if those of the code and of the controls are.
pub below-emitted : (wires : ℕ) (code : CodeTree) (backward : Bool) (present : List ℕ) → UsesWiresBelow wires code → AllByRecursion (λ w. w < wires) present → AllByRecursion (HasWiresBelow wires) (emitted code backward present)
below-emitted wires code backward present each all = all-emitted (λ w. w < wires) (HasWiresBelow wires) (λ controls target own last. (own, last)) code backward present each all

all_any : (wires : List ℕ) → AllByRecursion (λ w. Unit {0}) wires
all_any [] = tt
all_any (wire ∷ wires) = (tt, all_any wires)

each_any : (code : CodeTree) → EachWire (λ w. Unit {0}) code
each_any Nothing = tt
each_any (Then first rest) = (each_any first, each_any rest)
each_any (FlipCode controls target) = (all_any controls, tt)
each_any (IfCode wire body) = (tt, each_any body)
each_any (WithCode setup work) = (each_any setup, each_any work)
each_any (ConjCode setup work) = (each_any setup, each_any work)

-- All gates are X gates.
pub classical-emitted : (code : CodeTree) (backward : Bool) (present : List ℕ) → AllByRecursion IsClassical (emitted code backward present)
classical-emitted code backward present = all-emitted (λ w. Unit {0}) IsClassical (λ controls target own last. tt) code backward present (each_any code) (all_any present)

emitted-followed : (code last : CodeTree) (present : List ℕ) → emitted (followed code last) false present ≡ emitted code false present ++ emitted last false present
emitted-followed Nothing last present = append-nil (emitted last false present)
emitted-followed (Then first rest) last present =
    ap (λ gates. emitted first false present ++ gates) (emitted-followed rest last present) ∙ sym (append_assoc (emitted first false present) (emitted rest false present) (emitted last false present))
emitted-followed (FlipCode controls target) last present = ap (λ gates. emitted (FlipCode controls target) false present ++ gates) (append-nil (emitted last false present))
emitted-followed (IfCode wire body) last present = ap (λ gates. emitted (IfCode wire body) false present ++ gates) (append-nil (emitted last false present))
emitted-followed (WithCode setup work) last present = ap (λ gates. emitted (WithCode setup work) false present ++ gates) (append-nil (emitted last false present))
emitted-followed (ConjCode setup work) last present = ap (λ gates. emitted (ConjCode setup work) false present ++ gates) (append-nil (emitted last false present))

emitted-followed_backward : (code last : CodeTree) (present : List ℕ) → emitted (followed code last) true present ≡ emitted last true present ++ emitted code true present
emitted-followed_backward Nothing last present = sym (append-nil (emitted last true present))
emitted-followed_backward (Then first rest) last present =
    ap (λ gates. gates ++ emitted first true present) (emitted-followed_backward rest last present) ∙ append_assoc (emitted last true present) (emitted rest true present) (emitted first true present)
emitted-followed_backward (FlipCode controls target) last present = refl
emitted-followed_backward (IfCode wire body) last present = refl
emitted-followed_backward (WithCode setup work) last present = refl
emitted-followed_backward (ConjCode setup work) last present = refl

-- The gates of the reverse of a code are those of the code backward, and the other way round.
pub emitted-back : (code : CodeTree) (backward : Bool) (present : List ℕ) → emitted (back code) backward present ≡ emitted code (not backward) present
emitted-back Nothing backward present = refl
emitted-back (Then first rest) false present =
    emitted-followed (back rest) (back first) present ∙ (λ i. emitted-back rest false present i ++ emitted-back first false present i)
emitted-back (Then first rest) true present =
    emitted-followed_backward (back rest) (back first) present ∙ (λ i. emitted-back first true present i ++ emitted-back rest true present i)
emitted-back (FlipCode controls target) backward present = refl
emitted-back (IfCode wire body) backward present = emitted-back body backward (wire ∷ present)
emitted-back (WithCode setup work) backward present = ap (λ gates. emitted setup false present ++ (gates ++ emitted setup true present)) (emitted-back work backward present)
emitted-back (ConjCode setup work) backward present = ap (λ gates. emitted setup false [] ++ (gates ++ emitted setup true [])) (emitted-back work backward present)

inverse_around : (xs ys zs us vs ws : List PlainGate) → inverse xs ≡ ws → inverse ys ≡ vs → inverse zs ≡ us → inverse (xs ++ (ys ++ zs)) ≡ us ++ (vs ++ ws)
inverse_around xs ys zs us vs ws first second third =
    inverse-append xs (ys ++ zs)
    ∙ (ap (λ gates. gates ++ inverse xs) (inverse-append ys zs)
    ∙ ((λ i. (third i ++ second i) ++ first i) ∙ append_assoc us vs ws))

-- The gates of a code backward are the inverse of its gates.
pub inverse-emitted : (code : CodeTree) (backward : Bool) (present : List ℕ) → inverse (emitted code backward present) ≡ emitted code (not backward) present
inverse-emitted Nothing backward present = refl
inverse-emitted (Then first rest) false present =
    inverse-append (emitted first false present) (emitted rest false present) ∙ (λ i. inverse-emitted rest false present i ++ inverse-emitted first false present i)
inverse-emitted (Then first rest) true present =
    inverse-append (emitted rest true present) (emitted first true present) ∙ (λ i. inverse-emitted first true present i ++ inverse-emitted rest true present i)
inverse-emitted (FlipCode controls target) backward present = refl
inverse-emitted (IfCode wire body) backward present = inverse-emitted body backward (wire ∷ present)
inverse-emitted (WithCode setup work) backward present =
    inverse_around (emitted setup false present) (emitted work backward present) (emitted setup true present) _ _ _
    (inverse-emitted setup false present) (inverse-emitted work backward present) (inverse-emitted setup true present)
inverse-emitted (ConjCode setup work) backward present =
    inverse_around (emitted setup false []) (emitted work backward present) (emitted setup true []) _ _ _
    (inverse-emitted setup false []) (inverse-emitted work backward present) (inverse-emitted setup true [])
