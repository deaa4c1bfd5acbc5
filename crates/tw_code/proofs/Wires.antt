-- The wires of a code.
use Rattle.std.proofs.Common.{◌≡◌, ◌≢◌, sym, ℕ, zero, suc, ◌<◌, List, [], ◌∷◌, ◌++◌, get_or, length, map, subst, arith}
use Rattle.std.specs.List.{AllByRecursion}
use Rattle.tw_gate.specs.Gates.{IsNotAmong}
use Rattle.tw_code.specs.declared.code.Code.{Code}
use Rattle.tw_code.specs.Trees.{CodeTree, Nothing, Then, FlipCode, IfCode, WithCode, ConjCode, sequence, code_tree, followed, back}
use Rattle.tw_code.specs.Wires.{EachWire, UsesWiresBelow, AreDistinct, IsProperCode}
use Rattle.tw_code.proofs.Lists.{all_append, all_weaker}

-- a part of a sequence uses wires of the sequence alone
pub each_part : (P : ℕ → Type 0) (parts : List Code) (i : ℕ) (d : Code) → i < length parts → EachWire P (sequence (map code_tree parts)) → EachWire P (code_tree (get_or parts i d))
each_part P [] i d inside each = absurd (omega (arith, inside))
each_part P (code ∷ codes) zero d inside each = each.0
each_part P (code ∷ codes) (suc i) d inside each = each_part P codes i d (omega arith) each.1

-- the same at a part that code has read, and at a number that is equal
pub below_at : (wires same : ℕ) (parts : List Code) (i : ℕ) (code : Code) → same ≡ wires → code ≡ get_or parts i code → i < length parts
    → UsesWiresBelow wires (sequence (map code_tree parts)) → UsesWiresBelow same (code_tree code)
below_at wires same parts i code e is inside below =
    let P : ℕ → Code → Type 0 = λ n x. UsesWiresBelow n (code_tree x) in
    subst (λ n. P n code) (sym e) (subst (P wires) (sym is) (each_part (λ used. used < wires) parts i code inside below))

pub each_weaker : (P Q : ℕ → Type 0) → ((n : ℕ) → P n → Q n) → (code : CodeTree) → EachWire P code → EachWire Q code
each_weaker P Q weaker Nothing each = tt
each_weaker P Q weaker (Then first rest) each = (each_weaker P Q weaker first each.0, each_weaker P Q weaker rest each.1)
each_weaker P Q weaker (FlipCode controls target) each = (all_weaker P Q weaker controls each.0, weaker target each.1)
each_weaker P Q weaker (IfCode wire body) each = (weaker wire each.0, each_weaker P Q weaker body each.1)
each_weaker P Q weaker (WithCode setup work) each = (each_weaker P Q weaker setup each.0, each_weaker P Q weaker work each.1)
each_weaker P Q weaker (ConjCode setup work) each = (each_weaker P Q weaker setup each.0, each_weaker P Q weaker work each.1)

each-followed : (P : ℕ → Type 0) (code last : CodeTree) → EachWire P code → EachWire P last → EachWire P (followed code last)
each-followed P Nothing last each own = (own, tt)
each-followed P (Then first rest) last each own = (each.0, each-followed P rest last each.1 own)
each-followed P (FlipCode controls target) last each own = (each, (own, tt))
each-followed P (IfCode wire body) last each own = (each, (own, tt))
each-followed P (WithCode setup work) last each own = (each, (own, tt))
each-followed P (ConjCode setup work) last each own = (each, (own, tt))

-- the reverse of a code uses the wires of the code
pub each-back : (P : ℕ → Type 0) (code : CodeTree) → EachWire P code → EachWire P (back code)
each-back P Nothing each = tt
each-back P (Then first rest) each = each-followed P (back rest) (back first) (each-back P rest each.1) (each-back P first each.0)
each-back P (FlipCode controls target) each = each
each-back P (IfCode wire body) each = (each.0, each-back P body each.1)
each-back P (WithCode setup work) each = (each.0, each-back P work each.1)
each-back P (ConjCode setup work) each = (each.0, each-back P work each.1)

proper-followed : (code last : CodeTree) → IsProperCode code → IsProperCode last → IsProperCode (followed code last)
proper-followed Nothing last proper own = (own, tt)
proper-followed (Then first rest) last proper own = (proper.0, proper-followed rest last proper.1 own)
proper-followed (FlipCode controls target) last proper own = (proper, (own, tt))
proper-followed (IfCode wire body) last proper own = (proper, (own, tt))
proper-followed (WithCode setup work) last proper own = (proper, (own, tt))
proper-followed (ConjCode setup work) last proper own = (proper, (own, tt))

-- the reverse of a proper code is proper
pub proper-back : (code : CodeTree) → IsProperCode code → IsProperCode (back code)
proper-back Nothing proper = tt
proper-back (Then first rest) proper = proper-followed (back rest) (back first) (proper-back rest proper.1) (proper-back first proper.0)
proper-back (FlipCode controls target) proper = proper
proper-back (IfCode wire body) proper = (each-back (λ used. wire ≢ used) body proper.0, proper-back body proper.1)
proper-back (WithCode setup work) proper = (proper.0, proper-back work proper.1)
proper-back (ConjCode setup work) proper = (proper.0, proper-back work proper.1)

-- a property of the wires of each code is a property of those of the sequence
pub each-sequence : (P : ℕ → Type 0) (codes : List CodeTree) → AllByRecursion (EachWire P) codes → EachWire P (sequence codes)
each-sequence P [] all = tt
each-sequence P (code ∷ codes) all = (all.0, each-sequence P codes all.1)

pub proper-sequence : (codes : List CodeTree) → AllByRecursion IsProperCode codes → IsProperCode (sequence codes)
proper-sequence [] all = tt
proper-sequence (code ∷ codes) all = (all.0, proper-sequence codes all.1)

pub distinct-append : (xs ys : List ℕ) → AreDistinct xs → AreDistinct ys → AllByRecursion (λ y. IsNotAmong y xs) ys → AreDistinct (xs ++ ys)
distinct-append [] ys first second apart = second
distinct-append (x ∷ xs) ys first second apart = (
  all_append (λ y. x ≢ y) xs ys first.0 (all_weaker (λ y. IsNotAmong y (x ∷ xs)) (λ y. x ≢ y) (λ y other same. other.0 (sym same)) ys apart),
  distinct-append xs ys first.1 second (all_weaker (λ y. IsNotAmong y (x ∷ xs)) (λ y. IsNotAmong y xs) (λ y other. other.1) ys apart),
)
