-- Loops that build codes.
use Rattle.std.proofs.Common.{◌≡◌, ◌∙◌, ap, sym, ℕ, suc, ◌+◌, ◌-◌, ◌<◌, List, [], ◌∷◌, ◌++◌, map, append_assoc, arith}
use Rattle.std.proofs.lemmas.List.{map-append}
use Rattle.tw_code.specs.declared.code.Code.{Code}
use Rattle.tw_code.specs.Trees.{CodeTree, FlipCode, code_tree}
use Rattle.tw_arith.specs.Circuits.{copies}

-- the copies from the place i on are the one at i, and those after it
copies_next : (from to count i : ℕ) → i < count → copies (from + i) (to + i) (count - i) ≡ FlipCode ((from + i) ∷ []) (to + i) ∷ copies (from + (i + 1)) (to + (i + 1)) (count - (i + 1))
copies_next from to count i inside =
    let e : count - i ≡ suc (count - (i + 1)) = omega (arith, inside) in
    let a : suc (from + i) ≡ from + (i + 1) = omega arith in
    let b : suc (to + i) ≡ to + (i + 1) = omega arith in
    ap (copies (from + i) (to + i)) e ∙ (λ j. FlipCode ((from + i) ∷ []) (to + i) ∷ copies (a j) (b j) (count - (i + 1)))

copies_step : (from to count i : ℕ) (built all : List CodeTree) → i < count → built ++ copies (from + i) (to + i) (count - i) ≡ all
    → (built ++ FlipCode ((from + i) ∷ []) (to + i) ∷ []) ++ copies (from + (i + 1)) (to + (i + 1)) (count - (i + 1)) ≡ all
copies_step from to count i built all inside is =
    let rest : List CodeTree = copies (from + (i + 1)) (to + (i + 1)) (count - (i + 1)) in
    append_assoc built (FlipCode ((from + i) ∷ []) (to + i) ∷ []) rest ∙ ap (λ codes. built ++ codes) (sym (copies_next from to count i inside)) ∙ is

pub copies_pushed : (from to count i : ℕ) (parts : List Code) (code : Code) (all : List CodeTree) → i < count → code_tree code ≡ FlipCode ((from + i) ∷ []) (to + i)
    → map code_tree parts ++ copies (from + i) (to + i) (count - i) ≡ all → map code_tree (parts ++ code ∷ []) ++ copies (from + (i + 1)) (to + (i + 1)) (count - (i + 1)) ≡ all
copies_pushed from to count i parts code all inside is before =
    ap (λ codes. codes ++ copies (from + (i + 1)) (to + (i + 1)) (count - (i + 1))) (map-append code_tree parts (code ∷ []) ∙ ap (λ tree. map code_tree parts ++ tree ∷ []) is)
    ∙ copies_step from to count i (map code_tree parts) all inside before
