-- The tree of a slice of codes, and its parts.
use denote.Bor.{Bor}
use mathlib.Core.Former.{Count}
use Rattle.std.proofs.Common.{◌≡◌, ◌∙◌, ap, sym, refl, ℕ, ◌+◌, ◌<◌, Bool, true, false, List, [], ◌∷◌, length, map, ◌++◌, take, drop, get_or, append_assoc, ◌≤◌, arith}
use Rattle.std.proofs.lemmas.List.{map_more, drop_more, append-nil}
use Rattle.tw_code.specs.declared.code.Code.{Code, Seq, Seq', Row_of-Code, end_of-Code, more_of-Code, items-the_row-Code, items_hidden-the_row-Code-0}
use Rattle.tw_code.specs.Trees.{CodeTree, Then, sequence, code_tree, row_tree}
use Rattle.tw_code.specs.Meaning.{mean}
use Rattle.tw_code.specs.Emission.{emitted}

row_is : (n : _) (row : Row_of-Code n) → row_tree row ≡ sequence (map code_tree (items-the_row-Code n row))
row_is n end_of-Code = refl
row_is n (more_of-Code code rest) = ap (Then (code_tree code)) (row_is _ rest)

abbrev row_of : Code → (n : Count) × Row_of-Code n
row_of (Seq' p shape row) = (_, row)
row_of _ = (_, end_of-Code)

-- the tree of a sequence is the sequence of the trees of its parts
pub tree_of_seq : (parts : Bor (List Code)) → code_tree (Seq parts) ≡ sequence (map code_tree parts.now)
tree_of_seq parts =
    let row = row_of (Seq parts) in
    row_is row.0 row.1 ∙ ap (λ codes. sequence (map code_tree codes)) (items_hidden-the_row-Code-0 parts.now)

-- the tree of a code that code has matched as a sequence
pub seq_is : (code : Code) (parts : Bor (List Code)) → code ≡ Seq parts → code_tree code ≡ sequence (map code_tree parts.now)
seq_is code parts is = ap code_tree is ∙ tree_of_seq parts

mean-snoc : (codes : List CodeTree) (last : CodeTree) (bits : List Bool) → mean (sequence (codes ++ last ∷ [])) true bits ≡ mean (sequence codes) true (mean last true bits)
mean-snoc [] last bits = refl
mean-snoc (code ∷ codes) last bits = ap (mean code true) (mean-snoc codes last bits)

-- the last part backward, then those before it, is the sequence backward
pub mean_less : (parts : List Code) (i : ℕ) (d : Code) (bits : List Bool) → i < length parts
    → mean (sequence (map code_tree (take i parts))) true (mean (code_tree (get_or parts i d)) true bits) ≡ mean (sequence (map code_tree (take (i + 1) parts))) true bits
mean_less parts i d bits inside =
    sym (ap (λ codes. mean (sequence codes) true bits) (map_more code_tree parts i d inside) ∙ mean-snoc (map code_tree (take i parts)) (code_tree (get_or parts i d)) bits)

-- the gates of the parts from a place on, forward: those of the part at the place, and then the others
pub emitted_next : (parts : List Code) (i : ℕ) (code : Code) (present : List ℕ) → code ≡ get_or parts i code → i < length parts
    → emitted (sequence (map code_tree (drop i parts))) false present ≡ emitted (code_tree code) false present ++ emitted (sequence (map code_tree (drop (i + 1) parts))) false present
emitted_next parts i code present is inside =
    ap (λ codes. emitted (sequence (map code_tree codes)) false present) (drop_more parts i code inside)
    ∙ ap (λ x. emitted (code_tree x) false present ++ emitted (sequence (map code_tree (drop (i + 1) parts))) false present) (sym is)

emitted-snoc : (codes : List CodeTree) (last : CodeTree) (present : List ℕ) → emitted (sequence (codes ++ last ∷ [])) true present ≡ emitted last true present ++ emitted (sequence codes) true present
emitted-snoc [] last present = sym (append-nil (emitted last true present))
emitted-snoc (code ∷ codes) last present =
    ap (λ gates. gates ++ emitted code true present) (emitted-snoc codes last present) ∙ append_assoc (emitted last true present) (emitted (sequence codes) true present) (emitted code true present)

-- the gates of the parts up to a place, backward: those of the last part, and then those of the parts before it
pub emitted_last : (parts : List Code) (i j : ℕ) (code : Code) (present : List ℕ) → code ≡ get_or parts i code → j ≡ i + 1 → j ≤ length parts
    → emitted (sequence (map code_tree (take j parts))) true present ≡ emitted (code_tree code) true present ++ emitted (sequence (map code_tree (take i parts))) true present
emitted_last parts i j code present is e inside =
    ap (λ n. emitted (sequence (map code_tree (take n parts))) true present) e
    ∙ ap (λ codes. emitted (sequence codes) true present) (map_more code_tree parts i code (omega arith))
    ∙ emitted-snoc (map code_tree (take i parts)) (code_tree (get_or parts i code)) present
    ∙ ap (λ x. emitted (code_tree x) true present ++ emitted (sequence (map code_tree (take i parts))) true present) (sym is)
