-- The code of each kind of expression. Lists run from bit 0 up.
use Rattle.std.specs.Prelude.{◌≡◌, ℕ, zero, suc, ◌+◌, Bool, true, false, List, [], ◌∷◌, refl}
use Rattle.tw_code.specs.Trees.{CodeTree, FlipCode, ConjCode, sequence}
use Rattle.tw_arith.specs.Operands.{PlainOperand, Wires, Fixed}

-- each wire of a region is a control of the wire at the same place of another region
abbrev pub copies : ℕ → ℕ → ℕ → List CodeTree
copies from to zero = []
copies from to (suc count) = FlipCode (from ∷ []) to ∷ copies (suc from) (suc to) count

-- the wires of a region at the places of the bits that are 1 are flipped
abbrev pub flips : ℕ → List Bool → List CodeTree
flips to [] = []
flips to (true ∷ bits) = FlipCode [] to ∷ flips (suc to) bits
flips to (false ∷ bits) = flips (suc to) bits

-- an operand is loaded into a region
abbrev pub loads : PlainOperand → ℕ → ℕ → List CodeTree
loads (Wires from) to width = copies from to width
loads (Fixed bits) to width = flips to bits

abbrev pub copy_tree : PlainOperand → ℕ → ℕ → CodeTree
copy_tree x out width = sequence (loads x out width)

-- the left half, and after it the right one
abbrev pub pair_tree : PlainOperand → PlainOperand → ℕ → ℕ → ℕ → CodeTree
pair_tree x y out left right = sequence (copy_tree x out left ∷ copy_tree y (out + left) right ∷ [])

-- Two operands of this width are loaded into the first wires of the scratch, and the core works on the scratch. The end changes the
-- result, and the core and the loads are undone.
abbrev pub operation : PlainOperand → PlainOperand → ℕ → ℕ → List CodeTree → CodeTree → CodeTree
operation x y scratch width core end = ConjCode (sequence (copy_tree x scratch width ∷ copy_tree y (scratch + width) width ∷ core)) end

abbrev pub and_tree : PlainOperand → PlainOperand → ℕ → ℕ → CodeTree
and_tree x y out scratch = operation x y scratch 1 [] (FlipCode (scratch ∷ (scratch + 1) ∷ []) out)

pub copy_tree-wires : copy_tree (Wires 2) 5 2 ≡ sequence (FlipCode (2 ∷ []) 5 ∷ FlipCode (3 ∷ []) 6 ∷ [])
copy_tree-wires = refl

pub copy_tree-fixed : copy_tree (Fixed (true ∷ false ∷ true ∷ [])) 5 3 ≡ sequence (FlipCode [] 5 ∷ FlipCode [] 7 ∷ [])
copy_tree-fixed = refl

pub pair_tree-both : pair_tree (Fixed (false ∷ true ∷ [])) (Wires 0) 4 2 1 ≡ sequence (sequence (FlipCode [] 5 ∷ []) ∷ sequence (FlipCode (0 ∷ []) 6 ∷ []) ∷ [])
pair_tree-both = refl

pub and_tree-wires : and_tree (Wires 3) (Wires 4) 5 7 ≡ ConjCode (sequence (sequence (FlipCode (3 ∷ []) 7 ∷ []) ∷ sequence (FlipCode (4 ∷ []) 8 ∷ []) ∷ [])) (FlipCode (7 ∷ 8 ∷ []) 5)
and_tree-wires = refl
