-- Code without pointers.
use Rattle.std.specs.Prelude.{◌≡◌, ℕ, List, [], ◌∷◌, refl}
use Rattle.tw_code.specs.declared.code.Code.{Code, Flip, Seq', If', With', Conj', Row_of-Code, end_of-Code, more_of-Code}

-- a code: a sequence (empty, or one part and then the rest), an X gate, a body under a control, or a setup, the work and the
-- setup undone
pub data CodeTree : Type 0 where
  Nothing : CodeTree
  Then : (first rest : CodeTree) → CodeTree
  FlipCode : (controls : List ℕ) (target : ℕ) → CodeTree
  IfCode : (wire : ℕ) (body : CodeTree) → CodeTree
  WithCode : (setup work : CodeTree) → CodeTree
  ConjCode : (setup work : CodeTree) → CodeTree

-- these codes, in order
abbrev pub sequence : List CodeTree → CodeTree
sequence [] = Nothing
sequence (code ∷ codes) = Then code (sequence codes)

abbrev mutual
  -- the tree of a code
  pub code_tree : Code → CodeTree
  code_tree (Flip controls target) = FlipCode controls.now target
  code_tree (Seq' p shape row) = row_tree row
  code_tree (If' wire p body) = IfCode wire (code_tree body)
  code_tree (With' p setup q work) = WithCode (code_tree setup) (code_tree work)
  code_tree (Conj' p setup q work) = ConjCode (code_tree setup) (code_tree work)

  -- the tree of the parts of a sequence
  pub row_tree : {n : _} → Row_of-Code n → CodeTree
  row_tree end_of-Code = Nothing
  row_tree (more_of-Code code rest) = Then (code_tree code) (row_tree rest)

-- this sequence, and then one more part
abbrev pub followed : CodeTree → CodeTree → CodeTree
followed Nothing last = Then last Nothing
followed (Then first rest) last = Then first (followed rest last)
followed code last = Then code (Then last Nothing)

-- the reverse of a code: parts of a sequence in reverse order, and each of them reversed
abbrev pub back : CodeTree → CodeTree
back Nothing = Nothing
back (Then first rest) = followed (back rest) (back first)
back (FlipCode controls target) = FlipCode controls target
back (IfCode wire body) = IfCode wire (back body)
back (WithCode setup work) = WithCode setup (back work)
back (ConjCode setup work) = ConjCode setup (back work)

pub back-two : back (sequence (FlipCode [] 0 ∷ FlipCode [] 1 ∷ FlipCode [] 2 ∷ [])) ≡ sequence (FlipCode [] 2 ∷ FlipCode [] 1 ∷ FlipCode [] 0 ∷ [])
back-two = refl

pub back-work : back (WithCode (sequence (FlipCode [] 0 ∷ FlipCode (0 ∷ []) 1 ∷ [])) (sequence (FlipCode [] 2 ∷ FlipCode [] 3 ∷ [])))
    ≡ WithCode (sequence (FlipCode [] 0 ∷ FlipCode (0 ∷ []) 1 ∷ [])) (sequence (FlipCode [] 3 ∷ FlipCode [] 2 ∷ []))
back-work = refl
