-- Codes for worked examples.
use Rattle.std.specs.Prelude.{[], ◌∷◌}
use Rattle.tw_code.specs.Trees.{CodeTree, FlipCode, IfCode, WithCode, ConjCode, sequence}

-- The conjunction of wires 3 and 4 on wire 5, if wire 2 is 1. Wire 6 is a copy of wire 2, and wires 7 and 8 are copies of wires 3
-- and 4.
abbrev pub conjunction : CodeTree
conjunction =
    ConjCode (FlipCode (2 ∷ []) 6)
    (sequence (IfCode 6 (ConjCode (sequence (FlipCode (3 ∷ []) 7 ∷ FlipCode (4 ∷ []) 8 ∷ [])) (FlipCode (7 ∷ 8 ∷ []) 5)) ∷ []))

-- wire 0 goes to wire 1, and then wire 1 to wire 2
abbrev pub chain : CodeTree
chain = sequence (FlipCode (0 ∷ []) 1 ∷ FlipCode (1 ∷ []) 2 ∷ [])

-- under wire 1: wire 2 goes to wire 3, wire 3 to wire 0, and the first is undone
abbrev pub around : CodeTree
around = IfCode 1 (WithCode (FlipCode (2 ∷ []) 3) (FlipCode (3 ∷ []) 0))

-- under wires 1 and 2 nothing is done between two flips of wire 3, which need no controls
abbrev pub idle : CodeTree
idle = IfCode 1 (IfCode 2 (ConjCode (FlipCode [] 3) (sequence [])))
