-- What a code does to bits.
use Rattle.std.specs.Prelude.{◌≡◌, Bool, true, false, if◌then◌else◌, List, [], ◌∷◌, refl}
use Rattle.tw_bits.specs.Lists.{bit_at}
use Rattle.tw_gate.specs.Gates.{X, act_gate}
use Rattle.tw_code.specs.Trees.{CodeTree, Nothing, Then, FlipCode, IfCode, WithCode, ConjCode, back}
use Rattle.tw_code.specs.Examples.{conjunction, chain, around}

-- what a code does to bits, forward or, if the Bool is true, backward
abbrev pub mean : CodeTree → Bool → List Bool → List Bool
mean Nothing backward bits = bits
mean (Then first rest) false bits = mean rest false (mean first false bits)
mean (Then first rest) true bits = mean first true (mean rest true bits)
mean (FlipCode controls target) backward bits = act_gate (X controls target) bits
mean (IfCode wire body) backward bits = if bit_at bits wire then mean body backward bits else bits
mean (WithCode setup work) backward bits = mean setup true (mean work backward (mean setup false bits))
mean (ConjCode setup work) backward bits = mean setup true (mean work backward (mean setup false bits))

-- wires 2, 3 and 4 are 1: wire 5 is flipped, and the copies on wires 6, 7 and 8 are undone
pub mean-conjunction : mean conjunction false (false ∷ false ∷ true ∷ true ∷ true ∷ false ∷ false ∷ false ∷ false ∷ [])
    ≡ false ∷ false ∷ true ∷ true ∷ true ∷ true ∷ false ∷ false ∷ false ∷ []
mean-conjunction = refl

-- wire 2 is 0: nothing changes
pub mean-conjunction_off : mean conjunction false (false ∷ false ∷ false ∷ true ∷ true ∷ false ∷ false ∷ false ∷ false ∷ [])
    ≡ false ∷ false ∷ false ∷ true ∷ true ∷ false ∷ false ∷ false ∷ false ∷ []
mean-conjunction_off = refl

pub mean-chain : mean chain false (true ∷ false ∷ false ∷ []) ≡ true ∷ true ∷ true ∷ []
mean-chain = refl

pub mean-chain_backward : mean chain true (true ∷ true ∷ true ∷ []) ≡ true ∷ false ∷ false ∷ []
mean-chain_backward = refl

pub mean-back_chain : mean (back chain) false (true ∷ true ∷ true ∷ []) ≡ true ∷ false ∷ false ∷ []
mean-back_chain = refl

pub mean-around : mean around false (false ∷ true ∷ true ∷ false ∷ []) ≡ true ∷ true ∷ true ∷ false ∷ []
mean-around = refl

-- a wire past the end is 0
pub mean-past : mean (IfCode 3 (FlipCode [] 0)) false (true ∷ false ∷ []) ≡ true ∷ false ∷ []
mean-past = refl
