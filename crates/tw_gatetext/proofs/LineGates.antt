-- Words and numbers that are those of no gate.
use Rattle.std.proofs.Common.{◌≡◌, ◌∙◌, sym, ℕ, ◌≤◌, false, List, [], ◌∷◌, ◌++◌, length, codes, refl, arith}
use Rattle.std.specs.Str.{bytes_eq}
use Rattle.std.proofs.lemmas.Slice.Eq.{bytes_eq-Decides}
use Rattle.tw_gate.specs.Gates.{PlainGate, X}
use Rattle.tw_gatetext.specs.LineWords.{letters, numbers_of}

-- no gate has this word and these numbers
abbrev pub IsNoGate : List ℕ → List ℕ → Type 0
IsNoGate word numbers = (gate : PlainGate) → word ≡ letters gate → numbers ≡ numbers_of gate → ⊥

-- the numbers are not the wires of an X gate of this number of controls
abbrev pub IsNoX : ℕ → List ℕ → Type 0
IsNoX controls numbers = (others : List ℕ) (target : ℕ) → length others ≡ controls → numbers ≡ others ++ target ∷ [] → ⊥

other : (word mine its : List ℕ) → word ≡ mine → bytes_eq mine its ≡ false → word ≡ its → ⊥
other word mine its is apart is_its =
    let equal = (bytes_eq-Decides mine its).1 (sym is ∙ is_its) in
    cc

pub no_x : (word numbers : List ℕ) → word ≡ codes "x" → IsNoX 0 numbers → IsNoGate word numbers
no_x word numbers is none (X [] target) w e = none [] target refl e
no_x word numbers is none (X (a ∷ []) target) w e = other word (codes "x") _ is refl w
no_x word numbers is none (X (a ∷ b ∷ []) target) w e = other word (codes "x") _ is refl w
no_x word numbers is none (X (a ∷ b ∷ c ∷ rest) target) w e = other word (codes "x") _ is refl w
no_x word numbers is none gate w e = other word (codes "x") _ is refl w

pub no_cx : (word numbers : List ℕ) → word ≡ codes "cx" → IsNoX 1 numbers → IsNoGate word numbers
no_cx word numbers is none (X (a ∷ []) target) w e = none (a ∷ []) target refl e
no_cx word numbers is none (X (a ∷ b ∷ []) target) w e = other word (codes "cx") _ is refl w
no_cx word numbers is none (X (a ∷ b ∷ c ∷ rest) target) w e = other word (codes "cx") _ is refl w
no_cx word numbers is none gate w e = other word (codes "cx") _ is refl w

pub no_ccx : (word numbers : List ℕ) → word ≡ codes "ccx" → IsNoX 2 numbers → IsNoGate word numbers
no_ccx word numbers is none (X (a ∷ []) target) w e = other word (codes "ccx") _ is refl w
no_ccx word numbers is none (X (a ∷ b ∷ []) target) w e = none (a ∷ b ∷ []) target refl e
no_ccx word numbers is none (X (a ∷ b ∷ c ∷ rest) target) w e = other word (codes "ccx") _ is refl w
no_ccx word numbers is none gate w e = other word (codes "ccx") _ is refl w

pub no_mcx : (word numbers : List ℕ) → word ≡ codes "mcx" → ((others : List ℕ) (target : ℕ) → 3 ≤ length others → numbers ≡ length others ∷ (others ++ target ∷ []) → ⊥) → IsNoGate word numbers
no_mcx word numbers is none (X (a ∷ b ∷ c ∷ rest) target) w e = none (a ∷ b ∷ c ∷ rest) target (omega arith) e
no_mcx word numbers is none (X (a ∷ b ∷ []) target) w e = other word (codes "mcx") _ is refl w
no_mcx word numbers is none (X (a ∷ []) target) w e = other word (codes "mcx") _ is refl w
no_mcx word numbers is none gate w e = other word (codes "mcx") _ is refl w
