-- The line of the inverse of a gate, from the line of the gate.
use Rattle.std.proofs.Common.{◌≡◌, ◌∙◌, ap, sym, ℕ, nat_eq, false, List, [], ◌∷◌, ◌++◌, decimal, codes, Some, None, refl}
use Rattle.std.proofs.lemmas.Bool.Decides.{Decides-eqb}
use Rattle.std.proofs.lemmas.List.{append_cancel_left}
use Rattle.tw_text.specs.Prefix.{after}
use Rattle.tw_text.proofs.Prefixes.{append-after}
use Rattle.tw_gate.specs.Gates.{PlainGate, X, H, T, Tdg, inverse_gate}
use Rattle.tw_gatetext.specs.Text.{line}
use Rattle.tw_gatetext.proofs.DigitRuns.{not_after}

heads : (a b : ℕ) (xs ys : List ℕ) → nat_eq a b ≡ false → a ∷ xs ≡ b ∷ ys → ⊥
heads a b xs ys test e =
    let same : a ≡ b = cc in
    let true_too = (Decides-eqb a b).1 same in
    cc

t_line : (gate : PlainGate) (rest : List ℕ) → line gate ≡ codes "t " ++ rest → codes "tdg " ++ rest ≡ line (inverse_gate gate)
t_line (X [] target) rest e = absurd (heads _ _ _ _ refl e)
t_line (X (a ∷ []) target) rest e = absurd (heads _ _ _ _ refl e)
t_line (X (a ∷ b ∷ []) target) rest e = absurd (heads _ _ _ _ refl e)
t_line (X (a ∷ b ∷ c ∷ controls) target) rest e = absurd (heads _ _ _ _ refl e)
t_line (H wire) rest e = absurd (heads _ _ _ _ refl e)
t_line (T wire) rest e = ap (λ (text : List ℕ). codes "tdg " ++ text) (append_cancel_left (codes "t ") rest ((decimal wire ++ []) ++ codes "\n") (sym e))
t_line (Tdg wire) rest e = absurd (heads _ _ _ _ refl (append_cancel_left (codes "t") _ _ e))

tdg_line : (gate : PlainGate) (rest : List ℕ) → line gate ≡ codes "tdg " ++ rest → codes "t " ++ rest ≡ line (inverse_gate gate)
tdg_line (X [] target) rest e = absurd (heads _ _ _ _ refl e)
tdg_line (X (a ∷ []) target) rest e = absurd (heads _ _ _ _ refl e)
tdg_line (X (a ∷ b ∷ []) target) rest e = absurd (heads _ _ _ _ refl e)
tdg_line (X (a ∷ b ∷ c ∷ controls) target) rest e = absurd (heads _ _ _ _ refl e)
tdg_line (H wire) rest e = absurd (heads _ _ _ _ refl e)
tdg_line (T wire) rest e = absurd (heads _ _ _ _ refl (append_cancel_left (codes "t") _ _ e))
tdg_line (Tdg wire) rest e = ap (λ (text : List ℕ). codes "t " ++ text) (append_cancel_left (codes "tdg ") rest ((decimal wire ++ []) ++ codes "\n") (sym e))

-- the line of a T gate
pub after_t : (gate : PlainGate) (text rest : List ℕ) → text ≡ line gate → Some rest ≡ after (codes "t ") text → codes "tdg " ++ rest ≡ line (inverse_gate gate)
after_t gate text rest is found = t_line gate rest (sym is ∙ append-after (codes "t ") text rest (sym found))

-- the line of an inverse T gate
pub after_tdg : (gate : PlainGate) (text rest : List ℕ) → text ≡ line gate → Some rest ≡ after (codes "tdg ") text → codes "t " ++ rest ≡ line (inverse_gate gate)
after_tdg gate text rest is found = tdg_line gate rest (sym is ∙ append-after (codes "tdg ") text rest (sym found))

-- the line of another gate, which is its own inverse
pub after_neither : (gate : PlainGate) (text : List ℕ) → text ≡ line gate → None ≡ after (codes "t ") text → None ≡ after (codes "tdg ") text → text ≡ line (inverse_gate gate)
after_neither (X controls target) text is no_t no_tdg = is
after_neither (H wire) text is no_t no_tdg = is
after_neither (T wire) text is no_t no_tdg = absurd (not_after (codes "t ") text _ no_t is)
after_neither (Tdg wire) text is no_t no_tdg = absurd (not_after (codes "tdg ") text _ no_tdg is)
