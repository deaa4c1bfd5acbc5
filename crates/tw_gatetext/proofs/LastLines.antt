-- Where the last line of a text begins.
use Rattle.std.proofs.Common.{◌≡◌, ◌≢◌, ◌∙◌, ap, sym, ℕ, zero, suc, ◌+◌, ◌-◌, ◌<◌, ◌≤◌, List, [], ◌∷◌, ◌++◌, length, take, codes, inl, inr, Some, None, arith, append_assoc, length-append}
use Rattle.std.proofs.Math.ListN.{get_or}
use Rattle.std.proofs.Math.Seq.{get_or-append_seam, get_or-append_right, take-append_seam}
use Rattle.std.proofs.lemmas.Bool.{cases_order}
use Rattle.std.proofs.lemmas.Bool.Decides.{Decides-eqb}
use Rattle.memchr.specs.Find.{IsLastByte, Passes, is_byte}
use Rattle.tw_gatetext.specs.Inverting.{EndsLine, HasNoNewline}

no_newline_at : (line : List ℕ) (i : ℕ) → HasNoNewline line → i < length line → get_or line i 0 ≢ 10
no_newline_at [] i none within = absurd (omega arith)
no_newline_at (b ∷ line) zero none within = none.0
no_newline_at (b ∷ line) (suc i) none within = no_newline_at line i none.1 (omega arith)

-- no newline is found in the last line
none_within : (front line : List ℕ) (k : ℕ) → HasNoNewline line → length front ≤ k → k < length (front ++ line) → Passes (is_byte 10) (front ++ line) k → ⊥
none_within front line k none low high passes =
    let at : get_or (front ++ line) k 0 ≡ 10 = (Decides-eqb (get_or (front ++ line) k 0) 10).0 passes in
    no_newline_at line (k - length front) none (omega (arith, length-append front line)) (sym (get_or-append_right front line k 0 low) ∙ at)

newline_at : (front line : List ℕ) → Passes (is_byte 10) ((front ++ codes "\n") ++ line) (length front)
newline_at front line =
    (Decides-eqb (get_or ((front ++ codes "\n") ++ line) (length front) 0) 10).1 (ap (λ (text : List ℕ). get_or text (length front) 0) (append_assoc front (codes "\n") line) ∙ get_or-append_seam front 10 line 0)

-- the text without the end of its last line
pub without_last : (text front line : List ℕ) → text ≡ front ++ (line ++ codes "\n") → take (length text - 1) text ≡ front ++ line
without_last text front line is =
    let whole : text ≡ (front ++ line) ++ codes "\n" = is ∙ sym (append_assoc front line (codes "\n")) in
    let size : length text - 1 ≡ length (front ++ line) = omega (arith, ap length whole, length-append (front ++ line) (codes "\n")) in
    ap (λ (n : ℕ). take n text) size ∙ ap (take (length (front ++ line))) whole ∙ take-append_seam (front ++ line) (codes "\n")

-- the last newline before the end of the last line
pub found_last : (hay front line : List ℕ) (place : ℕ) → EndsLine front → HasNoNewline line → hay ≡ front ++ line → IsLastByte (is_byte 10) hay (Some place) → place + 1 ≡ length front
found_last hay front line place (inl empty) none is last =
    let found = rw is at last in
    absurd (none_within front line place none (omega (arith, ap length empty)) found.0.high found.1)
found_last hay front line place (inr ended) none is last =
    let found = rw (is, ended.1) at last in
    let pre = ended.0 in
    elim (cases_order place (length pre)) [
      | inl same ↦ omega (arith, same, ap length ended.1, length-append pre (codes "\n"))
      | inr (inl less) ↦
          absurd (found.0.after (length pre) (omega (arith, less)) (omega (arith, length-append (pre ++ codes "\n") line, length-append pre (codes "\n"))) (newline_at pre line))
      | inr (inr more) ↦
          absurd (none_within (pre ++ codes "\n") line place none (omega (arith, more, length-append pre (codes "\n"))) found.0.high found.1)
    ]

-- if there is none, the text is one line
pub found_none : (hay front line : List ℕ) → EndsLine front → hay ≡ front ++ line → IsLastByte (is_byte 10) hay None → 0 ≡ length front
found_none hay front line (inl empty) is last = ap length (sym empty)
found_none hay front line (inr ended) is last =
    let found = rw (is, ended.1) at last in
    let pre = ended.0 in
    absurd (found (length pre) (omega arith) (omega (arith, length-append (pre ++ codes "\n") line, length-append pre (codes "\n"))) (newline_at pre line))
