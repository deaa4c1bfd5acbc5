-- What follows a gate file.
use Rattle.std.proofs.Common.{◌≡◌, ◌≢◌, ◌∙◌, ap, sym, ℕ, ◌==◌, ◌<◌, true, false, List, [], ◌∷◌, ◌++◌, length, drop, codes, Option, Some, None, IfSome, Bor, arith, length-drop, refl}
use Rattle.std.specs.Option.{IfNone, option_copied}
use Rattle.std.proofs.lemmas.Bool.Decides.{Decides-eqb}
use Rattle.tw_text.specs.Prefix.{after}
use Rattle.tw_text.proofs.Prefixes.{after-append, append-after}
use Rattle.tower.specs.Simulate.{HasLines, AtEnd, AtMark, AfterMark}

-- bytes of length 0
pub empty : (bytes : List ℕ) → (length bytes == 0) ≡ true → bytes ≡ []
empty [] is = refl
empty (byte ∷ bytes) is = absurd (omega (arith, (Decides-eqb (length (byte ∷ bytes)) 0).0 is))

pub some : (bytes : List ℕ) → (length bytes == 0) ≡ false → bytes ≢ []
some bytes is e = let none : (length bytes == 0) ≡ true = ap (λ (b : List ℕ). length b == 0) e in cc

none_other : {A : Type 0} (x : A) → None ≡ Some x → ⊥
none_other x e = cc

no_more : (front rest : List ℕ) → front ≡ front ++ rest → rest ≡ []
no_more [] rest e = sym e
no_more (c ∷ front) rest e = no_more front rest (cc)

-- bytes that are not empty and do not begin with `%%` do not have lines of bits
pub no_mark : (bytes : List ℕ) (result : Option (Bor (List ℕ))) → (length bytes == 0) ≡ false → after (codes "%%") bytes ≡ None → IfNone result ((lines : List ℕ) → ¬ HasLines bytes lines)
no_mark bytes (Some found) more none = tt
no_mark bytes None more none = by_lines
  where
    by_lines : (lines : List ℕ) → ¬ HasLines bytes lines
    by_lines lines (AtEnd e f) = some bytes more e
    by_lines lines (AtMark e f) = none_other [] (sym none ∙ ap (after (codes "%%")) e ∙ after-append (codes "%%") [])
    by_lines lines (AfterMark e) = none_other (10 ∷ lines) (sym none ∙ ap (after (codes "%%")) e ∙ after-append (codes "%%") (10 ∷ lines))

-- `%%` alone has the empty text as its lines
pub mark_at_end : (bytes rest : List ℕ) → after (codes "%%") bytes ≡ Some rest → (length rest == 0) ≡ true → HasLines bytes rest
mark_at_end bytes rest found end =
    AtMark (append-after (codes "%%") bytes rest found ∙ ap (λ (b : List ℕ). codes "%%" ++ b) (empty rest end)) (empty rest end)

-- lines follow a line `%%`
pub lines_after_mark : (bytes rest : List ℕ) (result : Option (Bor (List ℕ))) → after (codes "%%") bytes ≡ Some rest → option_copied result ≡ after (codes "\n") rest → IfSome result (λ lines. HasLines bytes lines.now)
lines_after_mark bytes rest None found line = tt
lines_after_mark bytes rest (Some lines) found line =
    AfterMark (append-after (codes "%%") bytes rest found ∙ ap (λ (b : List ℕ). codes "%%" ++ b) (append-after (codes "\n") rest lines.now (sym line)))

-- `%%` with more on its line does not have lines of bits
pub longer_line : (bytes rest : List ℕ) (result : Option (Bor (List ℕ))) → (length bytes == 0) ≡ false → after (codes "%%") bytes ≡ Some rest → (length rest == 0) ≡ false → option_copied result ≡ after (codes "\n") rest →
    IfNone result ((lines : List ℕ) → ¬ HasLines bytes lines)
longer_line bytes rest (Some lines) more found on line = tt
longer_line bytes rest None more found on line = by_lines
  where
    spelled : bytes ≡ codes "%%" ++ rest
    spelled = append-after (codes "%%") bytes rest found

    newline : (lines : List ℕ) → codes "%%\n" ++ lines ≡ codes "%%" ++ rest → rest ≡ codes "\n" ++ lines
    newline lines e = cc

    by_lines : (lines : List ℕ) → ¬ HasLines bytes lines
    by_lines lines (AtEnd e f) = some bytes more e
    by_lines lines (AtMark e f) = some rest on (no_more (codes "%%") rest (sym e ∙ spelled))
    by_lines lines (AfterMark e) = none_other lines (line ∙ ap (after (codes "\n")) (newline lines (sym e ∙ spelled)) ∙ after-append (codes "\n") lines)

-- bytes that are longer than a file continue after it
pub goes_on : (bytes : List ℕ) (size : ℕ) → size < length bytes → drop size bytes ≢ []
goes_on bytes size more e = omega (arith, more, ap length e, length-drop size bytes)
