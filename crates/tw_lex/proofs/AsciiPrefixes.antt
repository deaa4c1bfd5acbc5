-- Texts that begin with an ASCII character, or have one at a place.
use Rattle.std.proofs.Common.{◌≡◌, ◌∙◌, ap, sym, ℕ, ◌<◌, ◌≤◌, ◌==◌, ◌+◌, Bool, true, false, List, [], ◌∷◌, ◌++◌, length, get_or, drop, arith}
use Rattle.std.specs.Str.{chars, IsUtf8, IsCharBoundary, encode_utf8_all}
use Rattle.std.proofs.lemmas.Bool.Decides.{Decides-eqb}
use Rattle.std.proofs.lemmas.List.{drop_more}
use Rattle.std.proofs.lemmas.Str.{chars-nil, encode_ascii, encodes-chars, IsUtf8-drop}
use Rattle.std.proofs.Math.ListN.{drop_of_length-le}
use Rattle.tw_text.specs.Suffixes.{Begins}
use Rattle.tw_text.proofs.Suffixes.{begins}
use Rattle.tw_lex.specs.Symbols.{starts_with}
use Rattle.tw_lex.specs.Scans.{Runs, RunsTo}

pub nothing : (text : List ℕ) → (length text == 0) ≡ true → chars text ≡ []
nothing [] none = chars-nil
nothing (b ∷ text) none = let e = (Decides-eqb (length (b ∷ text)) 0).0 none in absurd (omega arith)

pub something : (text : List ℕ) → (length text == 0) ≡ false → 0 < length text
something [] none = absurd (cc)
something (b ∷ text) none = omega arith

pub not_nothing : (text : List ℕ) → IsUtf8 text → 0 < length text → chars text ≡ [] → ⊥
not_nothing text utf8 some none =
    let empty : text ≡ [] = sym (encodes-chars text utf8) ∙ ap encode_utf8_all none in omega (arith, some, ap length empty)

pub ascii_begins : (text rest : List ℕ) (c : ℕ) → IsUtf8 text → 0 < length text → c ≡ get_or text 0 0 → c < 128 → rest ≡ drop 1 text → Begins text c rest
ascii_begins [] rest c utf8 some is small after = absurd (omega arith)
ascii_begins (b ∷ text) rest c utf8 some is small after =
    let bytes : b ∷ text ≡ c ∷ rest = cc in
    begins (b ∷ text) rest c utf8 (bytes ∙ ap (λ x. x ++ rest) (sym (encode_ascii c small)))

pub ascii_at : (text : List ℕ) (i : ℕ) → IsUtf8 text → IsCharBoundary text i → i < length text → get_or text i 0 < 128 → Begins (drop i text) (get_or text i 0) (drop (i + 1) text)
ascii_at text i utf8 at more small =
    begins (drop i text) (drop (i + 1) text) (get_or text i 0) (IsUtf8-drop text i utf8 at) (drop_more text i 0 more ∙ ap (λ x. x ++ drop (i + 1) text) (sym (encode_ascii (get_or text i 0) small)))

-- a run ends with the text, and before a character that does not belong to it
pub run_at_end : (test : ℕ → Bool) (text : List ℕ) (count : ℕ) → Runs test text (drop count text) count → length text ≤ count → RunsTo test text (drop count text) count
run_at_end test text count r end =
    let none : drop count text ≡ [] = drop_of_length-le text end in
    record { runs = r; ends = ap (λ rest. starts_with test (chars rest)) none ∙ ap (starts_with test) (chars-nil) }

pub run_before : (test : ℕ → Bool) (text rest : List ℕ) (c count : ℕ) → Runs test text (drop count text) count → Begins (drop count text) c rest → test c ≡ false → RunsTo test text (drop count text) count
run_before test text rest c count r b other = record { runs = r; ends = ap (starts_with test) b.spelled ∙ other }
