-- How a text splits into pieces: in one way.
use Rattle.std.proofs.Common.{◌≡◌, ◌≢◌, ◌∙◌, ap, sym, ℕ, ◌<◌, ◌^◌, true, List, [], ◌∷◌, ◌++◌, append_assoc, length, decimal, refl, arith}
use mathlib.Core.List.{append-nil}
use Rattle.std.specs.Char.{is_ascii_digit}
use Rattle.std.specs.Str.{all_ascii_digits}
use Rattle.std.proofs.lemmas.Str.Parse.{numerals_by_value, tells_all_ascii_digits}
use Rattle.std.proofs.lemmas.Fmt.{digits_decimal, decimal_injective}
use Rattle.unicode_ident.specs.Ident.{is_xid_continue}
use Rattle.tw_text.specs.declared.place.Pos.{Pos}
use Rattle.tw_text.specs.Places.{after_chars}
use Rattle.tw_lex.specs.Tokens.{Lexed, Piece, Blank, Comment, Letters, Digits, Operator, piece_text, piece_tokens, is_in_line, Stands, Splits, HasTokens, StopsAt}
use Rattle.tw_lex.specs.Symbols.{symbol_text}
use Rattle.tw_lex.proofs.SymbolTexts.{one_symbol}
use Rattle.tw_lex.proofs.Runs.{same_run}
use Rattle.tw_lex.proofs.Classes.{sort, class, heads, ends-digits}

-- prefixes of one length
same_prefix : (xs ys mid nid : List ℕ) → length xs ≡ length ys → xs ++ mid ≡ ys ++ nid → (xs ≡ ys) × (mid ≡ nid)
same_prefix [] [] mid nid n e = (refl, e)
same_prefix [] (y ∷ ys) mid nid n e = absurd (omega arith)
same_prefix (x ∷ xs) [] mid nid n e = absurd (omega arith)
same_prefix (x ∷ xs) (y ∷ ys) mid nid n e =
    let tails : xs ++ mid ≡ ys ++ nid = cc in
    let rest = same_prefix xs ys mid nid (omega arith) tails in
    let head : x ≡ y = cc in
    (cc, rest.1)

all_digits : (value : ℕ) → value < 2 ^ 64 → all_ascii_digits (decimal value) ≡ true
all_digits value small = digits_decimal (numerals_by_value _ tells_all_ascii_digits) value small

-- two pieces of one sort at one place are the same
same_sort : (p q : Piece) (mid nid : List ℕ) → sort p ≡ sort q → Stands p mid → Stands q nid → piece_text p ++ mid ≡ piece_text q ++ nid → (p ≡ q) × (mid ≡ nid)
same_sort (Blank c) (Blank d) mid nid same s t e = (cc, cc)
same_sort (Comment cs) (Comment ds) mid nid same s t e =
    let tails : cs ++ mid ≡ ds ++ nid = cc in
    let both = same_run is_in_line cs ds mid nid s.0 t.0 s.1 t.1 tails in
    (ap Comment both.0, both.1)
same_sort (Letters c cs) (Letters d ds) mid nid same s t e =
    let tails : cs ++ mid ≡ ds ++ nid = cc in
    let both = same_run is_xid_continue cs ds mid nid s.1 t.1 s.2 t.2 tails in
    (cc, both.1)
same_sort (Digits v) (Digits w) mid nid same s t e =
    let both = same_run is_ascii_digit (decimal v) (decimal w) mid nid (all_digits v s.0) (all_digits w t.0) (ends-digits mid s.1) (ends-digits nid t.1) e in
    (ap Digits (decimal_injective v w s.0 t.0 both.0), both.1)
same_sort (Operator symbol) (Operator other) mid nid same s t e =
    let long = s.1 other nid e in
    let long' = t.1 symbol mid (sym e) in
    let both = same_prefix (symbol_text symbol) (symbol_text other) mid nid (omega arith) e in
    (ap Operator (one_symbol symbol other both.0), both.1)
same_sort p q mid nid same s t e = absurd (omega arith)

-- two pieces at one place are the same
one_piece : (p q : Piece) (mid nid : List ℕ) → Stands p mid → Stands q nid → piece_text p ++ mid ≡ piece_text q ++ nid → (p ≡ q) × (mid ≡ nid)
one_piece p q mid nid s t e =
    let f = heads p mid s in
    let g = heads q nid t in
    let texts : f.c ∷ (f.cs ++ mid) ≡ g.c ∷ (g.cs ++ nid) = ap (λ x. x ++ mid) (sym f.text) ∙ e ∙ ap (λ x. x ++ nid) g.text in
    let first : f.c ≡ g.c = cc in
    same_sort p q mid nid (sym f.sorted ∙ ap class first ∙ g.sorted) s t e

not_nothing : (p : Piece) (mid : List ℕ) → Stands p mid → [] ≡ piece_text p ++ mid → ⊥
not_nothing p mid s e =
    let f = heads p mid s in
    let empty : [] ≡ f.c ∷ (f.cs ++ mid) = e ∙ ap (λ x. x ++ mid) f.text in cc

-- what a whole text has after the pieces at its beginning
pub record AfterPieces (toks other : List Lexed) (rest : List ℕ) (at end : Pos) : Type 0 where
  pub pieces : List Piece
  pub more : List Lexed
  pub all : other ≡ toks ++ more
  pub splits : Splits pieces rest at more [] end

pub after_pieces : (ps qs : List Piece) (cs : List ℕ) (at : Pos) (toks other : List Lexed) (rest : List ℕ) (stop end : Pos) → Splits ps cs at toks rest stop → Splits qs cs at other [] end → AfterPieces toks other rest stop end
after_pieces [] qs cs at toks other rest stop end s t =
    record { pieces = qs; more = other; all = rw s.1 refl; splits = rw (← s.0, ← s.2) t }
after_pieces (p ∷ ps) [] cs at toks other rest stop end s t = absurd (not_nothing p s.0 s.3 (sym t.0 ∙ s.2))
after_pieces (p ∷ ps) (q ∷ qs) cs at toks other rest stop end s t =
    let one = one_piece p q s.0 t.0 s.3 t.3 (sym s.2 ∙ t.2) in
    let t' : Splits qs s.0 (after_chars at (piece_text p)) t.1 [] end = rw (one.0, one.1) t.5 in
    let b = after_pieces ps qs s.0 (after_chars at (piece_text p)) s.1 t.1 rest stop end s.5 t' in
    record {
      pieces = b.pieces;
      more = b.more;
      all = t.4 ∙ ap (λ x. piece_tokens x at ++ t.1) (sym one.0) ∙ ap (λ x. piece_tokens p at ++ x) b.all ∙ sym (append_assoc (piece_tokens p at) s.1 b.more) ∙ ap (λ x. x ++ b.more) (sym s.4);
      splits = b.splits;
    }

nothing_left : (ps : List Piece) (at end : Pos) (more : List Lexed) → Splits ps [] at more [] end → more ≡ []
nothing_left [] at end more s = s.1
nothing_left (p ∷ ps) at end more s = absurd (not_nothing p s.0 s.3 s.2)

-- a text has its tokens and no others
pub one_reading : (cs : List ℕ) (at : Pos) (toks other : List Lexed) → HasTokens cs at toks → HasTokens cs at other → other ≡ toks
one_reading cs at toks other h k =
    let b = after_pieces h.pieces k.pieces cs at toks other [] h.end k.end h.splits k.splits in
    b.all ∙ ap (λ x. toks ++ x) (nothing_left b.pieces h.end k.end b.more b.splits) ∙ append-nil toks

one_more : (ps : List Piece) (rest : List ℕ) (at end : Pos) (more : List Lexed) → Splits ps rest at more [] end → rest ≢ [] → ((piece : Piece) (mid : List ℕ) → rest ≡ piece_text piece ++ mid → Stands piece mid → ⊥) → ⊥
one_more [] rest at end more s some none = some s.0
one_more (p ∷ ps) rest at end more s some none = none p s.0 s.2 s.3

-- and where its pieces stop it has none
pub no_reading : (cs : List ℕ) (at stop : Pos) (toks : List Lexed) → StopsAt cs at stop → HasTokens cs at toks → ⊥
no_reading cs at stop toks s h =
    let b = after_pieces s.pieces h.pieces cs at s.toks toks s.rest stop h.end s.splits h.splits in
    one_more b.pieces s.rest stop h.end b.more b.splits s.some_left s.none_stands

one_stop_from : (ps qs : List Piece) (cs : List ℕ) (at : Pos) (toks other : List Lexed) (rest tail : List ℕ) (stop end : Pos) → Splits ps cs at toks rest stop → Splits qs cs at other tail end
    → ((piece : Piece) (mid : List ℕ) → rest ≡ piece_text piece ++ mid → Stands piece mid → ⊥) → ((piece : Piece) (mid : List ℕ) → tail ≡ piece_text piece ++ mid → Stands piece mid → ⊥) → stop ≡ end
one_stop_from [] [] cs at toks other rest tail stop end s t none none' = sym s.2 ∙ t.2
one_stop_from [] (q ∷ qs) cs at toks other rest tail stop end s t none none' = absurd (none q t.0 (sym s.0 ∙ t.2) t.3)
one_stop_from (p ∷ ps) [] cs at toks other rest tail stop end s t none none' = absurd (none' p s.0 (sym t.0 ∙ s.2) s.3)
one_stop_from (p ∷ ps) (q ∷ qs) cs at toks other rest tail stop end s t none none' =
    let one = one_piece p q s.0 t.0 s.3 t.3 (sym s.2 ∙ t.2) in
    let t' : Splits qs s.0 (after_chars at (piece_text p)) t.1 tail end = rw (one.0, one.1) t.5 in
    one_stop_from ps qs s.0 (after_chars at (piece_text p)) s.1 t.1 rest tail stop end s.5 t' none none'

-- its pieces stop at one place
pub one_stop : (cs : List ℕ) (at stop end : Pos) → StopsAt cs at stop → StopsAt cs at end → stop ≡ end
one_stop cs at stop end s t = one_stop_from s.pieces t.pieces cs at s.toks t.toks s.rest t.rest stop end s.splits t.splits s.none_stands t.none_stands
