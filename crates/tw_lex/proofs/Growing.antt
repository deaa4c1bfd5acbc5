-- Pieces after the pieces of a text.
use Rattle.std.proofs.Common.{◌≡◌, ◌≢◌, ◌∙◌, ap, sym, subst, ℕ, ◌+◌, ◌-◌, ◌<◌, ◌==◌, true, take, List, [], ◌∷◌, ◌++◌, append_assoc, length, codes, Option, refl, arith}
use mathlib.Core.List.{append-nil}
use Rattle.std.specs.List.{list_all, AllByRecursion}
use Rattle.std.specs.Str.{chars, IsUtf8}
use Rattle.std.proofs.lemmas.Bool.{and_parts}
use Rattle.std.proofs.lemmas.Bool.Decides.{Decides-eqb}
use Rattle.std.proofs.lemmas.List.{append_cancel_right}
use Rattle.std.proofs.lemmas.Str.{IsUtf8-take}
use Rattle.tw_text.proofs.Suffixes.{boundary, spelled_apart}
use Rattle.tw_text.specs.declared.place.Pos.{Pos}
use Rattle.tw_text.specs.Places.{after_chars}
use Rattle.tw_text.specs.Suffixes.{Begins, Follows}
use Rattle.tw_lex.specs.declared.token.TokenKind.{TokenKind}
use Rattle.tw_lex.specs.Tokens.{Lexeme, Lexed, Piece, Blank, Comment, piece_text, piece_tokens, token_of, is_blank, is_in_line, Ends, Stands, Splits, HasTokens, StopsAt}
use Rattle.tw_lex.specs.Scans.{Found, RunsTo, SplitsTo, lexeme_of, IsKind}
use Rattle.tw_lex.proofs.Classes.{heads, apart}
use Rattle.tw_lex.proofs.Lines.{after_line}
use Rattle.tw_lex.proofs.Pieces.{chars-slashes}

-- one piece
pub one : (p : Piece) (cs rest : List ℕ) (at end : Pos) → cs ≡ piece_text p ++ rest → Stands p rest → end ≡ after_chars at (piece_text p) → SplitsTo cs at (piece_tokens p at) rest end
one p cs rest at end parts stands place = record { pieces = p ∷ []; splits = (rest, [], parts, stands, sym (append-nil (piece_tokens p at)), (refl, refl, sym place)) }

pub none : (cs : List ℕ) (at : Pos) → SplitsTo cs at [] cs at
none cs at = record { pieces = []; splits = (refl, refl, refl) }

joined : (ps qs : List Piece) (cs mid rest : List ℕ) (at stop end : Pos) (toks more : List Lexed) → Splits ps cs at toks mid stop → Splits qs mid stop more rest end → Splits (ps ++ qs) cs at (toks ++ more) rest end
joined [] qs cs mid rest at stop end toks more s t = rw (s.0, s.1, s.2) t
joined (p ∷ ps) qs cs mid rest at stop end toks more s t =
    (s.0, s.1 ++ more, s.2, s.3, ap (λ x. x ++ more) s.4 ∙ append_assoc (piece_tokens p at) s.1 more, joined ps qs s.0 mid rest (after_chars at (piece_text p)) stop end s.1 more s.5 t)

-- pieces and further pieces
pub join : {cs mid rest : List ℕ} {at stop end : Pos} {toks more : List Lexed} → SplitsTo cs at toks mid stop → SplitsTo mid stop more rest end → SplitsTo cs at (toks ++ more) rest end
join {cs} {mid} {rest} {at} {stop} {end} {toks} {more} s t = record { pieces = s.pieces ++ t.pieces; splits = joined s.pieces t.pieces cs mid rest at stop end toks more s.splits t.splits }

-- pieces and all that follow them
pub join_all : {cs mid : List ℕ} {at stop : Pos} {toks more : List Lexed} → SplitsTo cs at toks mid stop → HasTokens mid stop more → HasTokens cs at (toks ++ more)
join_all {cs} {mid} {at} {stop} {toks} {more} s h = record { pieces = s.pieces ++ h.pieces; end = h.end; splits = joined s.pieces h.pieces cs mid [] at stop h.end toks more s.splits h.splits }

pub join_stop : {cs mid : List ℕ} {at stop end : Pos} {toks : List Lexed} → SplitsTo cs at toks mid stop → StopsAt mid stop end → StopsAt cs at end
join_stop {cs} {mid} {at} {stop} {end} {toks} s t = record {
  pieces = s.pieces ++ t.pieces;
  toks = toks ++ t.toks;
  rest = t.rest;
  splits = joined s.pieces t.pieces cs mid t.rest at stop end toks t.toks s.splits t.splits;
  some_left = t.some_left;
  none_stands = t.none_stands;
}

pub newline : (text rest : List ℕ) (c : ℕ) (at : Pos) → Begins text c rest → c ≡ 10 → SplitsTo (chars text) at [] (chars rest) (record { line = at.line + 1; col = 1 })
newline text rest c at b is = one (Blank c) (chars text) (chars rest) at _ b.spelled (rw is refl) (rw is refl)

pub blank : (text rest : List ℕ) (c : ℕ) (at : Pos) → Begins text c rest → is_blank c ≡ true → c ≢ 10 → SplitsTo (chars text) at [] (chars rest) (record { line = at.line; col = at.col + 1 })
blank text rest c at b is other = one (Blank c) (chars text) (chars rest) at _ b.spelled is (rw (apart c 10 other) refl)

-- spaces
all_spaces : (run rest : List ℕ) (at : Pos) → list_all (λ c. c == 32) run ≡ true → SplitsTo (run ++ rest) at [] rest (record { line = at.line; col = at.col + length run })
all_spaces [] rest at all = let sum : at.col ≡ at.col + 0 = omega arith in subst (λ (n : ℕ). SplitsTo rest at [] rest (record { line = at.line; col = n })) sum (none rest at)
all_spaces (c ∷ run) rest at all =
    let parts = and_parts (c == 32) (list_all (λ d. d == 32) run) all in
    let is : c ≡ 32 = (Decides-eqb c 32).0 parts.0 in
    let next : Pos = record { line = at.line; col = at.col + 1 } in
    let more = all_spaces run rest next parts.1 in
    let sum : at.col + 1 + length run ≡ at.col + length (c ∷ run) = omega arith in
    subst (λ (n : ℕ). SplitsTo (c ∷ (run ++ rest)) at [] rest (record { line = at.line; col = n })) sum
    (join (one (Blank c) (c ∷ (run ++ rest)) (run ++ rest) at next refl (rw is refl) (rw is refl)) more)

pub spaces : (text rest : List ℕ) (count : ℕ) (at : Pos) → RunsTo (λ c. c == 32) text rest count → SplitsTo (chars text) at [] (chars rest) (record { line = at.line; col = at.col + count })
spaces text rest count at r =
    rw (r.runs.parts, r.runs.counted) (all_spaces r.runs.run (chars rest) at r.runs.all)

-- the run of a line that begins with these characters
slashes : (run more rest : List ℕ) → Ends is_in_line rest → 47 ∷ 47 ∷ more ≡ run ++ rest → (cs : List ℕ) × (run ≡ 47 ∷ 47 ∷ cs)
slashes [] more rest ends e = let wrong = rw (← e) at ends in absurd (cc)
slashes (a ∷ []) more rest ends e = let tails : 47 ∷ more ≡ rest = cc in let wrong = rw (← tails) at ends in absurd (cc)
slashes (a ∷ b ∷ cs) more rest ends e = (cs, cc)

pub comment : (text line rest : List ℕ) (count : ℕ) (at : Pos) → Follows text (codes "//") line → RunsTo is_in_line text rest count → SplitsTo (chars text) at [] (chars rest) (record { line = at.line; col = at.col + count })
comment text line rest count at f r =
    let begins : chars text ≡ 47 ∷ 47 ∷ chars line = f.spelled ∙ ap (λ x. x ++ chars line) chars-slashes in
    let s = slashes r.runs.run (chars line) (chars rest) r.ends (sym begins ∙ r.runs.parts) in
    let all : list_all is_in_line s.0 ≡ true = ap (list_all is_in_line) (sym s.1) ∙ r.runs.all in
    one (Comment s.0) (chars text) (chars rest) at _ (r.runs.parts ∙ ap (λ x. x ++ chars rest) s.1) (all, r.ends)
    (ap (λ (n : ℕ). record { line = at.line; col = at.col + n }) (r.runs.counted ∙ ap length s.1) ∙ sym (after_line at (codes "//" ++ s.0) all))

pub comment-shorter : (text line rest : List ℕ) (count : ℕ) → Follows text (codes "//") line → RunsTo is_in_line text rest count → length rest < length text
comment-shorter text line rest count f r =
    let begins : chars text ≡ 47 ∷ 47 ∷ chars line = f.spelled ∙ ap (λ x. x ++ chars line) chars-slashes in
    let s = slashes r.runs.run (chars line) (chars rest) r.ends (sym begins ∙ r.runs.parts) in
    omega (arith, r.runs.counted, r.runs.short, ap length s.1)

-- a token
pub token : (text taken rest : List ℕ) (count : ℕ) (kind : TokenKind) (at : Pos) → Found text rest count kind → chars text ≡ chars taken ++ chars rest → IsUtf8 taken
    → SplitsTo (chars text) at (record { lexeme = lexeme_of kind taken; at = at } ∷ []) (chars rest) (record { line = at.line; col = at.col + count }) × IsKind kind taken
token text taken rest count kind at f cut utf8 =
    let same : chars taken ≡ piece_text f.piece = append_cancel_right (chars taken) (piece_text f.piece) (chars rest) (sym cut ∙ f.parts) in
    let is = f.is taken utf8 same in
    let place : record { line = at.line; col = at.col + count } ≡ after_chars at (piece_text f.piece) = ap (λ (n : ℕ). record { line = at.line; col = at.col + n }) f.counted ∙ sym (after_line at (piece_text f.piece) f.in_line) in
    (subst (λ (toks : List Lexed). SplitsTo (chars text) at toks (chars rest) (record { line = at.line; col = at.col + count })) (ap (λ (o : Option Lexeme). token_of o at) is.0) (one f.piece (chars text) (chars rest) at _ f.parts f.stands place), is.1)

-- a token of which only its end is told
pub some_token : (text rest : List ℕ) (count : ℕ) (kind : TokenKind) (at : Pos) → Found text rest count kind → IsUtf8 text → IsUtf8 rest
    → (t : Lexed) × SplitsTo (chars text) at (t ∷ []) (chars rest) (record { line = at.line; col = at.col + count })
some_token text rest count kind at f utf8 utf8' =
    let taken = take (length text - length rest) text in
    let cut = spelled_apart text rest taken f.suffix utf8 utf8' refl in
    (record { lexeme = lexeme_of kind taken; at = at }, (token text taken rest count kind at f cut (IsUtf8-take text (length text - length rest) utf8 (boundary text rest f.suffix utf8'))).0)

-- it has a character
pub token-shorter : (text rest : List ℕ) (count : ℕ) (kind : TokenKind) → Found text rest count kind → length rest < length text
token-shorter text rest count kind f =
    let h = heads f.piece (chars rest) f.stands in
    omega (arith, f.short, f.counted, ap length h.text)

-- one more element with a property
pub all_push : {X : Type 0} (P : X → Type 0) (xs : List X) (x : X) → AllByRecursion P xs → P x → AllByRecursion P (xs ++ x ∷ [])
all_push P [] x all this = (this, tt)
all_push P (y ∷ xs) x all this = (all.0, all_push P xs x all.1 this)
