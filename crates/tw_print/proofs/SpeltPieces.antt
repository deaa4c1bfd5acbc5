-- A piece before a text: what it adds to the text's tokens.
use Rattle.std.proofs.Common.{◌≡◌, ◌∙◌, sym, ap, subst, ℕ, true, List, ◌∷◌, ◌++◌, Option, Some, None, chars, encode_utf8_all, refl}
use Rattle.std.proofs.Math.Utf8.{scalars}
use Rattle.std.proofs.lemmas.Str.{chars-append, chars-encodes, IsUtf8-append}
use Rattle.tw_text.specs.declared.place.Pos.{Pos}
use Rattle.tw_text.specs.Places.{after_chars}
use Rattle.tw_lex.specs.Tokens.{Lexeme, Lexed, Piece, piece_text, piece_lexeme, token_of, Stands, Ends}
use Rattle.tw_print.proofs.Spelling.{Edge, bars, ReadAt, Leads, Spelt}

-- a piece with these bytes that may follow edge `a`, and is a lexeme before what may follow edge `b`
pub record Fits (a b : Edge) (piece : Piece) (bytes : List ℕ) : Type 0 where
  pub scalar : scalars (piece_text piece) ≡ true
  pub is : encode_utf8_all (piece_text piece) ≡ bytes
  pub stands : (rest : List ℕ) → Ends (bars b) rest → Stands piece rest
  pub enters : (rest : List ℕ) → Ends (bars a) (piece_text piece ++ rest)

-- white space adds no token
read_blank : (p : Piece) (rest : List ℕ) (toks : List Lexed) (at : Pos) → piece_lexeme p ≡ None → Stands p rest
    → ReadAt rest (after_chars at (piece_text p)) toks → ReadAt (piece_text p ++ rest) at toks
read_blank p rest toks at none stands r = record {
  others = r.others;
  has = record {
    pieces = p ∷ r.has.pieces;
    end = r.has.end;
    splits = (rest, r.others, refl, stands, ap (λ (k : Option Lexeme). token_of k at ++ r.others) (sym none), r.has.splits);
  };
  same = r.same;
}

-- any other piece adds one token
read_token : (p : Piece) (t : Lexed) (rest : List ℕ) (toks : List Lexed) (at : Pos) → piece_lexeme p ≡ Some t.lexeme
    → Stands p rest → ReadAt rest (after_chars at (piece_text p)) toks → ReadAt (piece_text p ++ rest) at (t ∷ toks)
read_token p t rest toks at some stands r = record {
  others = record { lexeme = t.lexeme; at = at } ∷ r.others;
  has = record {
    pieces = p ∷ r.has.pieces;
    end = r.has.end;
    splits = (rest, r.others, refl, stands, ap (λ (k : Option Lexeme). token_of k at ++ r.others) (sym some), r.has.splits);
  };
  same = ap (λ ws. t.lexeme ∷ ws) r.same;
}

chars_front : (cs bytes rest : List ℕ) → scalars cs ≡ true → encode_utf8_all cs ≡ bytes → chars (bytes ++ rest) ≡ cs ++ chars rest
chars_front cs bytes rest scalar is =
    chars-append bytes rest (cs, (scalar, is)) ∙ ap (λ xs. xs ++ chars rest) (ap chars (sym is) ∙ chars-encodes cs scalar)

-- a text after a piece, by how its characters are tokenised
leads_behind : {a b : Edge} {p : Piece} {bytes rest : List ℕ} {ts us : List Lexed} → Fits a b p bytes → Leads b rest us
    → ((at : Pos) → ReadAt (piece_text p ++ chars rest) at ts) → Leads a (bytes ++ rest) ts
leads_behind {a} {b} {p} {bytes} {rest} {ts} f l read =
    let front = sym (chars_front (piece_text p) bytes rest f.scalar f.is) in
    record {
      text = IsUtf8-append bytes rest (piece_text p, (f.scalar, f.is)) l.text;
      read = λ at. subst (λ cs. ReadAt cs at ts) front (read at);
      ends = subst (λ cs. Ends (bars a) cs) front (f.enters (chars rest));
    }

pub spelt_blank : {a b : Edge} {bytes : List ℕ} {us : List Lexed} (p : Piece) → piece_lexeme p ≡ None → Fits a b p bytes → Spelt a b bytes us us
spelt_blank {us = us} p none f = record {
  good = λ g. g;
  leads = λ g rest l. leads_behind f l (λ at. read_blank p (chars rest) us at none (f.stands (chars rest) l.ends) (l.read (after_chars at (piece_text p))));
}

pub leads_token : {a b : Edge} {bytes rest : List ℕ} {us : List Lexed} (p : Piece) (t : Lexed) → piece_lexeme p ≡ Some t.lexeme
    → Fits a b p bytes → Leads b rest us → Leads a (bytes ++ rest) (t ∷ us)
leads_token {rest = rest} {us = us} p t some f l =
    leads_behind f l (λ at. read_token p t (chars rest) us at some (f.stands (chars rest) l.ends) (l.read (after_chars at (piece_text p))))
