-- The names of the aliases of a source have the bytes of names alone.
use Rattle.std.proofs.Common.{◌≡◌, ◌∙◌, sym, subst, ℕ, ◌<◌, ◌≤◌, ◌+◌, ◌/◌, ◌==◌, nat_lt, Bool, true, false, ◌||◌, not, List, [], ◌∷◌, ◌++◌, cond, encode_utf8_all, arith, refl}
use Rattle.std.proofs.Math.Utf8.{encode, next}
use Rattle.std.proofs.lemmas.Bool.{and_parts}
use Rattle.std.proofs.lemmas.Bool.Decides.{Decides-ltb}
use Rattle.std.proofs.lemmas.Str.{encode_ascii}
use Rattle.std.specs.Char.{is_ascii_alphabetic, is_ascii_digit}
use Rattle.std.specs.List.{AllByRecursion, list_all}
use Rattle.unicode_ident.specs.Ident.{is_xid_continue}
use Rattle.tw_lex.specs.Tokens.{Lexed, starts_name}
use Rattle.tw_lex.proofs.Classes.{ascii_continues, ascii_starts}
use Rattle.tw_syntax.specs.Programs.{DeclTree, AliasDecl, FunDecl, ProgramTree}
use Rattle.tw_parse.specs.Sources.{IsSource}
use Rattle.tw_parse.specs.Statements as form
use Rattle.tw_parse.specs.Statements.{ProgramForm, program_text}
use Rattle.tw_parse.specs.Trees.{decls_tree}
use Rattle.tw_print.proofs.GoodWords.{good_words}
use Rattle.tw_print.proofs.Spelling.{IsName, AllGood}
use Rattle.tw_print.proofs.SpeltPrograms.{decl_spelt}

-- whether a byte is one of a name: an ASCII letter or digit, `_`, or a byte of another character
abbrev pub is_name_byte : ℕ → Bool
is_name_byte b = is_ascii_alphabetic b || (is_ascii_digit b || ((b == 95) || not (nat_lt b 128)))

abbrev pub HasNameBytes : List ℕ → Type 0
HasNameBytes text = AllByRecursion (λ b. is_name_byte b ≡ true) text

-- the name of an alias has such bytes alone
abbrev pub IsNamed : DeclTree → Type 0
IsNamed (AliasDecl alias) = HasNameBytes alias.name.text
IsNamed (FunDecl fun) = Unit {0}

or_last : (p q r s : Bool) → s ≡ true → (p || (q || (r || s))) ≡ true
or_last true q r s is = refl
or_last false true r s is = refl
or_last false false true s is = refl
or_last false false false s is = is

or_longer : (p q r s : Bool) → (p || (q || r)) ≡ true → (p || (q || (r || s))) ≡ true
or_longer true q r s is = refl
or_longer false true r s is = refl
or_longer false false true s is = refl
or_longer false false false s is = absurd (cc)

or_skip : (p q r s : Bool) → (p || r) ≡ true → (p || (q || (r || s))) ≡ true
or_skip true q r s is = refl
or_skip false true r s is = refl
or_skip false false true s is = refl
or_skip false false false s is = absurd (cc)

high_byte : (b : ℕ) → 128 ≤ b → is_name_byte b ≡ true
high_byte b high =
    or_last (is_ascii_alphabetic b) (is_ascii_digit b) (b == 95) (not (nat_lt b 128)) (by (nat_lt b 128) refl)
  where
    by : (k : Bool) → nat_lt b 128 ≡ k → not k ≡ true
    by false is = refl
    by true is = let low = (Decides-ltb b 128).0 is in absurd (omega (arith, low, high))

both : (xs ys : List ℕ) → HasNameBytes xs → HasNameBytes ys → HasNameBytes (xs ++ ys)
both [] ys all all2 = all2
both (x ∷ xs) ys all all2 = (all.0, both xs ys all.1 all2)

-- the bytes of a character outside ASCII are high
high_bytes : (c : ℕ) → nat_lt c 128 ≡ false → HasNameBytes (encode c)
unfolding encode
high_bytes c high = rw high (by (nat_lt c 2048) (nat_lt c 65536))
  where
    by : (k l : Bool) → HasNameBytes (cond k ((192 + c / 64) ∷ next c ∷ []) (cond l ((224 + c / 4096) ∷ next (c / 64) ∷ next c ∷ []) ((240 + c / 262144) ∷ next (c / 4096) ∷ next (c / 64) ∷ next c ∷ [])))
    by true l = (high_byte (192 + c / 64) (omega arith), (high_byte (next c) (omega arith), tt))
    by false true = (high_byte (224 + c / 4096) (omega arith), (high_byte (next (c / 64)) (omega arith), (high_byte (next c) (omega arith), tt)))
    by false false = (high_byte (240 + c / 262144) (omega arith), (high_byte (next (c / 4096)) (omega arith), (high_byte (next (c / 64)) (omega arith), (high_byte (next c) (omega arith), tt))))

-- the bytes of a character of a name
character : (c : ℕ) → (c < 128 → is_name_byte c ≡ true) → HasNameBytes (encode c)
character c ascii = by (nat_lt c 128) refl
  where
    by : (k : Bool) → nat_lt c 128 ≡ k → HasNameBytes (encode c)
    by true is = let low = (Decides-ltb c 128).0 is in subst HasNameBytes (sym (encode_ascii c low)) (ascii low, tt)
    by false is = high_bytes c is

continues : (c : ℕ) → is_xid_continue c ≡ true → HasNameBytes (encode c)
continues c is = character c (λ low. or_longer (is_ascii_alphabetic c) (is_ascii_digit c) (c == 95) (not (nat_lt c 128)) (sym (ascii_continues c low) ∙ is))

starts : (c : ℕ) → starts_name c ≡ true → HasNameBytes (encode c)
starts c is = character c (λ low. or_skip (is_ascii_alphabetic c) (is_ascii_digit c) (c == 95) (not (nat_lt c 128)) (sym (ascii_starts c low) ∙ is))

all_continue : (cs : List ℕ) → list_all is_xid_continue cs ≡ true → HasNameBytes (encode_utf8_all cs)
all_continue [] is = tt
all_continue (c ∷ cs) is = let parts = and_parts (is_xid_continue c) (list_all is_xid_continue cs) is in both (encode c) (encode_utf8_all cs) (continues c parts.0) (all_continue cs parts.1)

name_bytes : (text : List ℕ) → IsName text → HasNameBytes text
name_bytes text is = subst HasNameBytes is.is (both (encode is.first) (encode_utf8_all is.more) (starts is.first is.starts) (all_continue is.more is.goes_on))

named_decls : (us : List Lexed) (f : ProgramForm) → AllGood (program_text f us) → AllByRecursion IsNamed (decls_tree f)
named_decls us (form.Last (form.Alias p n text q body r)) good = (name_bytes text good.1.0, tt)
named_decls us (form.Last (form.Fun fun)) good = (tt, tt)
named_decls us (form.Decls (form.Alias p n text q body r) rest) good = (name_bytes text good.1.0, named_decls us rest ((decl_spelt (form.Alias p n text q body r)).good good))
named_decls us (form.Decls (form.Fun fun) rest) good = (tt, named_decls us rest ((decl_spelt (form.Fun fun)).good good))

-- the aliases of a source have names of such bytes
pub aliases_named : (bytes : List ℕ) (tree : ProgramTree) → IsSource bytes tree → AllByRecursion IsNamed tree.decls
aliases_named bytes tree source =
    let program = source.has_tree.0 in
    subst (λ t. AllByRecursion IsNamed t.decls) (sym source.has_tree.1)
    (named_decls [] program.0 (subst AllGood program.1 (good_words bytes _ source.toks source.text source.has)))
