-- Places after characters of one line.
use Rattle.std.proofs.Common.{◌≡◌, ◌∙◌, ap, ℕ, ◌+◌, ◌==◌, Bool, true, false, not, if◌then◌else◌, List, [], ◌∷◌, length, refl, arith}
use Rattle.std.proofs.lemmas.Bool.{and_parts}
use Rattle.std.proofs.lemmas.Bool.Decides.{Decides-eqb}
use Rattle.std.specs.List.{list_all}
use Rattle.unicode_ident.specs.Ident.{is_xid_continue}
use Rattle.unicode_ident.proofs.Computing.{unicode_ident}
use Rattle.tw_text.specs.declared.place.Pos.{Pos}
use Rattle.tw_text.specs.Places.{after_char, after_chars}
use Rattle.tw_lex.specs.Tokens.{is_in_line, starts_name}

same_line : (at : Pos) (c : ℕ) → is_in_line c ≡ true → after_char at c ≡ record at { col = at.col + 1 }
same_line at c in_line = elim (c == 10) as (λ k. not k ≡ true → (if k then record { line = at.line + 1; col = 1 } else record at { col = at.col + 1 }) ≡ record at { col = at.col + 1 }) [ true ↦ λ h. absurd (cc) | false ↦ λ h. refl ] in_line

pub after_line : (at : Pos) (cs : List ℕ) → list_all is_in_line cs ≡ true → after_chars at cs ≡ record at { col = at.col + length cs }
after_line at [] all = let sum : at.col ≡ at.col + 0 = omega arith in ap (λ (n : ℕ). record { line = at.line; col = n }) sum
after_line at (c ∷ cs) all =
    let parts = and_parts (is_in_line c) (list_all is_in_line cs) all in
    let sum : at.col + 1 + length cs ≡ at.col + length (c ∷ cs) = omega arith in
    ap (λ p. after_chars p cs) (same_line at c parts.0) ∙ after_line (record at { col = at.col + 1 }) cs parts.1 ∙ ap (λ (n : ℕ). record { line = at.line; col = n }) sum

-- characters of a kind without the newline are those of one line
unlike_newline : (test : ℕ → Bool) (c : ℕ) → test 10 ≡ false → test c ≡ true → is_in_line c ≡ true
unlike_newline test c none passed =
    let same = Decides-eqb c 10 in
    elim (c == 10) as (λ k. ((k ≡ true) → c ≡ 10) → not k ≡ true) [ true ↦ λ f. let e : c ≡ 10 = f refl in let wrong : test 10 ≡ true = rw (← e) passed in absurd (cc) | false ↦ λ f. refl ] same.0

pub in_line : (test : ℕ → Bool) (cs : List ℕ) → test 10 ≡ false → list_all test cs ≡ true → list_all is_in_line cs ≡ true
in_line test [] none all = refl
in_line test (c ∷ cs) none all =
    let parts = and_parts (test c) (list_all test cs) all in
    rw (unlike_newline test c none parts.0) (in_line test cs none parts.1)

pub name-in_line : (c : ℕ) (cs : List ℕ) → starts_name c ≡ true → list_all is_xid_continue cs ≡ true → list_all is_in_line (c ∷ cs) ≡ true
unfolding unicode_ident
name-in_line c cs starts on = rw (unlike_newline starts_name c refl starts) (in_line is_xid_continue cs refl on)
