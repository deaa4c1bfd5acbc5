-- The names of the aliases of a source have no delimiter of types, so that the texts of its states are told apart.
use Rattle.std.proofs.Common.{◌≡◌, ◌∙◌, sym, ap, refl, ℕ, ◌==◌, true, false, List, [], ◌∷◌}
use Rattle.std.specs.List.{AllByRecursion}
use Rattle.std.proofs.lemmas.Bool.Decides.{Decides-eqb}
use Rattle.tw_syntax.specs.Programs.{DeclTree, AliasDecl, FunDecl, ProgramTree}
use Rattle.tw_parse.specs.Sources.{IsSource}
use Rattle.tw_print.proofs.NamesOfAliases.{is_name_byte, HasNameBytes, IsNamed, aliases_named}
use Rattle.tw_resolve.specs.Declarations.{aliases_of}
use Rattle.tw_state.proofs.Basics.{by_test, contradiction}
use Rattle.tw_state.proofs.TargetTexts.{HasPlainAliases}
use Rattle.tw_state.proofs.TypeTexts.{IsPlain, IsPlainName}

-- a byte of a name is no other byte
other_byte : (b c : ℕ) → is_name_byte b ≡ true → is_name_byte c ≡ false → (b == c) ≡ false
other_byte b c is differs =
    by_test (b == c)
    (λ same. contradiction (sym (ap is_name_byte ((Decides-eqb b c).0 same)) ∙ is) differs)
    (λ other. other)

plain_byte : (b : ℕ) → is_name_byte b ≡ true → IsPlain b
plain_byte b is =
    let opening = other_byte b 40 is refl in
    let less = other_byte b 60 is refl in
    let close = other_byte b 41 is refl in
    let greater = other_byte b 62 is refl in
    let comma = other_byte b 44 is refl in
    let space = other_byte b 32 is refl in
    record { opens_none = rw (opening, less) refl; closes_none = rw (close, greater) refl; ends_none = rw (close, greater, comma, space) refl }

plain_name : (name : List ℕ) → HasNameBytes name → IsPlainName name
plain_name [] all = tt
plain_name (b ∷ name) all = (plain_byte b all.0, plain_name name all.1)

plain_decls : (decls : List DeclTree) → AllByRecursion IsNamed decls → AllByRecursion (λ alias. IsPlainName alias.name.text) (aliases_of decls)
plain_decls [] all = tt
plain_decls (AliasDecl alias ∷ decls) all = (plain_name alias.name.text all.0, plain_decls decls all.1)
plain_decls (FunDecl fun ∷ decls) all = plain_decls decls all.1

pub plain_source : (bytes : List ℕ) (tree : ProgramTree) → IsSource bytes tree → HasPlainAliases tree
plain_source bytes tree source = plain_decls tree.decls (aliases_named bytes tree source)
