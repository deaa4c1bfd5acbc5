-- Tokens with the same words are a program of the same tree, places aside.
use Rattle.std.proofs.Common.{◌≡◌, refl, ap, sym, ◌∙◌, suc, List, [], ◌∷◌, map, length}
use Rattle.tw_text.specs.declared.limits.TheConstants.{NESTING_LIMIT}
use Rattle.tw_syntax.specs.Unplaced.{no_place, unplaced_decl, unplaced_program}
use Rattle.tw_syntax.specs.Programs.{ProgramTree}
use Rattle.tw_lex.specs.Tokens.{Lexeme, Lexed}
use Rattle.tw_parse.specs.Statements.{ProgramForm, program_text}
use Rattle.tw_parse.specs.Trees.{decls_tree, HasTree}
use Rattle.tw_parse.specs.Prefixes.{IsProgram, IsShallow}
use Rattle.tw_parse.proofs.automaton.Transitions.{Expected, went, move, run, verdict}
use Rattle.tw_parse.proofs.forms.OneProgram.{program-same}
use Rattle.tw_parse.proofs.automaton.Verdicts.{verdict-accept}
use Rattle.tw_parse.proofs.forms.UnplacedTerms.{unplaced_tok}
use Rattle.tw_parse.proofs.forms.UnplacedStatements.{unplaced_program_form, program_text-unplaced, decls_tree-unplaced}

-- the words of tokens
abbrev pub lexemes_of : List Lexed → List Lexeme
lexemes_of toks = map (λ (t : Lexed). t.lexeme) toks

-- two lists of words that are the same begin with the same word
first_word : {x y : Lexeme} {xs ys : List Lexeme} → x ∷ xs ≡ y ∷ ys → x ≡ y
first_word e = cc

-- what stands after it is the same
rest_words : {x y : Lexeme} {xs ys : List Lexeme} → x ∷ xs ≡ y ∷ ys → xs ≡ ys
rest_words e = cc

-- tokens with the same words are as many
pub words-length : (toks others : List Lexed) → lexemes_of toks ≡ lexemes_of others → length toks ≡ length others
words-length [] [] e = refl
words-length [] (u ∷ us) e = absurd (cc)
words-length (t ∷ ts) [] e = absurd (cc)
words-length (t ∷ ts) (u ∷ us) e = ap suc (words-length ts us (rest_words e))

-- the automaton looks at words alone
pub words-run : (toks others : List Lexed) → lexemes_of toks ≡ lexemes_of others → run toks ≡ run others
words-run [] [] e = refl
words-run [] (u ∷ us) e = absurd (cc)
words-run (t ∷ ts) [] e = absurd (cc)
words-run (t ∷ ts) (u ∷ us) e =
    let after = words-run ts us (rest_words e) in
    let left = words-length ts us (rest_words e) in
    λ i room st. went (move (first_word e i) st) room (after i) (suc (left i))

pub words-verdict : (toks others : List Lexed) → lexemes_of toks ≡ lexemes_of others → verdict toks ≡ verdict others
words-verdict toks others e = λ i. words-run toks others e i NESTING_LIMIT (Expected.Decl' ∷ [])

-- without their places tokens are what their words are
pub words-unplaced : (toks others : List Lexed) → lexemes_of toks ≡ lexemes_of others → map unplaced_tok toks ≡ map unplaced_tok others
words-unplaced [] [] e = refl
words-unplaced [] (u ∷ us) e = absurd (cc)
words-unplaced (t ∷ ts) [] e = absurd (cc)
words-unplaced (t ∷ ts) (u ∷ us) e = λ i. record { lexeme = first_word e i; at = no_place } ∷ words-unplaced ts us (rest_words e) i

-- programs with the same words are the same without their places
pub forms-unplaced : (c d : ProgramForm) → lexemes_of (program_text c []) ≡ lexemes_of (program_text d []) → unplaced_program_form c ≡ unplaced_program_form d
forms-unplaced c d e = program-same (unplaced_program_form c) (unplaced_program_form d)
    (program_text-unplaced c [] [] refl ∙ (words-unplaced (program_text c []) (program_text d []) e ∙ sym (program_text-unplaced d [] [] refl)))

-- and so are their declarations
pub decls-unplaced : (c d : ProgramForm) → lexemes_of (program_text c []) ≡ lexemes_of (program_text d []) → map unplaced_decl (decls_tree c) ≡ map unplaced_decl (decls_tree d)
decls-unplaced c d e = sym (decls_tree-unplaced c) ∙ (ap decls_tree (forms-unplaced c d e) ∙ decls_tree-unplaced d)

-- Tokens with the same words are a program of the same tree, places aside.
pub same_lexemes : (toks others : List Lexed) (tree : ProgramTree) → map (λ (t : Lexed). t.lexeme) toks ≡ map (λ (t : Lexed). t.lexeme) others → HasTree toks tree → IsShallow toks
    → (again : ProgramTree) × HasTree others again × IsShallow others × (unplaced_program again ≡ unplaced_program tree)
same_lexemes toks others tree e h shallow =
    let program : IsProgram others × IsShallow others = (verdict-accept others).0 (sym (words-verdict toks others e) ∙ (verdict-accept toks).1 (h.0, shallow)) in
    let form = program.0.0 in
    let texts : lexemes_of (program_text form []) ≡ lexemes_of (program_text h.0.0 []) = ap lexemes_of (sym program.0.1) ∙ (sym e ∙ ap lexemes_of h.0.1) in
    let decls = decls-unplaced form h.0.0 texts in
    let same : unplaced_program (record { decls = decls_tree form }) ≡ unplaced_program (record { decls = decls_tree h.0.0 }) = λ i. record { decls = decls i } in
    (record { decls = decls_tree form }, (program.0, refl), program.1, same ∙ ap unplaced_program (sym h.1))
