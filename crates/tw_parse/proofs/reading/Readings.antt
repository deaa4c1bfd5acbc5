-- What reading a whole text gives, the automaton says, so it is what the grammar says: a program's tree, or where the tokens go wrong.
use Rattle.std.proofs.Common.{◌≡◌, refl, ℕ, zero, suc, ◌≤◌, le_refl, List, [], ◌∷◌, length, ap, ◌∙◌, Result, Ok, Err, arith}
use Rattle.tw_text.specs.declared.limits.TheConstants.{NESTING_LIMIT}
use Rattle.tw_syntax.specs.Programs.{DeclTree, ProgramTree}
use Rattle.tw_parse.specs.declared.error.Rejection.{Rejection}
use Rattle.tw_parse.specs.declared.error.Rejection.TheVariants.{Syntax, Nesting}
use Rattle.tw_lex.specs.Tokens.{Lexed}
use Rattle.tw_parse.specs.Statements as form
use Rattle.tw_parse.specs.Statements.{DeclForm, decl_text, ProgramForm, program_text}
use Rattle.tw_parse.specs.Trees.{decl_tree, decls_tree, HasTree}
use Rattle.tw_parse.specs.Prefixes.{IsShallow, IsSyntaxAt, IsTooDeepAt}
use Rattle.tw_parse.specs.reading.Steps.{◌>>=◌, many_at, all_at}
use Rattle.tw_parse.specs.reading.Statements.{decl_at, is_more, program_at, whole_at}
use Rattle.tw_parse.proofs.automaton.Transitions.{Expected, Decl', Outcome, Accept, run, verdict}
use Rattle.tw_parse.proofs.automaton.Verdicts.{verdict-accept, verdict-fail, verdict-deep}
use Rattle.tw_parse.proofs.reading.Runs.{follow, rejected, Runs}
use Rattle.tw_parse.proofs.reading.RunsPrograms.{runs_decl, runs_decls}
use Rattle.tw_parse.proofs.reading.Says.{Says, says, says_ok, says_many, Got}
use Rattle.tw_parse.proofs.reading.SaysPrograms.{says_decl, decl_shorter}

-- declarations after one that was read, as a program
record Programmed (d : DeclForm) (ts : List Lexed) (xs : List DeclTree × List Lexed) : Type 0 where
  pub form : ProgramForm
  pub same : decl_text d ts ≡ program_text form xs.1
  pub value : decl_tree d ∷ xs.0 ≡ decls_tree form

record Following (ts : List Lexed) (xs : List DeclTree × List Lexed) : Type 0 where
  pub after : (d : DeclForm) → Programmed d ts xs

says_decls : (room n : ℕ) (ts : List Lexed) → Says (Following ts) (many_at is_more (decl_at room) n ts)
says_decls room n ts = says_many is_more (decl_at room) (Got decl_text decl_tree) Following
    (λ us. record { after = λ d. record { form = form.Last d; same = refl; value = refl } }) more (says_decl room) n ts
  where
    more : (us : List Lexed) (x : DeclTree × List Lexed) (xs : List DeclTree × List Lexed) → Got decl_text decl_tree us x → Following x.1 xs → Following us (x.0 ∷ xs.0, xs.1)
    more us x xs c b = record { after = λ d. with d (b.after c.form) }
      where
        with : (d : DeclForm) → Programmed c.form x.1 xs → Programmed d us (x.0 ∷ xs.0, xs.1)
        with d e = record { form = form.Decls d e.form; same = ap (decl_text d) (c.spelled ∙ e.same); value = ap (λ l. decl_tree d ∷ l) (ap (λ y. y ∷ xs.0) c.value ∙ e.value) }

-- the list of declarations ends where no token is left
record Ended (x : List DeclTree × List Lexed) : Type 0 where
  pub none : x.1 ≡ []

ends : (room n : ℕ) (ts : List Lexed) → length ts ≤ n → Says Ended (many_at is_more (decl_at room) n ts)
unfolding many_at
ends room zero [] le = says_ok (record { none = refl })
ends room zero (t ∷ ts) le = absurd (omega arith)
ends room (suc n) [] le = says_ok (record { none = refl })
ends room (suc n) (t ∷ ts) le =
    says (decl_shorter room (t ∷ ts)) (λ x s. says (ends room n x.1 (omega (arith, s.less))) (λ xs e. says_ok (record { none = e.none })))

program_of : List DeclTree → ProgramTree
program_of decls = record { decls = decls }

says_program : (room : ℕ) (ts : List Lexed) → Says (HasTree ts) (program_at room ts)
unfolding program_at program_of
says_program room ts =
    says (says_decl room ts) (λ first c. says (both first.1) (λ more b. says_ok (tree first more c (b.0.after c.form) b.1)))
  where
    both : (us : List Lexed) → Says (λ xs. Following us xs × Ended xs) (all_at is_more (decl_at room) us)
    both us = record { holds = λ xs e. ((says_decls room (length us) us).holds xs e, (ends room (length us) us (le_refl (length us))).holds xs e) }

    tree : (first : DeclTree × List Lexed) (more : List DeclTree × List Lexed) (c : Got decl_text decl_tree ts first) → Programmed c.form first.1 more → Ended more
        → HasTree ts (program_of (first.0 ∷ more.0))
    tree first more c p e = ((p.form, c.spelled ∙ (p.same ∙ ap (program_text p.form) e.none)), ap program_of (ap (λ y. y ∷ more.0) c.value ∙ p.value))

-- what the automaton says of a whole text
abbrev pub outcome : {X : Type 0} → Result X Rejection → Outcome
outcome (Ok x) = Accept
outcome (Err h) = rejected h

bind_end : {X Y : Type 0} (r : Result (X × List Lexed) Rejection) (k : X × List Lexed → Result Y Rejection) (room : ℕ) (mid : List Expected) {o : Outcome}
    → Runs o r room mid → ((x : X × List Lexed) → r ≡ Ok x → run x.1 room mid ≡ outcome (k x)) → o ≡ outcome (r >>= k)
unfolding follow
bind_end (Ok x) k room mid e h = e.same ∙ h x refl
bind_end (Err h) k room mid e _ = e.same

runs_program : (room : ℕ) (ts : List Lexed) → run ts room (Decl' ∷ []) ≡ outcome (program_at room ts)
unfolding program_at
runs_program room ts =
    bind_end (decl_at room ts) _ room [] (runs_decl room ts []) (λ first is.
    bind_end (all_at is_more (decl_at room) first.1) _ room [] (runs_decls room first.1) (λ more given.
    ap (λ us. run us room []) ((ends room (length first.1) first.1 (le_refl (length first.1))).holds more given).none))

-- the automaton says of a text what reading gives
pub verdict-whole : (toks : List Lexed) → verdict toks ≡ outcome (whole_at toks)
verdict-whole toks = runs_program NESTING_LIMIT toks

-- the tree that is read is that of a program, in which no more brackets are open at a place than the limit
pub read-tree : (toks : List Lexed) (tree : ProgramTree) → whole_at toks ≡ Ok tree → HasTree toks tree × IsShallow toks
read-tree toks tree e = ((says_program NESTING_LIMIT toks).holds tree e, ((verdict-accept toks).0 (verdict-whole toks ∙ ap outcome e)).1)

-- where reading ends early, there the tokens go wrong
pub read-syntax : (toks : List Lexed) (left : ℕ) → whole_at toks ≡ Err (Syntax left) → IsSyntaxAt toks left
read-syntax toks left e = (verdict-fail toks left).0 (verdict-whole toks ∙ ap outcome e)

pub read-nesting : (toks : List Lexed) (left : ℕ) → whole_at toks ≡ Err (Nesting left) → IsTooDeepAt toks left
read-nesting toks left e = (verdict-deep toks left).0 (verdict-whole toks ∙ ap outcome e)
