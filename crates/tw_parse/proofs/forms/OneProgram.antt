-- Tokens are at most one program, and have at most one tree.
use Rattle.std.proofs.Common.{◌≡◌, refl, List, [], ◌∷◌, ap, sym, ◌∙◌}
use Rattle.tw_text.specs.declared.place.Pos.{Pos}
use Rattle.tw_lex.specs.declared.symbol.Symbol.TheVariants as symbols
use Rattle.tw_lex.specs.Tokens.{Lexed, sign_at}
use Rattle.tw_parse.specs.Statements.{ParamForm, param_text, MoreParamsForm, more_params_text, ParamsForm, params_text, FunBoundForm, fun_bound_text, FunForm, fun_text, DeclForm, decl_text, ProgramForm, program_text}
use Rattle.tw_syntax.specs.Programs.{ProgramTree}
use Rattle.tw_parse.specs.Trees.{decls_tree, HasTree}
use Rattle.tw_parse.proofs.forms.OneExpr.{same, name-same, type-same}
use Rattle.tw_parse.proofs.forms.OneStmt.{return-ends, stmts-same}

param-same : (c d : ParamForm) (k l : List Lexed) → param_text c k ≡ param_text d l → (c ≡ d) × (k ≡ l)
param-same c d k l e =
    let name = same e in
    let colon = same name.rest in
    let ty = type-same c.ty d.ty k l colon.rest in
    (λ i. record { at = name.at i; name = name-same name.lexeme i; colon = colon.at i; ty = ty.0 i }, ty.1)

more_params-same : (c d : MoreParamsForm) (p q : Pos) (k l : List Lexed) → more_params_text c (sign_at symbols.CloseParen p ∷ k) ≡ more_params_text d (sign_at symbols.CloseParen q ∷ l)
    → (c ≡ d) × (p ≡ q) × (k ≡ l)
more_params-same MoreParamsForm.NoMoreParams MoreParamsForm.NoMoreParams p q k l e = (refl, (same e).at, (same e).rest)
more_params-same (MoreParamsForm.MoreParams p param rest) (MoreParamsForm.MoreParams q other others) r s k l e =
    let comma = same e in
    let one = param-same param other (more_params_text rest (sign_at symbols.CloseParen r ∷ k)) (more_params_text others (sign_at symbols.CloseParen s ∷ l)) comma.rest in
    let h = more_params-same rest others r s k l one.1 in
    (cc (comma.at, one.0, h.0), h.1, h.2)
more_params-same c d p q k l e = absurd (cc ((same e).lexeme))

params-same : (c d : ParamsForm) (p q : Pos) (k l : List Lexed) → params_text c (sign_at symbols.CloseParen p ∷ k) ≡ params_text d (sign_at symbols.CloseParen q ∷ l) → (c ≡ d) × (p ≡ q) × (k ≡ l)
params-same ParamsForm.NoParams ParamsForm.NoParams p q k l e = (refl, (same e).at, (same e).rest)
params-same (ParamsForm.Params param rest) (ParamsForm.Params other others) r s k l e =
    let one = param-same param other (more_params_text rest (sign_at symbols.CloseParen r ∷ k)) (more_params_text others (sign_at symbols.CloseParen s ∷ l)) e in
    let h = more_params-same rest others r s k l one.1 in
    (cc (one.0, h.0), h.1, h.2)
params-same c d p q k l e = absurd (cc ((same e).lexeme))

fun_bound-same : (c d : FunBoundForm) (p q : Pos) (k l : List Lexed) → fun_bound_text c (sign_at symbols.OpenParen p ∷ k) ≡ fun_bound_text d (sign_at symbols.OpenParen q ∷ l) → (c ≡ d) × (p ≡ q) × (k ≡ l)
fun_bound-same FunBoundForm.NoFunBound FunBoundForm.NoFunBound p q k l e = (refl, (same e).at, (same e).rest)
fun_bound-same (FunBoundForm.FunBound b n x o) (FunBoundForm.FunBound b' n' y o') p q k l e =
    let first = same e in
    let name = same first.rest in
    let close = same name.rest in
    let paren = same close.rest in
    (cc (first.at, name.at, name.lexeme, close.at), paren.at, paren.rest)
fun_bound-same c d p q k l e = absurd (cc ((same e).lexeme))

pub fun-same : (c d : FunForm) (k l : List Lexed) → fun_text c k ≡ fun_text d l → (c ≡ d) × (k ≡ l)
fun-same c d k l e =
    let first = same e in
    let name = same first.rest in
    let bound = fun_bound-same c.bound d.bound c.paren d.paren _ _ name.rest in
    let params = params-same c.params d.params c.paren_end d.paren_end _ _ bound.2 in
    let arrow = same params.2 in
    let result = type-same c.result d.result _ _ arrow.rest in
    let begin = same result.1 in
    let body = stmts-same c.body d.body _ _ (return-ends c.return_at _) (return-ends d.return_at _) begin.rest in
    let last = same body.1 in
    let returned = same last.rest in
    let semicolon = same returned.rest in
    let end = same semicolon.rest in (
      λ i. record {
        at = first.at i;
        name_at = name.at i;
        name = name-same name.lexeme i;
        bound = bound.0 i;
        paren = bound.1 i;
        params = params.0 i;
        paren_end = params.1 i;
        arrow = arrow.at i;
        result = result.0 i;
        begin = begin.at i;
        body = body.0 i;
        return_at = last.at i;
        returned_at = returned.at i;
        returned = name-same returned.lexeme i;
        semicolon = semicolon.at i;
        end = end.at i;
      },
      end.rest,
    )

pub decl-same : (c d : DeclForm) (k l : List Lexed) → decl_text c k ≡ decl_text d l → (c ≡ d) × (k ≡ l)
decl-same (DeclForm.Alias p n x q body r) (DeclForm.Alias p' n' y q' body' r') k l e =
    let first = same e in
    let name = same first.rest in
    let is = same name.rest in
    let ty = type-same body body' (sign_at symbols.Semicolon r ∷ k) (sign_at symbols.Semicolon r' ∷ l) is.rest in
    let last = same ty.1 in
    (cc (first.at, name.at, name.lexeme, is.at, ty.0, last.at), last.rest)
decl-same (DeclForm.Fun fun) (DeclForm.Fun other) k l e = let h = fun-same fun other k l e in (ap DeclForm.Fun h.0, h.1)
decl-same c d k l e = absurd (cc ((same e).lexeme))

program-not_empty : (c : ProgramForm) → [] ≡ program_text c [] → ⊥
program-not_empty (ProgramForm.Last (DeclForm.Alias p n x q body r)) e = cc
program-not_empty (ProgramForm.Last (DeclForm.Fun fun)) e = cc
program-not_empty (ProgramForm.Decls (DeclForm.Alias p n x q body r) rest) e = cc
program-not_empty (ProgramForm.Decls (DeclForm.Fun fun) rest) e = cc

-- tokens are at most one program
pub program-same : (c d : ProgramForm) → program_text c [] ≡ program_text d [] → c ≡ d
program-same (ProgramForm.Last c) (ProgramForm.Last d) e = ap ProgramForm.Last (decl-same c d [] [] e).0
program-same (ProgramForm.Decls c rest) (ProgramForm.Decls d others) e =
    let h = decl-same c d (program_text rest []) (program_text others []) e in
    let more = program-same rest others h.1 in
    cc (h.0, more)
program-same (ProgramForm.Last c) (ProgramForm.Decls d others) e = absurd (program-not_empty others (decl-same c d [] (program_text others []) e).1)
program-same (ProgramForm.Decls c rest) (ProgramForm.Last d) e = absurd (program-not_empty rest (sym (decl-same c d (program_text rest []) [] e).1))

program_tree : ProgramForm → ProgramTree
program_tree c = record { decls = decls_tree c }

-- tokens have at most one tree
pub tree-same : (toks : List Lexed) (tree other : ProgramTree) → HasTree toks tree → HasTree toks other → tree ≡ other
unfolding program_tree
tree-same toks tree other h k = h.1 ∙ (ap program_tree (program-same h.0.0 k.0.0 (sym h.0.1 ∙ k.0.1)) ∙ sym k.1)
