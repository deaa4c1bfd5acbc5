-- The automaton takes the text of each declaration and program.
use Rattle.std.proofs.Common.{◌≡◌, refl, List, [], ◌∷◌, ◌∙◌, Some}
use Rattle.tw_text.specs.declared.place.Pos.{Pos}
use Rattle.tw_lex.specs.declared.symbol.Symbol.TheVariants as symbols
use Rattle.tw_lex.specs.Tokens.{Lexed, name_at, sign_at}
use Rattle.tw_parse.specs.Statements.{MoreParamsForm, more_params_text, ParamsForm, params_text, FunBoundForm, fun_bound_text, FunForm, fun_text, DeclForm, decl_text, ProgramForm, program_text}
use Rattle.tw_parse.proofs.automaton.Transitions.{Expected, TheMark, Type', Body', FunBody', AfterFunName', Params', MoreParams', Decl'}
use Rattle.tw_parse.proofs.automaton.Walks.{walk}
use Rattle.tw_parse.proofs.automaton.TakenExprs.{takes_type}
use Rattle.tw_parse.proofs.automaton.TakenStmts.{takes_stmts, body_absorbs}

pub takes_more_params : (c : MoreParamsForm) (q : Pos) (k : List Lexed) (st : List Expected) → walk (more_params_text c (sign_at symbols.CloseParen q ∷ k)) (MoreParams' ∷ st) ≡ walk k st
takes_more_params MoreParamsForm.NoMoreParams q k st = refl
takes_more_params (MoreParamsForm.MoreParams p param rest) q k st =
    takes_type param.ty (more_params_text rest (sign_at symbols.CloseParen q ∷ k)) (MoreParams' ∷ st) ∙ takes_more_params rest q k st

pub takes_params : (c : ParamsForm) (q : Pos) (k : List Lexed) (st : List Expected) → walk (params_text c (sign_at symbols.CloseParen q ∷ k)) (Params' ∷ st) ≡ walk k st
takes_params ParamsForm.NoParams q k st = refl
takes_params (ParamsForm.Params param rest) q k st =
    takes_type param.ty (more_params_text rest (sign_at symbols.CloseParen q ∷ k)) (MoreParams' ∷ st) ∙ takes_more_params rest q k st

takes_fun_bound : (c : FunBoundForm) (p : Pos) (k : List Lexed) (st : List Expected) → walk (fun_bound_text c (sign_at symbols.OpenParen p ∷ k)) (AfterFunName' ∷ st) ≡ walk k (Params' ∷ st)
takes_fun_bound FunBoundForm.NoFunBound p k st = refl
takes_fun_bound (FunBoundForm.FunBound b n name e) p k st = refl

pub takes_fun : (c : FunForm) (k : List Lexed) (st : List Expected) → walk (fun_text c k) (Decl' ∷ st) ≡ walk k st
takes_fun c k st =
    takes_fun_bound c.bound c.paren _ (TheMark symbols.Arrow refl ∷ Type' ∷ FunBody' ∷ st)
    ∙ (takes_params c.params c.paren_end _ (TheMark symbols.Arrow refl ∷ Type' ∷ FunBody' ∷ st)
    ∙ (takes_type c.result _ (FunBody' ∷ st)
    ∙ takes_stmts c.body Body' (sign_at symbols.Return c.return_at ∷ name_at c.returned c.returned_at ∷ sign_at symbols.Semicolon c.semicolon ∷ sign_at symbols.CloseBrace c.end ∷ k) st
    body_absorbs (λ s. refl)))

pub takes_decl : (c : DeclForm) (k : List Lexed) (st : List Expected) → walk (decl_text c k) (Decl' ∷ st) ≡ walk k st
takes_decl (DeclForm.Alias p n name q body r) k st = takes_type body (sign_at symbols.Semicolon r ∷ k) (TheMark symbols.Semicolon refl ∷ st)
takes_decl (DeclForm.Fun fun) k st = takes_fun fun k st

-- after a declaration a program goes on as it begins
goes_on : (c : ProgramForm) (k : List Lexed) → walk (program_text c k) [] ≡ walk (program_text c k) (Decl' ∷ [])
goes_on (ProgramForm.Last (DeclForm.Alias p n name q body r)) k = refl
goes_on (ProgramForm.Last (DeclForm.Fun fun)) k = refl
goes_on (ProgramForm.Decls (DeclForm.Alias p n name q body r) rest) k = refl
goes_on (ProgramForm.Decls (DeclForm.Fun fun) rest) k = refl

pub takes_program : (c : ProgramForm) → walk (program_text c []) (Decl' ∷ []) ≡ Some []
takes_program (ProgramForm.Last decl) = takes_decl decl [] []
takes_program (ProgramForm.Decls decl rest) = takes_decl decl (program_text rest []) [] ∙ (goes_on rest [] ∙ takes_program rest)
