-- Each move of the automaton is a step of the grammar: parameters, functions and declarations.
use Rattle.std.proofs.Common.{refl, ℕ, List, ◌∷◌}
use Rattle.tw_text.specs.declared.place.Pos.{Pos}
use Rattle.tw_lex.specs.declared.symbol.Symbol.TheVariants as symbols
use Rattle.tw_lex.specs.Tokens.{Lexeme, Name, Sign, Lexed, name_at, sign_at}
use Rattle.tw_parse.specs.Statements.{MoreParamsForm, ParamsForm, FunBoundForm, DeclForm}
use Rattle.tw_parse.proofs.automaton.Transitions.{Expected, TheMark, Name', Type', FunBody', AfterFunName', FunParams', Params', MoreParams', Decl'}
use Rattle.tw_parse.proofs.automaton.Awaited.{spelled, joined, Has, Forest, Built}

pub builds_more_params : (w : Lexeme) → Built MoreParams' w
builds_more_params (Sign symbols.Comma) p ts st = λ f. further p ts st f
  where
    further : (p : Pos) (ts : List Lexed) (st : List Expected) → Forest (Name' ∷ TheMark symbols.Colon refl ∷ Type' ∷ MoreParams' ∷ st) ts → Has MoreParams' (sign_at symbols.Comma p ∷ ts) (Forest st)
    further p ts st f =
        spelled (λ x. sign_at symbols.Comma p ∷ x) (λ c. (MoreParamsForm.MoreParams p (record { at = c.0.0.0.at; name = c.0.0.0.name; colon = c.0.0.1; ty = c.0.1 }) c.1.0, c.1.1)) (λ c k. refl)
        (joined (joined (joined f)))
builds_more_params (Sign symbols.CloseParen) p ts st = λ f. record { form = (MoreParamsForm.NoMoreParams, p); rest = ts; parts = refl; more = f }
builds_more_params w p ts st = tt

pub builds_params : (w : Lexeme) → Built Params' w
builds_params (Sign symbols.CloseParen) p ts st = λ f. record { form = (ParamsForm.NoParams, p); rest = ts; parts = refl; more = f }
builds_params (Name text) p ts st = λ f. first text p ts st f
  where
    first : (text : List ℕ) (p : Pos) (ts : List Lexed) (st : List Expected) → Forest (TheMark symbols.Colon refl ∷ Type' ∷ MoreParams' ∷ st) ts → Has Params' (name_at text p ∷ ts) (Forest st)
    first text p ts st f =
        spelled (λ x. name_at text p ∷ x) (λ c. (ParamsForm.Params (record { at = p; name = text; colon = c.0.0; ty = c.0.1 }) c.1.0, c.1.1)) (λ c k. refl) (joined (joined f))
builds_params w p ts st = tt

pub builds_fun_params : (w : Lexeme) → Built FunParams' w
builds_fun_params (Sign symbols.OpenParen) p ts st = λ f. spelled (λ x. sign_at symbols.OpenParen p ∷ x) (λ c. (p, c)) (λ c k. refl) f
builds_fun_params w p ts st = tt

pub builds_after_fun_name : (w : Lexeme) → Built AfterFunName' w
builds_after_fun_name (Sign symbols.OpenBracket) p ts st = λ f.
    spelled (λ x. sign_at symbols.OpenBracket p ∷ x) (λ c. (FunBoundForm.FunBound p c.0.0.at c.0.0.name c.0.1, c.1)) (λ c k. refl) (joined (joined f))
builds_after_fun_name (Sign symbols.OpenParen) p ts st = λ f. spelled (λ x. sign_at symbols.OpenParen p ∷ x) (λ c. (FunBoundForm.NoFunBound, (p, c))) (λ c k. refl) f
builds_after_fun_name w p ts st = tt

alias : (p : Pos) (ts : List Lexed) (st : List Expected) → Forest (Name' ∷ TheMark symbols.Define refl ∷ Type' ∷ TheMark symbols.Semicolon refl ∷ st) ts → Has Decl' (sign_at symbols.Type p ∷ ts) (Forest st)
alias p ts st f = spelled (λ x. sign_at symbols.Type p ∷ x) (λ c. DeclForm.Alias p c.0.0.0.at c.0.0.0.name c.0.0.1 c.0.1 c.1) (λ c k. refl) (joined (joined (joined f)))

function : (p : Pos) (ts : List Lexed) (st : List Expected) → Forest (Name' ∷ AfterFunName' ∷ TheMark symbols.Arrow refl ∷ Type' ∷ FunBody' ∷ st) ts → Has Decl' (sign_at symbols.Fun p ∷ ts) (Forest st)
function p ts st f =
    spelled (λ x. sign_at symbols.Fun p ∷ x) (λ c. DeclForm.Fun (record {
      at = p;
      name_at = c.0.0.0.0.at;
      name = c.0.0.0.0.name;
      bound = c.0.0.0.1.0;
      paren = c.0.0.0.1.1.0;
      params = c.0.0.0.1.1.1.0;
      paren_end = c.0.0.0.1.1.1.1;
      arrow = c.0.0.1;
      result = c.0.1;
      begin = c.1.0;
      body = c.1.1.stmts;
      return_at = c.1.1.return_at;
      returned_at = c.1.1.returned.at;
      returned = c.1.1.returned.name;
      semicolon = c.1.1.semicolon;
      end = c.1.1.end;
    })) (λ c k. refl) (joined (joined (joined (joined f))))

pub builds_decl : (w : Lexeme) → Built Decl' w
builds_decl (Sign symbols.Type) p ts st = λ f. alias p ts st f
builds_decl (Sign symbols.Fun) p ts st = λ f. function p ts st f
builds_decl w p ts st = tt
