-- The automaton follows the readers of functions, declarations and programs.
use Rattle.std.proofs.Common.{refl, ℕ, zero, suc, List, [], ◌∷◌}
use Rattle.std.proofs.Math.Dec.{eqb-suc-zero}
use Rattle.tw_text.specs.declared.place.Pos.{Pos}
use Rattle.tw_lex.specs.declared.symbol.Symbol.TheVariants as symbols
use Rattle.tw_lex.specs.Tokens.{Lexeme, Name, Sign, Lexed}
use Rattle.tw_parse.specs.reading.Steps.{leads, all_at}
use Rattle.tw_parse.specs.reading.Terms.{type_at}
use Rattle.tw_parse.specs.reading.Statements.{param_with, comma_param_with, param_list_with, params_at, fun_bound_at, title_at, interface_at, return_at, body_at, fun_at, type_end_at, alias_at, decl_at, is_more}
use Rattle.tw_parse.proofs.automaton.Transitions.{Expected, TheMark, Name', Type', Decl', FunBody', AfterFunName', FunParams', Params', MoreParams', run}
use Rattle.tw_parse.proofs.tokens.Words.{tok}
use Rattle.tw_parse.proofs.reading.Runs.{follow, Runs, Reads, ReadsAt, bind, done}
use Rattle.tw_parse.proofs.reading.RunsTypes.{runs_mark, runs_name, runs_type}
use Rattle.tw_parse.proofs.reading.RunsLists.{Turn, runs_all}
use Rattle.tw_parse.proofs.reading.RunsStmts.{runs_body_stmts}
use Rattle.tw_parse.proofs.reading.SaysTypes.{says_type}
use Rattle.tw_parse.proofs.reading.SaysPrograms.{comma_param_shorter, decl_shorter}

runs_param : (room : ℕ) (ts : List Lexed) (st : List Expected) → Runs (run ts room (Name' ∷ TheMark symbols.Colon refl ∷ Type' ∷ st)) (param_with (type_at (suc room)) ts) room st
unfolding param_with
runs_param room ts st = bind (runs_name room ts _) (λ name. bind (runs_mark symbols.Colon refl room name.1 _) (λ colon. bind (runs_type room colon.1 st) (λ ty. done)))

params_turn_at : (room : ℕ) (w : Lexeme) (p : Pos) (ts : List Lexed) (st : List Expected)
    → Turn (comma_param_with (type_at (suc room))) room (MoreParams' ∷ st) (TheMark symbols.CloseParen refl ∷ st) (leads symbols.Comma (tok w p ∷ ts)) (tok w p ∷ ts)
unfolding comma_param_with
params_turn_at room (Sign symbols.Comma) p ts st = runs_param room ts (MoreParams' ∷ st)
params_turn_at room w p ts st = refl

params_turn : (room : ℕ) (st : List Expected) (ts : List Lexed)
    → Turn (comma_param_with (type_at (suc room))) room (MoreParams' ∷ st) (TheMark symbols.CloseParen refl ∷ st) (leads symbols.Comma ts) ts
params_turn room st [] = refl
params_turn room st (t ∷ ts) = params_turn_at room t.lexeme t.at ts st

runs_more_params : (room : ℕ) (ts : List Lexed) (st : List Expected)
    → Runs (run ts room (MoreParams' ∷ st)) (all_at (leads symbols.Comma) (comma_param_with (type_at (suc room))) ts) room (TheMark symbols.CloseParen refl ∷ st)
runs_more_params room ts st =
    runs_all (leads symbols.Comma) (comma_param_with (type_at (suc room))) room (MoreParams' ∷ st) (TheMark symbols.CloseParen refl ∷ st) refl
    (params_turn room st) (comma_param_shorter (type_at (suc room)) (says_type (suc room))) ts

runs_param_list_at : (room : ℕ) (w : Lexeme) (p : Pos) (ts : List Lexed) (st : List Expected)
    → Runs (run (tok w p ∷ ts) room (Params' ∷ st)) (param_list_with (type_at (suc room)) (tok w p ∷ ts)) room (TheMark symbols.CloseParen refl ∷ st)
unfolding param_list_with follow
runs_param_list_at room (Name text) p ts st =
    bind (runs_param room (tok (Name text) p ∷ ts) (MoreParams' ∷ st)) (λ first. bind (runs_more_params room first.1 st) (λ more. done))
runs_param_list_at room (Sign symbols.CloseParen) p ts st = record { same = refl }
runs_param_list_at room w p ts st = record { same = refl }

runs_param_list : (room : ℕ) (ts : List Lexed) (st : List Expected)
    → Runs (run ts room (Params' ∷ st)) (param_list_with (type_at (suc room)) ts) room (TheMark symbols.CloseParen refl ∷ st)
unfolding param_list_with follow
runs_param_list room [] st = record { same = refl }
runs_param_list room (t ∷ ts) st = runs_param_list_at room t.lexeme t.at ts st

runs_params_at : (room : ℕ) (w : Lexeme) → ReadsAt FunParams' (params_at room) room w
unfolding params_at follow
runs_params_at zero (Sign symbols.OpenParen) p ts st = record { same = refl }
runs_params_at (suc room) (Sign symbols.OpenParen) p ts st =
    rw (eqb-suc-zero room) (bind (runs_param_list room ts st) (λ params. bind (runs_mark symbols.CloseParen refl room params.1 st) (λ close. done)))
runs_params_at room w p ts st = record { same = refl }

runs_params : (room : ℕ) → Reads FunParams' (params_at room) room
unfolding params_at follow
runs_params room [] st = record { same = refl }
runs_params room (t ∷ ts) st = runs_params_at room t.lexeme t.at ts st

runs_fun_bound_at : (room : ℕ) (w : Lexeme) (p : Pos) (ts : List Lexed) (st : List Expected)
    → Runs (run (tok w p ∷ ts) room (AfterFunName' ∷ st)) (fun_bound_at (tok w p ∷ ts)) room (FunParams' ∷ st)
unfolding fun_bound_at follow
runs_fun_bound_at room (Sign symbols.OpenBracket) p ts st =
    bind (runs_name room ts _) (λ name. bind (runs_mark symbols.CloseBracket refl room name.1 (FunParams' ∷ st)) (λ close. done))
runs_fun_bound_at room w p ts st = record { same = refl }

runs_fun_bound : (room : ℕ) (ts : List Lexed) (st : List Expected) → Runs (run ts room (AfterFunName' ∷ st)) (fun_bound_at ts) room (FunParams' ∷ st)
unfolding fun_bound_at follow
runs_fun_bound room [] st = record { same = refl }
runs_fun_bound room (t ∷ ts) st = runs_fun_bound_at room t.lexeme t.at ts st

runs_interface : (room : ℕ) (ts : List Lexed) (st : List Expected)
    → Runs (run ts room (FunParams' ∷ TheMark symbols.Arrow refl ∷ Type' ∷ st)) (interface_at room ts) room st
unfolding interface_at
runs_interface room ts st =
    bind (runs_params room ts _) (λ params. bind (runs_mark symbols.Arrow refl room params.1 _) (λ arrow. bind (runs_type room arrow.1 st) (λ result. done)))

runs_return : (room : ℕ) (ts : List Lexed) (st : List Expected)
    → Runs (run ts room (TheMark symbols.Return refl ∷ Name' ∷ TheMark symbols.Semicolon refl ∷ st)) (return_at ts) room st
unfolding return_at
runs_return room ts st =
    bind (runs_mark symbols.Return refl room ts _) (λ at. bind (runs_name room at.1 _) (λ name. bind (runs_mark symbols.Semicolon refl room name.1 st) (λ end. done)))

runs_body_at : (room : ℕ) (w : Lexeme) → ReadsAt FunBody' (body_at room) room w
unfolding body_at follow
runs_body_at zero (Sign symbols.OpenBrace) p ts st = record { same = refl }
runs_body_at (suc room) (Sign symbols.OpenBrace) p ts st =
    rw (eqb-suc-zero room) (bind (runs_body_stmts room ts st) (λ stmts. bind (runs_return room stmts.1 (TheMark symbols.CloseBrace refl ∷ st)) (λ last.
    bind (runs_mark symbols.CloseBrace refl room last.1 st) (λ close. done))))
runs_body_at room w p ts st = record { same = refl }

runs_body : (room : ℕ) → Reads FunBody' (body_at room) room
unfolding body_at follow
runs_body room [] st = record { same = refl }
runs_body room (t ∷ ts) st = runs_body_at room t.lexeme t.at ts st

runs_type_end : (room : ℕ) (ts : List Lexed) (st : List Expected) → Runs (run ts room (Type' ∷ TheMark symbols.Semicolon refl ∷ st)) (type_end_at room ts) room st
unfolding type_end_at
runs_type_end room ts st = bind (runs_type room ts _) (λ body. bind (runs_mark symbols.Semicolon refl room body.1 st) (λ end. done))

runs_decl_at : (room : ℕ) (w : Lexeme) → ReadsAt Decl' (decl_at room) room w
unfolding decl_at alias_at fun_at title_at follow
runs_decl_at room (Sign symbols.Type) p ts st =
    bind (bind (runs_name room ts _) (λ name. bind (runs_mark symbols.Define refl room name.1 _) (λ is. bind (runs_type_end room is.1 st) (λ body. done)))) (λ alias. done)
runs_decl_at room (Sign symbols.Fun) p ts st =
    bind (bind (bind (runs_name room ts _) (λ name. bind (runs_fun_bound room name.1 _) (λ bound. done))) (λ title.
    bind (runs_interface room title.1 _) (λ interface. bind (runs_body room interface.1 st) (λ body. done)))) (λ fun. done)
runs_decl_at room w p ts st = record { same = refl }

pub runs_decl : (room : ℕ) → Reads Decl' (decl_at room) room
unfolding decl_at fun_at title_at follow
runs_decl room [] st = record { same = refl }
runs_decl room (t ∷ ts) st = runs_decl_at room t.lexeme t.at ts st

-- after a program a further declaration may stand
decls_turn_at : (room : ℕ) (w : Lexeme) (p : Pos) (ts : List Lexed) → Runs (run (tok w p ∷ ts) room []) (decl_at room (tok w p ∷ ts)) room []
decls_turn_at room (Sign symbols.Type) p ts = runs_decl room (tok (Sign symbols.Type) p ∷ ts) []
decls_turn_at room w p ts = runs_decl room (tok w p ∷ ts) []

decls_turn : (room : ℕ) (ts : List Lexed) → Turn (decl_at room) room [] [] (is_more ts) ts
decls_turn room [] = refl
decls_turn room (t ∷ ts) = decls_turn_at room t.lexeme t.at ts

pub runs_decls : (room : ℕ) (ts : List Lexed) → Runs (run ts room []) (all_at is_more (decl_at room) ts) room []
runs_decls room ts = runs_all is_more (decl_at room) room [] [] refl (decls_turn room) (decl_shorter room) ts
