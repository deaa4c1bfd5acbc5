-- The printed form of a program spells its tokens.
use Rattle.std.proofs.Common.{List, refl}
use Rattle.tw_lex.specs.declared.symbol.Symbol.TheVariants as symbols
use Rattle.tw_parse.specs.Statements as form
use Rattle.tw_parse.specs.Statements.{ParamForm, param_text, MoreParamsForm, more_params_text, ParamsForm, params_text, FunBoundForm, fun_bound_text, FunForm, fun_text, DeclForm, decl_text, ProgramForm, program_text}
use Rattle.tw_parse.specs.Trees.{param_tree, more_params_tree, params_tree, fun_bound_tree, fun_tree, decl_tree, decls_tree}
use Rattle.tw_lex.specs.Tokens.{Lexed}
use Rattle.tw_print.specs.Programs.{param_print, more_params_print, params_print, fun_bound_print, fun_print, decl_print, decls_print}
use Rattle.tw_print.proofs.Spelling.{Clear, Wordy, Spelt, ◌▹◌, spelt_none, loose, tight}
use Rattle.tw_print.proofs.SpeltMarks.{sign, name, space, newline}
use Rattle.tw_print.proofs.SpeltTerms.{comma, type_spelt}
use Rattle.tw_print.proofs.SpeltStatements.{stmts_spelt}

param_spelt : {us : List Lexed} (f : ParamForm) → Spelt Clear Wordy (param_print (param_tree f)) (param_text f us) us
param_spelt f = name f.name refl ▹ (sign symbols.Colon refl ▹ space) ▹ loose (type_spelt f.ty)

more_params_spelt : {us : List Lexed} (f : MoreParamsForm) → Spelt Wordy Wordy (more_params_print (more_params_tree f)) (more_params_text f us) us
more_params_spelt form.NoMoreParams = spelt_none
more_params_spelt (form.MoreParams p param rest) = comma ▹ param_spelt param ▹ more_params_spelt rest

params_spelt : {us : List Lexed} (f : ParamsForm) → Spelt Clear Wordy (params_print (params_tree f)) (params_text f us) us
params_spelt form.NoParams = tight spelt_none
params_spelt (form.Params param rest) = param_spelt param ▹ more_params_spelt rest

fun_bound_spelt : {us : List Lexed} (f : FunBoundForm) → Spelt Wordy Wordy (fun_bound_print (fun_bound_tree f)) (fun_bound_text f us) us
fun_bound_spelt form.NoFunBound = spelt_none
fun_bound_spelt (form.FunBound p n text q) = sign symbols.OpenBracket refl ▹ name text refl ▹ tight (sign symbols.CloseBracket refl)

fun_spelt : {us : List Lexed} (f : FunForm) → Spelt Clear Clear (fun_print (fun_tree f)) (fun_text f us) us
fun_spelt f =
    (
    (sign symbols.Fun refl ▹ space) ▹ name f.name refl ▹ fun_bound_spelt f.bound ▹ sign symbols.OpenParen refl ▹ params_spelt f.params
    ▹ (sign symbols.CloseParen refl ▹ space ▹ sign symbols.Arrow refl ▹ space) ▹ loose (type_spelt f.result) ▹ (space ▹ sign symbols.OpenBrace refl ▹ newline)
    )
    ▹ stmts_spelt 1 f.body
    ▹ ((space ▹ space ▹ sign symbols.Return refl ▹ space) ▹ name f.returned refl ▹ (sign symbols.Semicolon refl ▹ newline ▹ sign symbols.CloseBrace refl ▹ newline))

pub decl_spelt : {us : List Lexed} (f : DeclForm) → Spelt Clear Clear (decl_print (decl_tree f)) (decl_text f us) us
decl_spelt (form.Alias p n text q body r) =
    (sign symbols.Type refl ▹ space) ▹ name text refl ▹ (space ▹ sign symbols.Define refl ▹ space) ▹ loose (type_spelt body) ▹ (sign symbols.Semicolon refl ▹ newline)
decl_spelt (form.Fun fun) = fun_spelt fun

pub decls_spelt : {us : List Lexed} (f : ProgramForm) → Spelt Clear Clear (decls_print (decls_tree f)) (program_text f us) us
decls_spelt (form.Last decl) = decl_spelt decl ▹ spelt_none
decls_spelt (form.Decls decl rest) = decl_spelt decl ▹ decls_spelt rest
