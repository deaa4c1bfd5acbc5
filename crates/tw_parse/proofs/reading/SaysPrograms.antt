-- What the readers of functions, declarations and programs say.
use Rattle.std.proofs.Common.{◌≡◌, refl, ℕ, suc, List, ◌∷◌, length, ap, ◌∙◌, arith}
use Rattle.tw_text.specs.declared.place.Pos.{Pos}
use Rattle.tw_syntax.specs.Names.{NameTree}
use Rattle.tw_syntax.specs.Types.{WrittenTree}
use Rattle.tw_syntax.specs.Programs.{ParamTree, AliasTree, DeclTree, AliasDecl, FunDecl}
use Rattle.tw_lex.specs.declared.symbol.Symbol.TheVariants as symbols
use Rattle.tw_lex.specs.Tokens.{Lexed, name_at as a_name, sign_at}
use Rattle.tw_parse.specs.Grammar.{TypeForm, type_text}
use Rattle.tw_parse.specs.Statements as form
use Rattle.tw_parse.specs.Statements.{StmtsForm, stmts_text, ParamForm, param_text, MoreParamsForm, more_params_text, ParamsForm, params_text, FunBoundForm, fun_bound_text, FunForm, fun_text, DeclForm, decl_text, ProgramForm, program_text}
use Rattle.tw_parse.specs.Trees.{type_tree, stmts_tree, param_tree, more_params_tree, params_tree, fun_bound_tree, fun_tree, decl_tree}
use Rattle.tw_parse.specs.reading.Steps.{Reader, leads, leads_name, many_at}
use Rattle.tw_parse.specs.reading.Terms.{type_at}
use Rattle.tw_parse.specs.reading.Statements.{stmt_at, chain, goes_before, param_with, comma_param_with, param_list_with, params_at, fun_bound_at, Title, Interface, Return, Body, title_at, interface_at, return_at, body_at, fun_from, fun_at, type_end_at, alias_at, decl_at}
use Rattle.tw_parse.proofs.reading.Says.{Says, says, says_ok, says_as, says_either, says_many, Shorter, says_shorter, Got, Spells}
use Rattle.tw_parse.proofs.reading.SaysTypes.{says_mark, says_open, says_name, says_type, Bracketed, says_bracketed}
use Rattle.tw_parse.proofs.reading.SaysStmts.{says_stmts, says_stmt}
use Rattle.tw_parse.proofs.forms.Grows.{param_grows, decl_grows}

param_of : NameTree → WrittenTree → ParamTree
param_of name ty = record { name = name; ty = ty }

says_param : (inner : Reader WrittenTree) → Spells type_text type_tree inner → Spells param_text param_tree (param_with inner)
unfolding param_with param_of
says_param inner spells ts =
    says (says_name ts) (λ name p. says (says_mark symbols.Colon name.1) (λ colon q. says (spells colon.1) (λ ty c.
    says_ok (record { form = record { at = name.0.at; name = name.0.text; colon = colon.0; ty = c.form }; spelled = cc; value = ap (param_of name.0) c.value }))))

record CommaParam (ts : List Lexed) (x : ParamTree × List Lexed) : Type 0 where
  pub comma : Pos
  pub param : ParamForm
  pub same : ts ≡ sign_at symbols.Comma comma ∷ param_text param x.1
  pub value : x.0 ≡ param_tree param

says_comma_param : (inner : Reader WrittenTree) → Spells type_text type_tree inner → (ts : List Lexed) → Says (CommaParam ts) (comma_param_with inner ts)
unfolding comma_param_with
says_comma_param inner spells ts =
    says (says_mark symbols.Comma ts) (λ comma p. says_as (says_param inner spells comma.1) (λ param c.
    record { comma = comma.0; param = c.form; same = p.same ∙ ap (λ u. sign_at symbols.Comma comma.0 ∷ u) c.spelled; value = c.value }))

pub comma_param_shorter : (inner : Reader WrittenTree) → Spells type_text type_tree inner → (ts : List Lexed) → Says (Shorter ts) (comma_param_with inner ts)
comma_param_shorter inner spells ts = says_as (says_comma_param inner spells ts) (λ x h. record { less = rw h.same (omega (arith, param_grows h.param x.1)) })

says_more_params : (inner : Reader WrittenTree) → Spells type_text type_tree inner → (n : ℕ)
    → Spells more_params_text more_params_tree (many_at (leads symbols.Comma) (comma_param_with inner) n)
says_more_params inner spells n ts = says_many (leads symbols.Comma) (comma_param_with inner) CommaParam (Got more_params_text more_params_tree)
    (λ us. record { form = form.NoMoreParams; spelled = refl; value = refl })
    (λ us x xs h c. record { form = form.MoreParams h.comma h.param c.form; spelled = rw (← c.spelled) h.same; value = rw (h.value, c.value) refl })
    (says_comma_param inner spells) n ts

says_param_list : (inner : Reader WrittenTree) → Spells type_text type_tree inner → Spells params_text params_tree (param_list_with inner)
unfolding param_list_with
says_param_list inner spells ts =
    says_either (leads_name ts) (says (says_param inner spells ts) (λ first c. says (says_more_params inner spells (length first.1) first.1) (λ more d.
    says_ok (record { form = form.Params c.form d.form; spelled = rw (← d.spelled) c.spelled; value = rw (c.value, d.value) refl }))))
    (says_ok (record { form = form.NoParams; spelled = refl; value = refl }))

says_params : (room : ℕ) (ts : List Lexed) → Says (Bracketed symbols.OpenParen symbols.CloseParen params_text params_tree ts) (params_at room ts)
unfolding params_at
says_params room ts = says_bracketed symbols.OpenParen symbols.CloseParen (param_list_with (type_at room)) room (says_param_list (type_at room) (says_type room)) ts

says_fun_bound : Spells fun_bound_text fun_bound_tree fun_bound_at
unfolding fun_bound_at
says_fun_bound ts =
    says_either (leads symbols.OpenBracket ts)
    (says (says_mark symbols.OpenBracket ts) (λ begin p. says (says_name begin.1) (λ name q. says (says_mark symbols.CloseBracket name.1) (λ close r.
    says_ok (record { form = form.FunBound begin.0 name.0.at name.0.text close.0; spelled = cc; value = refl })))))
    (says_ok (record { form = form.NoFunBound; spelled = refl; value = refl }))

record Titling (ts : List Lexed) (x : Title × List Lexed) : Type 0 where
  pub at : Pos
  pub bound : FunBoundForm
  pub same : ts ≡ sign_at symbols.Fun at ∷ a_name x.0.name.text x.0.name.at ∷ fun_bound_text bound x.1
  pub value : x.0.bound ≡ fun_bound_tree bound

says_title : (ts : List Lexed) → Says (Titling ts) (title_at ts)
unfolding title_at
says_title ts =
    says (says_mark symbols.Fun ts) (λ at p. says (says_name at.1) (λ name q. says (says_fun_bound name.1) (λ bound c.
    says_ok (record { at = at.0; bound = c.form; same = cc; value = c.value }))))

record Interfacing (ts : List Lexed) (x : Interface × List Lexed) : Type 0 where
  pub begin : Pos
  pub params : ParamsForm
  pub close : Pos
  pub arrow : Pos
  pub result : TypeForm
  pub same : ts ≡ sign_at symbols.OpenParen begin ∷ params_text params (sign_at symbols.CloseParen close ∷ sign_at symbols.Arrow arrow ∷ type_text result x.1)
  pub params_value : x.0.params ≡ params_tree params
  pub result_value : x.0.result ≡ type_tree result

says_interface : (room : ℕ) (ts : List Lexed) → Says (Interfacing ts) (interface_at room ts)
unfolding interface_at
says_interface room ts =
    says (says_params room ts) (λ params c. says (says_mark symbols.Arrow params.1) (λ arrow p. says (says_type (suc room) arrow.1) (λ result d.
    says_ok (record { begin = c.begin; params = c.form; close = c.close; arrow = arrow.0; result = d.form; same = cc; params_value = c.value; result_value = d.value }))))

record Returning (ts : List Lexed) (x : Return × List Lexed) : Type 0 where
  pub semicolon : Pos
  pub same : ts ≡ sign_at symbols.Return x.0.at ∷ a_name x.0.name.text x.0.name.at ∷ sign_at symbols.Semicolon semicolon ∷ x.1

says_return : (ts : List Lexed) → Says (Returning ts) (return_at ts)
unfolding return_at
says_return ts =
    says (says_mark symbols.Return ts) (λ at p. says (says_name at.1) (λ name q. says (says_mark symbols.Semicolon name.1) (λ end r. says_ok (record { semicolon = end.0; same = cc }))))

record Bodied (ts : List Lexed) (x : Body × List Lexed) : Type 0 where
  pub begin : Pos
  pub stmts : StmtsForm
  pub semicolon : Pos
  pub close : Pos
  pub same : ts ≡ sign_at symbols.OpenBrace begin ∷ stmts_text stmts (sign_at symbols.Return x.0.last.at ∷ a_name x.0.last.name.text x.0.last.name.at
      ∷ sign_at symbols.Semicolon semicolon ∷ sign_at symbols.CloseBrace close ∷ x.1)
  pub value : chain x.0.stmts ≡ stmts_tree stmts

says_body : (room : ℕ) (ts : List Lexed) → Says (Bodied ts) (body_at room ts)
unfolding body_at
says_body room ts =
    says (says_open symbols.OpenBrace room ts) (λ begin p. says (says_stmts (goes_before symbols.Return) (stmt_at room) (says_stmt room) (length begin.1) begin.1) (λ stmts c.
    says (says_return stmts.1) (λ last q. says (says_mark symbols.CloseBrace last.1) (λ close r.
    says_ok (record { begin = begin.0; stmts = c.form; semicolon = q.semicolon; close = close.0; same = cc; value = c.value })))))

fun_form : (title : Title) (interface : Interface) (body : Body) (ts us vs k : List Lexed)
    → Titling ts (title, us) → Interfacing us (interface, vs) → Bodied vs (body, k) → FunForm
fun_form title interface body ts us vs k t i b = record {
  at = t.at;
  name_at = title.name.at;
  name = title.name.text;
  bound = t.bound;
  paren = i.begin;
  params = i.params;
  paren_end = i.close;
  arrow = i.arrow;
  result = i.result;
  begin = b.begin;
  body = b.stmts;
  return_at = body.last.at;
  returned_at = body.last.name.at;
  returned = body.last.name.text;
  semicolon = b.semicolon;
  end = b.close;
}

fun_got : (title : Title) (interface : Interface) (body : Body) (ts us vs k : List Lexed)
    → Titling ts (title, us) → Interfacing us (interface, vs) → Bodied vs (body, k) → Got fun_text fun_tree ts (fun_from title interface body, k)
unfolding fun_form
fun_got title interface body ts us vs k t i b = record {
  form = fun_form title interface body ts us vs k t i b;
  spelled = rw (← b.same, ← i.same) t.same;
  value = rw (← t.value, ← i.params_value, ← i.result_value, ← b.value) refl;
}

says_fun : (room : ℕ) → Spells fun_text fun_tree (fun_at room)
unfolding fun_at
says_fun room ts =
    says (says_title ts) (λ title t. says (says_interface room title.1) (λ interface i. says (says_body room interface.1) (λ body b.
    says_ok (fun_got title.0 interface.0 body.0 ts title.1 interface.1 body.1 t i b))))

record TypeEnd (ts : List Lexed) (x : WrittenTree × List Lexed) : Type 0 where
  pub ty : TypeForm
  pub semicolon : Pos
  pub same : ts ≡ type_text ty (sign_at symbols.Semicolon semicolon ∷ x.1)
  pub value : x.0 ≡ type_tree ty

says_type_end : (room : ℕ) (ts : List Lexed) → Says (TypeEnd ts) (type_end_at room ts)
unfolding type_end_at
says_type_end room ts =
    says (says_type (suc room) ts) (λ body c. says (says_mark symbols.Semicolon body.1) (λ end p.
    says_ok (record { ty = c.form; semicolon = end.0; same = cc; value = c.value })))

record Aliased (ts : List Lexed) (x : AliasTree × List Lexed) : Type 0 where
  pub at : Pos
  pub is : Pos
  pub body : TypeForm
  pub semicolon : Pos
  pub same : ts ≡ sign_at symbols.Type at ∷ a_name x.0.name.text x.0.name.at ∷ sign_at symbols.Define is ∷ type_text body (sign_at symbols.Semicolon semicolon ∷ x.1)
  pub value : x.0.body ≡ type_tree body

says_alias : (room : ℕ) (ts : List Lexed) → Says (Aliased ts) (alias_at room ts)
unfolding alias_at
says_alias room ts =
    says (says_mark symbols.Type ts) (λ at p. says (says_name at.1) (λ name q. says (says_mark symbols.Define name.1) (λ is r. says (says_type_end room is.1) (λ body c.
    says_ok (record { at = at.0; is = is.0; body = c.ty; semicolon = c.semicolon; same = cc; value = c.value })))))

alias_of : NameTree → WrittenTree → DeclTree
alias_of name body = AliasDecl (record { name = name; body = body })

pub says_decl : (room : ℕ) → Spells decl_text decl_tree (decl_at room)
unfolding decl_at alias_of
says_decl room ts =
    says_either (leads symbols.Type ts) (says (says_alias room ts) (λ alias a.
    says_ok (record { form = form.Alias a.at alias.0.name.at alias.0.name.text a.is a.body a.semicolon; spelled = a.same; value = ap (alias_of alias.0.name) a.value })))
    (says (says_fun room ts) (λ fun c. says_ok (record { form = form.Fun c.form; spelled = c.spelled; value = ap FunDecl c.value })))

pub decl_shorter : (room : ℕ) (ts : List Lexed) → Says (Shorter ts) (decl_at room ts)
decl_shorter room ts = says_shorter decl_grows (says_decl room ts)
