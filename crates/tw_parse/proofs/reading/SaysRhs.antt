-- What the readers of bounds, calls and right sides say.
use Rattle.std.proofs.Common.{◌≡◌, refl, ℕ, List, ◌∷◌, length, ap, arith}
use Rattle.tw_text.specs.declared.place.Pos.{Pos}
use Rattle.tw_syntax.specs.Names.{NameTree}
use Rattle.tw_lex.specs.declared.symbol.Symbol.TheVariants as symbols
use Rattle.tw_lex.specs.Tokens.{Lexed, name_at, sign_at}
use Rattle.tw_parse.specs.Grammar as form
use Rattle.tw_parse.specs.Grammar.{bound_text, call_bound_text, MoreNamesForm, more_names_text, NamesForm, names_text, rhs_text}
use Rattle.tw_parse.specs.Trees.{bound_tree, call_bound_tree, more_names_tree, names_tree, rhs_tree}
use Rattle.tw_parse.specs.reading.Steps.{leads, leads_name, leads_number, many_at}
use Rattle.tw_parse.specs.reading.Terms.{type_at, named_bound_at, bound_at, call_bound_at, comma_name_at, names_at, args_at, call_at, leads_call, alloc_at, rhs_at}
use Rattle.tw_parse.proofs.reading.Says.{Says, says, says_ok, says_as, says_either, says_many, Shorter, Got, Spells}
use Rattle.tw_parse.proofs.reading.SaysTypes.{says_mark, says_name, Bracketed, says_bracketed, says_angle, says_type}
use Rattle.tw_parse.proofs.reading.SaysPaths.{says_small}
use Rattle.tw_parse.proofs.reading.SaysExprs.{says_expr}

says_named_bound : Spells bound_text bound_tree named_bound_at
unfolding named_bound_at
says_named_bound ts =
    says (says_name ts) (λ name p. says_either (leads symbols.Minus name.1)
    (says (says_mark symbols.Minus name.1) (λ minus q. says (says_small minus.1) (λ number r.
    says_ok (record { form = form.Less name.0.at name.0.text minus.0 r.at number.0 r.small; spelled = cc; value = refl }))))
    (says_ok (record { form = form.Named name.0.at name.0.text; spelled = p.same; value = refl })))

says_bound : Spells bound_text bound_tree bound_at
unfolding bound_at
says_bound ts =
    says_either (leads_number ts) (says (says_small ts) (λ number p. says_ok (record { form = form.Fixed p.at number.0 p.small; spelled = p.same; value = refl })))
    (says_named_bound ts)

says_call_bound : Spells call_bound_text call_bound_tree call_bound_at
unfolding call_bound_at
says_call_bound ts =
    says_either (leads symbols.OpenBracket ts)
    (says (says_mark symbols.OpenBracket ts) (λ begin p. says (says_bound begin.1) (λ bound c. says (says_mark symbols.CloseBracket bound.1) (λ close q.
    says_ok (record { form = form.Bound begin.0 c.form close.0; spelled = cc; value = cc })))))
    (says_ok (record { form = form.NoBound; spelled = refl; value = refl }))

record CommaName (ts : List Lexed) (x : NameTree × List Lexed) : Type 0 where
  pub comma : Pos
  pub same : ts ≡ sign_at symbols.Comma comma ∷ name_at x.0.text x.0.at ∷ x.1

says_comma_name : (ts : List Lexed) → Says (CommaName ts) (comma_name_at ts)
unfolding comma_name_at
says_comma_name ts = says (says_mark symbols.Comma ts) (λ comma p. says_as (says_name comma.1) (λ name q. record { comma = comma.0; same = cc }))

pub comma_name_shorter : (ts : List Lexed) → Says (Shorter ts) (comma_name_at ts)
comma_name_shorter ts = says_as (says_comma_name ts) (λ x h. record { less = rw h.same (omega arith) })

says_more_names : (n : ℕ) → Spells more_names_text more_names_tree (many_at (leads symbols.Comma) comma_name_at n)
says_more_names n ts = says_many (leads symbols.Comma) comma_name_at CommaName (Got more_names_text more_names_tree)
    (λ us. record { form = form.NoMore; spelled = refl; value = refl })
    (λ us x xs h c. record { form = form.More h.comma x.0.at x.0.text c.form; spelled = cc; value = ap (λ l. x.0 ∷ l) c.value }) says_comma_name n ts

says_names : Spells names_text names_tree names_at
unfolding names_at
says_names ts =
    says_either (leads_name ts) (says (says_name ts) (λ first p. says (says_more_names (length first.1) first.1) (λ more c.
    says_ok (record { form = form.Names first.0.at first.0.text c.form; spelled = cc; value = ap (λ l. first.0 ∷ l) c.value }))))
    (says_ok (record { form = form.NoNames; spelled = refl; value = refl }))

says_args : (room : ℕ) (ts : List Lexed) → Says (Bracketed symbols.OpenParen symbols.CloseParen names_text names_tree ts) (args_at room ts)
unfolding args_at
says_args room ts = says_bracketed symbols.OpenParen symbols.CloseParen names_at room says_names ts

says_call : (room : ℕ) → Spells rhs_text rhs_tree (call_at room)
unfolding call_at
says_call room ts =
    says (says_name ts) (λ callee p. says (says_call_bound callee.1) (λ bound c. says (says_args room bound.1) (λ args d.
    says_ok (record { form = form.Call callee.0.at callee.0.text c.form d.begin d.form d.close; spelled = cc; value = cc }))))

pub says_rhs : (room : ℕ) → Spells rhs_text rhs_tree (rhs_at room)
unfolding rhs_at alloc_at
says_rhs room ts =
    says_either (leads symbols.Alloc ts) (says (says_mark symbols.Alloc ts) (λ at p. says (says_angle (type_at room) room (says_type room) at.1) (λ of c.
    says_ok (record { form = form.Alloc at.0 c.begin c.form c.close; spelled = cc; value = cc }))))
    (says_either (leads_call ts) (says_call room ts)
    (says (says_expr room ts) (λ expr c. says_ok (record { form = form.Plain c.form; spelled = c.spelled; value = cc }))))
