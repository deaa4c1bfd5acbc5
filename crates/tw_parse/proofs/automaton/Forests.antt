-- Tokens that the automaton takes meet what is awaited, so whole ones that it takes are a program.
use Rattle.std.proofs.Common.{◌≡◌, refl, List, [], ◌∷◌, ap, ◌∙◌, ◌⊎◌, inl, inr, Bool, true, false, Some, arith}
use Rattle.tw_lex.specs.Tokens.{Lexeme, Lexed}
use Rattle.tw_parse.specs.Grammar.{AtomForm, ExprForm, RhsForm, BoundForm, StepsForm}
use Rattle.tw_parse.specs.Statements.{StmtForm, ProgramForm, decl_text}
use Rattle.tw_parse.specs.Prefixes.{IsProgram}
use Rattle.tw_parse.proofs.automaton.Transitions.{Expected, TheMark, Name', Step', Small', Angled', Type', Paren', Path', Steps', Atom', Expr', ExprParen', OpTail', Rhs', AfterName', Bound', BoundTail', CallArgs', Args', MoreArgs', Stmt', LetArrow', Stmts', ElseTail', Block', Body', FunBody', AfterFunName', FunParams', Params', MoreParams', Decl', is_nullable, Next, next, move, settled, at_end, left_at_end, Accept}
use Rattle.tw_parse.proofs.automaton.Awaited.{Has, Forest, Holds, Builds, Built, builds_as}
use Rattle.tw_parse.proofs.automaton.Walks.{walk, moved}
use Rattle.tw_parse.proofs.automaton.BuiltTypes.{builds_mark, builds_name, builds_step, builds_small, builds_let_arrow, builds_angled, builds_type, builds_paren}
use Rattle.tw_parse.proofs.automaton.BuiltExprs.{builds_path, builds_steps, builds_atom, builds_expr, builds_expr_paren, builds_op_tail, builds_rhs, builds_after_name, builds_bound, builds_bound_tail, builds_call_args, builds_args, builds_more_args}
use Rattle.tw_parse.proofs.automaton.BuiltStmts.{builds_stmt, builds_stmts, builds_else_tail, builds_block, builds_body, builds_fun_body}
use Rattle.tw_parse.proofs.automaton.BuiltDecls.{builds_after_fun_name, builds_fun_params, builds_params, builds_more_params, builds_decl}

-- at each word the move of each thing that is awaited builds it
pub builds : (n : Expected) (w : Lexeme) → Built n w
builds (TheMark mark alone) w = builds_mark mark alone w
builds Name' w = builds_name w
builds Step' w = builds_step w
builds Small' w = builds_small w
builds Angled' w = builds_angled w
builds Type' w = builds_type w
builds Paren' w = builds_paren w
builds Path' w = builds_path w
builds Steps' w = builds_steps w
builds Atom' w = builds_atom w
builds Expr' w = builds_expr w
builds ExprParen' w = builds_expr_paren w
builds OpTail' w = builds_op_tail w
builds Rhs' w = builds_rhs w
builds AfterName' w = builds_after_name w
builds Bound' w = builds_bound w
builds BoundTail' w = builds_bound_tail w
builds CallArgs' w = builds_call_args w
builds Args' w = builds_args w
builds MoreArgs' w = builds_more_args w
builds Stmt' w = builds_stmt w
builds LetArrow' w = builds_let_arrow w
builds Stmts' w = builds_stmts w
builds ElseTail' w = builds_else_tail w
builds Block' w = builds_block w
builds Body' w = builds_body w
builds FunBody' w = builds_fun_body w
builds AfterFunName' w = builds_after_fun_name w
builds FunParams' w = builds_fun_params w
builds Params' w = builds_params w
builds MoreParams' w = builds_more_params w
builds Decl' w = builds_decl w

-- what may be none has a form of no tokens
passed : (n : Expected) (ts : List Lexed) (st : List Expected) → Holds (is_nullable n) → Forest st ts → Has n ts (Forest st)
passed Steps' ts st h f = record { form = StepsForm.NoSteps; rest = ts; parts = refl; more = f }
passed OpTail' ts st h f = λ atom. record { form = ExprForm.One atom; rest = ts; parts = refl; more = f }
passed AfterName' ts st h f = λ p name.
    record { form = RhsForm.Plain (ExprForm.One (AtomForm.Place (record { at = p; root = name; steps = StepsForm.NoSteps }))); rest = ts; parts = refl; more = f }
passed BoundTail' ts st h f = λ p name. record { form = BoundForm.Named p name; rest = ts; parts = refl; more = f }
passed ElseTail' ts st h f = λ p cond body. record { form = StmtForm.If p cond body; rest = ts; parts = refl; more = f }
passed n ts st h f = absurd h

-- a declaration stands before the end or a program
begun : (ts : List Lexed) → Forest (Decl' ∷ []) ts → IsProgram ts
begun ts f = go f.more
  where
    go : (f.rest ≡ []) ⊎ IsProgram f.rest → IsProgram ts
    go (inl end) = (ProgramForm.Last f.form, f.parts ∙ ap (decl_text f.form) end)
    go (inr more) = (ProgramForm.Decls f.form more.0, f.parts ∙ ap (decl_text f.form) more.1)

settles : (n : Expected) (us ts : List Lexed) (st : List Expected) (now after : Next) → Builds (is_nullable n) (Has n us (Forest st)) ts now → Builds false (Forest st us) ts after
    → Builds false (Has n us (Forest st)) ts (settled now after)
settles n us ts st Next.Pop after built under = builds_as false ts after (passed n us st built) under
settles n us ts st (Next.Take more) after built under = built
settles n us ts st (Next.Open more) after built under = built
settles n us ts st (Next.Shut more) after built under = built
settles n us ts st Next.Stop after built under = tt

moves : (t : Lexed) (ts : List Lexed) (st : List Expected) → Builds false (Forest st (t ∷ ts)) ts (move t.lexeme st)
moves t ts [] = builds_as false ts (next Decl' t.lexeme []) (λ f. inr (begun (t ∷ ts) f)) (builds_decl t.lexeme t.at ts [])
moves t ts (n ∷ st) = settles n (t ∷ ts) ts st (next n t.lexeme st) (move t.lexeme st) (builds n t.lexeme t.at ts st) (moves t ts st)

-- at the end what is awaited may be none
ended : (st : List Expected) → at_end st ≡ Accept → Forest st []
ended [] e = inl refl
ended (n ∷ st) e = go (is_nullable n) (passed n [] st) (λ h. ended st h) e
  where
    go : (nullable : Bool) → (Holds nullable → Forest st [] → Has n [] (Forest st)) → (at_end st ≡ Accept → Forest st [])
        → left_at_end nullable (at_end st) ≡ Accept → Has n [] (Forest st)
    go true pass under e = pass tt (under e)
    go false pass under e = absurd (grind arith)

grown : {Goal : Type 0} (ts : List Lexed) (rest : List Expected) (next : Next) → Builds false Goal ts next → ((st : List Expected) → walk ts st ≡ Some rest → Forest st ts)
    → moved next (walk ts) ≡ Some rest → Goal
grown ts rest (Next.Take st) built after e = built (after st e)
grown ts rest (Next.Open st) built after e = built (after st e)
grown ts rest (Next.Shut st) built after e = built (after st e)
grown ts rest Next.Pop built after e = absurd built
grown ts rest Next.Stop built after e = absurd (grind arith)

-- tokens that are taken to where no further one is needed meet what is awaited
pub forest : (ts : List Lexed) (st rest : List Expected) → walk ts st ≡ Some rest → at_end rest ≡ Accept → Forest st ts
forest [] st rest e a = let same : st ≡ rest = cc in ended st (ap at_end same ∙ a)
forest (t ∷ ts) st rest e a = grown ts rest (move t.lexeme st) (moves t ts st) (λ s h. forest ts s rest h a) e

-- whole tokens that are taken are a program
pub program : (ts : List Lexed) (rest : List Expected) → walk ts (Decl' ∷ []) ≡ Some rest → at_end rest ≡ Accept → IsProgram ts
program ts rest e a = begun ts (forest ts (Decl' ∷ []) rest e a)
