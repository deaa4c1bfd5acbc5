-- What tokens meet what is awaited: forms of the grammar for each symbol, and for a stack of them.
use Rattle.std.proofs.Common.{◌≡◌, ℕ, ◌≤◌, List, [], ◌∷◌, ap, ◌∙◌, ◌⊎◌, Bool, true, false}
use Rattle.tw_text.specs.declared.place.Pos.{Pos}
use Rattle.tw_lex.specs.declared.symbol.Symbol.{Symbol}
use Rattle.tw_lex.specs.declared.symbol.Symbol.TheVariants as symbols
use Rattle.tw_lex.specs.Tokens.{Lexeme, Lexed, name_at, number_at, sign_at}
use Rattle.tw_parse.specs.Grammar.{TypeForm, type_text, PathForm, path_text, steps_text, AtomForm, atom_text, expr_text, rhs_text, bound_text, NamesForm, names_text, MoreNamesForm, more_names_text}
use Rattle.tw_parse.specs.Statements.{stmt_text, StmtsForm, stmts_text, BlockForm, block_text, ParamsForm, params_text, MoreParamsForm, more_params_text, FunBoundForm, fun_bound_text, decl_text}
use Rattle.tw_parse.specs.Prefixes.{IsProgram}
use Rattle.tw_parse.proofs.automaton.Transitions.{Expected, TheMark, Name', Step', Small', Angled', Type', Paren', Path', Steps', Atom', Expr', ExprParen', OpTail', Rhs', AfterName', Bound', BoundTail', CallArgs', Args', MoreArgs', Stmt', LetArrow', Stmts', ElseTail', Block', Body', FunBody', AfterFunName', FunParams', Params', MoreParams', Decl', is_nullable, Next, next}
use Rattle.tw_parse.proofs.tokens.Words.{tok}

-- the tokens begin with the text of a form, and what follows has K
pub record Spelled {C : Type 0} (text : C → List Lexed → List Lexed) (ts : List Lexed) (K : List Lexed → Type 0) : Type 0 where
  pub form : C
  pub rest : List Lexed
  pub parts : ts ≡ text form rest
  pub more : K rest

-- tokens before these, and another form for the longer text
pub spelled : {C D : Type 0} {text : C → List Lexed → List Lexed} {other : D → List Lexed → List Lexed} {ts : List Lexed} {K : List Lexed → Type 0}
    (front : List Lexed → List Lexed) (make : C → D)
    → ((c : C) (k : List Lexed) → front (text c k) ≡ other (make c) k) → Spelled text ts K → Spelled other (front ts) K
spelled front make same f = record { form = make f.form; rest = f.rest; parts = ap front f.parts ∙ same f.form f.rest; more = f.more }

pub respelled : {C : Type 0} {text : C → List Lexed → List Lexed} {ts us : List Lexed} {K : List Lexed → Type 0}
    → ts ≡ us → Spelled text us K → Spelled text ts K
respelled e f = record { form = f.form; rest = f.rest; parts = e ∙ f.parts; more = f.more }

-- one form's text, then another's
abbrev pub then_text : {C D : Type 0} → (C → List Lexed → List Lexed) → (D → List Lexed → List Lexed) → C × D → List Lexed → List Lexed
then_text text other c k = text c.0 (other c.1 k)

pub joined : {C D : Type 0} {text : C → List Lexed → List Lexed} {other : D → List Lexed → List Lexed} {ts : List Lexed} {K : List Lexed → Type 0}
    → Spelled text ts (λ k. Spelled other k K) → Spelled (then_text text other) ts K
joined {text = text} f = record { form = (f.form, f.more.form); rest = f.more.rest; parts = f.parts ∙ ap (text f.form) f.more.parts; more = f.more.more }

abbrev pub symbol_text : Symbol → Pos → List Lexed → List Lexed
symbol_text mark p k = sign_at mark p ∷ k

pub record NameForm : Type 0 where
  pub name : List ℕ
  pub at : Pos

abbrev pub name_text : NameForm → List Lexed → List Lexed
name_text form k = name_at form.name form.at ∷ k

pub data StepForm : Type 0 where
  One : (p : Pos) → StepForm
  Two : (p : Pos) → StepForm

abbrev pub step_text : StepForm → List Lexed → List Lexed
step_text (One p) k = number_at 1 p ∷ k
step_text (Two p) k = number_at 2 p ∷ k

pub record SmallForm : Type 0 where
  pub value : ℕ
  pub small : value ≤ 255
  pub at : Pos

abbrev pub small_text : SmallForm → List Lexed → List Lexed
small_text form k = number_at form.value form.at ∷ k

pub record AngledForm : Type 0 where
  pub open_at : Pos
  pub ty : TypeForm
  pub close_at : Pos

abbrev pub angled_text : AngledForm → List Lexed → List Lexed
angled_text form k = sign_at symbols.Less form.open_at ∷ type_text form.ty (sign_at symbols.Greater form.close_at ∷ k)

pub data LetArrowForm : Type 0 where
  Gets : (p : Pos) → LetArrowForm
  Arrow : (p : Pos) → LetArrowForm

abbrev pub let_arrow_text : LetArrowForm → List Lexed → List Lexed
let_arrow_text (Gets p) k = sign_at symbols.Assign p ∷ k
let_arrow_text (Arrow p) k = sign_at symbols.Arrow p ∷ k

-- names and ")"
abbrev pub args_text : NamesForm × Pos → List Lexed → List Lexed
args_text form k = names_text form.0 (sign_at symbols.CloseParen form.1 ∷ k)

abbrev pub more_args_text : MoreNamesForm × Pos → List Lexed → List Lexed
more_args_text form k = more_names_text form.0 (sign_at symbols.CloseParen form.1 ∷ k)

abbrev pub call_args_text : Pos × (NamesForm × Pos) → List Lexed → List Lexed
call_args_text form k = sign_at symbols.OpenParen form.0 ∷ args_text form.1 k

-- statements and "}"
abbrev pub stmts_end_text : StmtsForm × Pos → List Lexed → List Lexed
stmts_end_text form k = stmts_text form.0 (sign_at symbols.CloseBrace form.1 ∷ k)

-- { stmt } "return" name ";" "}"
pub record BodyForm : Type 0 where
  pub stmts : StmtsForm
  pub return_at : Pos
  pub returned : NameForm
  pub semicolon : Pos
  pub end : Pos

abbrev pub body_text : BodyForm → List Lexed → List Lexed
body_text form k =
    stmts_text form.stmts (sign_at symbols.Return form.return_at ∷ name_text form.returned (sign_at symbols.Semicolon form.semicolon ∷ sign_at symbols.CloseBrace form.end ∷ k))

abbrev pub fun_body_text : Pos × BodyForm → List Lexed → List Lexed
fun_body_text form k = sign_at symbols.OpenBrace form.0 ∷ body_text form.1 k

abbrev pub params_end_text : ParamsForm × Pos → List Lexed → List Lexed
params_end_text form k = params_text form.0 (sign_at symbols.CloseParen form.1 ∷ k)

abbrev pub more_params_end_text : MoreParamsForm × Pos → List Lexed → List Lexed
more_params_end_text form k = more_params_text form.0 (sign_at symbols.CloseParen form.1 ∷ k)

abbrev pub fun_params_text : Pos × (ParamsForm × Pos) → List Lexed → List Lexed
fun_params_text form k = sign_at symbols.OpenParen form.0 ∷ params_end_text form.1 k

abbrev pub after_fun_name_text : FunBoundForm × (Pos × (ParamsForm × Pos)) → List Lexed → List Lexed
after_fun_name_text form k = fun_bound_text form.0 (fun_params_text form.1 k)

-- the tokens begin with what is awaited, and what follows has K; where a rule has begun already, with its beginning before them they are the whole rule
abbrev pub Has : Expected → List Lexed → (List Lexed → Type 0) → Type 0
Has (TheMark mark alone) ts K = Spelled (symbol_text mark) ts K
Has Name' ts K = Spelled name_text ts K
Has Step' ts K = Spelled step_text ts K
Has Small' ts K = Spelled small_text ts K
Has Angled' ts K = Spelled angled_text ts K
Has Type' ts K = Spelled type_text ts K
Has Paren' ts K = (p : Pos) → Spelled type_text (sign_at symbols.OpenParen p ∷ ts) K
Has Path' ts K = Spelled path_text ts K
Has Steps' ts K = Spelled steps_text ts K
Has Atom' ts K = Spelled atom_text ts K
Has Expr' ts K = Spelled expr_text ts K
Has ExprParen' ts K = (p : Pos) → Spelled expr_text (sign_at symbols.OpenParen p ∷ ts) K
Has OpTail' ts K = (atom : AtomForm) → Spelled expr_text (atom_text atom ts) K
Has Rhs' ts K = Spelled rhs_text ts K
Has AfterName' ts K = (p : Pos) (name : List ℕ) → Spelled rhs_text (name_at name p ∷ ts) K
Has Bound' ts K = Spelled bound_text ts K
Has BoundTail' ts K = (p : Pos) (name : List ℕ) → Spelled bound_text (name_at name p ∷ ts) K
Has CallArgs' ts K = Spelled call_args_text ts K
Has Args' ts K = Spelled args_text ts K
Has MoreArgs' ts K = Spelled more_args_text ts K
Has Stmt' ts K = Spelled stmt_text ts K
Has LetArrow' ts K = Spelled let_arrow_text ts K
Has Stmts' ts K = Spelled stmts_end_text ts K
Has ElseTail' ts K = (p : Pos) (cond : PathForm) (body : BlockForm) → Spelled stmt_text (sign_at symbols.If p ∷ path_text cond (block_text body ts)) K
Has Block' ts K = Spelled block_text ts K
Has Body' ts K = Spelled body_text ts K
Has FunBody' ts K = Spelled fun_body_text ts K
Has AfterFunName' ts K = Spelled after_fun_name_text ts K
Has FunParams' ts K = Spelled fun_params_text ts K
Has Params' ts K = Spelled params_end_text ts K
Has MoreParams' ts K = Spelled more_params_end_text ts K
Has Decl' ts K = Spelled decl_text ts K

-- the tokens meet all that is awaited, and after it they end or are a program
abbrev pub Forest : List Expected → List Lexed → Type 0
Forest [] ts = (ts ≡ []) ⊎ IsProgram ts
Forest (n ∷ st) ts = Has n ts (Forest st)

abbrev pub Holds : Bool → Type 0
Holds true = Unit {0}
Holds false = ⊥

-- tokens that meet what is awaited after a move give the goal; only what may be none is passed by
abbrev pub Builds : Bool → Type 0 → List Lexed → Next → Type 0
Builds nullable Goal ts (Next.Take st) = Forest st ts → Goal
Builds nullable Goal ts (Next.Open st) = Forest st ts → Goal
Builds nullable Goal ts (Next.Shut st) = Forest st ts → Goal
Builds nullable Goal ts Next.Pop = Holds nullable
Builds nullable Goal ts Next.Stop = Unit {0}

-- at this word the move builds what is awaited
abbrev pub Built : Expected → Lexeme → Type 0
Built n w = (p : Pos) (ts : List Lexed) (st : List Expected) → Builds (is_nullable n) (Has n (tok w p ∷ ts) (Forest st)) ts (next n w st)

pub builds_as : (nullable : Bool) {Goal Other : Type 0} (ts : List Lexed) (next : Next) → (Goal → Other) → Builds nullable Goal ts next → Builds nullable Other ts next
builds_as nullable ts (Next.Take st) f built = λ h. f (built h)
builds_as nullable ts (Next.Open st) f built = λ h. f (built h)
builds_as nullable ts (Next.Shut st) f built = λ h. f (built h)
builds_as nullable ts Next.Pop f built = built
builds_as nullable ts Next.Stop f built = tt
