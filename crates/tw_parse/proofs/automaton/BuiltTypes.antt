-- Each move of the automaton is a step of the grammar: single tokens and types.
use Rattle.std.proofs.Common.{◌≡◌, refl, ◌≤◌, List, ◌∷◌, ap, Bool, true, false, ◌⊎◌, inl, inr}
use Rattle.tw_lex.specs.declared.symbol.Symbol.{Symbol}
use Rattle.tw_lex.specs.declared.symbol.Symbol.TheVariants as symbols
use Rattle.tw_lex.specs.Tokens.{Lexeme, Name, Number, Sign, Lexed, number_at, sign_at}
use Rattle.tw_parse.specs.Grammar.{TypeForm}
use Rattle.tw_parse.specs.Prefixes.{closes}
use Rattle.tw_parse.specs.reading.Steps.{is_symbol, is_component, is_bound_number}
use Rattle.tw_parse.proofs.automaton.Transitions.{Expected, TheMark, Name', Step', Small', LetArrow', Type', Paren', Angled', Next, when, taken_mark, stands_alone, next_type}
use Rattle.tw_parse.proofs.tokens.Words.{tok, is_symbol-true, is_component-true, is_bound_number-true}
use Rattle.tw_parse.proofs.automaton.Awaited.{spelled, joined, StepForm, LetArrowForm, Has, Forest, Builds, Built, builds_as}

pub builds_mark : (mark : Symbol) (alone : stands_alone mark ≡ true) (w : Lexeme) → Built (TheMark mark alone) w
builds_mark mark alone w p ts st = go (is_symbol mark w) (closes (Sign mark)) (λ e. is_symbol-true mark w e)
  where
    go : (is closing : Bool) → (is ≡ true → w ≡ Sign mark) → Builds false (Has (TheMark mark alone) (tok w p ∷ ts) (Forest st)) ts (when is (taken_mark closing st))
    go true true e = λ f. record { form = p; rest = ts; parts = ap (λ x. tok x p ∷ ts) (e refl); more = f }
    go true false e = λ f. record { form = p; rest = ts; parts = ap (λ x. tok x p ∷ ts) (e refl); more = f }
    go false closing e = tt

pub builds_name : (w : Lexeme) → Built Name' w
builds_name (Name text) p ts st = λ f. record { form = record { name = text; at = p }; rest = ts; parts = refl; more = f }
builds_name w p ts st = tt

pub builds_step : (w : Lexeme) → Built Step' w
builds_step (Number value) p ts st = go (is_component value) (is_component-true value)
  where
    go : (is : Bool) → (is ≡ true → (value ≡ 1) ⊎ (value ≡ 2)) → Builds false (Has Step' (number_at value p ∷ ts) (Forest st)) ts (when is (Next.Take st))
    go true e = λ f. with (e refl) f
      where
        with : (value ≡ 1) ⊎ (value ≡ 2) → Forest st ts → Has Step' (number_at value p ∷ ts) (Forest st)
        with (inl h) f = record { form = StepForm.One p; rest = ts; parts = ap (λ x. number_at x p ∷ ts) h; more = f }
        with (inr h) f = record { form = StepForm.Two p; rest = ts; parts = ap (λ x. number_at x p ∷ ts) h; more = f }
    go false e = tt
builds_step w p ts st = tt

pub builds_small : (w : Lexeme) → Built Small' w
builds_small (Number value) p ts st = go (is_bound_number value) (is_bound_number-true value)
  where
    go : (is : Bool) → (is ≡ true → value ≤ 255) → Builds false (Has Small' (number_at value p ∷ ts) (Forest st)) ts (when is (Next.Take st))
    go true e = λ f. record { form = record { value = value; small = e refl; at = p }; rest = ts; parts = refl; more = f }
    go false e = tt
builds_small w p ts st = tt

pub builds_let_arrow : (w : Lexeme) → Built LetArrow' w
builds_let_arrow (Sign symbols.Assign) p ts st = λ f. record { form = LetArrowForm.Gets p; rest = ts; parts = refl; more = f }
builds_let_arrow (Sign symbols.Arrow) p ts st = λ f. record { form = LetArrowForm.Arrow p; rest = ts; parts = refl; more = f }
builds_let_arrow w p ts st = tt

pub builds_angled : (w : Lexeme) → Built Angled' w
builds_angled (Sign symbols.Less) p ts st = λ f. spelled (λ x. sign_at symbols.Less p ∷ x) (λ c. record { open_at = p; ty = c.0; close_at = c.1 }) (λ c k. refl) (joined f)
builds_angled w p ts st = tt

pub builds_type : (w : Lexeme) → Built Type' w
builds_type (Sign symbols.Uint) p ts st = λ f. record { form = TypeForm.Uint p; rest = ts; parts = refl; more = f }
builds_type (Sign symbols.Bool) p ts st = λ f. record { form = TypeForm.Bool p; rest = ts; parts = refl; more = f }
builds_type (Name text) p ts st = λ f. record { form = TypeForm.Named p text; rest = ts; parts = refl; more = f }
builds_type (Sign symbols.Ptr) p ts st = λ f. spelled (λ x. sign_at symbols.Ptr p ∷ x) (λ c. TypeForm.Ptr p c.open_at c.ty c.close_at) (λ c k. refl) f
builds_type (Sign symbols.OpenParen) p ts st = λ f. f p
builds_type w p ts st = tt

paired : (ts : List Lexed) (st : List Expected) → Forest (Type' ∷ TheMark symbols.Comma refl ∷ Type' ∷ TheMark symbols.CloseParen refl ∷ st) ts → Has Paren' ts (Forest st)
paired ts st f q = spelled (λ x. sign_at symbols.OpenParen q ∷ x) (λ c. TypeForm.Pair q c.0.0.0 c.0.0.1 c.0.1 c.1) (λ c k. refl) (joined (joined (joined f)))

pub builds_paren : (w : Lexeme) → Built Paren' w
builds_paren (Sign symbols.CloseParen) p ts st = λ f q. record { form = TypeForm.Unit q p; rest = ts; parts = refl; more = f }
builds_paren w p ts st =
    let after = TheMark symbols.Comma refl ∷ Type' ∷ TheMark symbols.CloseParen refl ∷ st in
    builds_as false ts (next_type w after) (paired (tok w p ∷ ts) st) (builds_type w p ts after)
