-- Words: a token of each, marks by their numbers and their texts, and what the tests on words tell.
use Rattle.std.proofs.Common.{◌≡◌, ℕ, ◌≤◌, ◌==◌, ◌||◌, ◌⊎◌, inl, inr, Bool, true, false, get_or, refl, ap, sym, ◌∙◌, eqb-true, eq-eqb, arith}
use Rattle.tw_text.specs.declared.place.Pos.{Pos}
use Rattle.tw_lex.specs.declared.symbol.Symbol.{Symbol}
use Rattle.tw_lex.specs.declared.symbol.Symbol.TheVariants as symbols
use Rattle.tw_lex.specs.Tokens.{Lexeme, Name, Number, Sign, Lexed}
use Rattle.tw_lex.specs.Symbols.{all_symbols}
use Rattle.tw_parse.specs.reading.Steps.{symbol_number, is_symbol, is_component, is_bound_number}

-- a word at a place
abbrev pub tok : Lexeme → Pos → Lexed
tok w p = record { lexeme = w; at = p }

-- each mark stands in the list of all marks
mark_at-number : (mark : Symbol) → get_or all_symbols (symbol_number mark) symbols.Swap ≡ mark
mark_at-number symbols.Swap = refl
mark_at-number mark = refl

-- the same number, the same mark
mark-of_number : (mark other : Symbol) → symbol_number mark ≡ symbol_number other → mark ≡ other
mark-of_number mark other e = sym (mark_at-number mark) ∙ (ap (λ n. get_or all_symbols n symbols.Swap) e ∙ mark_at-number other)

pub is_symbol-true : (mark : Symbol) (w : Lexeme) → is_symbol mark w ≡ true → w ≡ Sign mark
is_symbol-true mark (Sign given) e = ap Sign (mark-of_number given mark (eqb-true _ _ e))
is_symbol-true mark (Name text) e = absurd (grind arith)
is_symbol-true mark (Number value) e = absurd (grind arith)

pub is_symbol-same : (mark : Symbol) → is_symbol mark (Sign mark) ≡ true
is_symbol-same mark = eq-eqb _ _ refl

pub is_component-true : (value : ℕ) → is_component value ≡ true → (value ≡ 1) ⊎ (value ≡ 2)
is_component-true value e = go (value == 1) (value == 2) (eqb-true value 1) (eqb-true value 2) e
  where
    go : (one two : Bool) → (one ≡ true → value ≡ 1) → (two ≡ true → value ≡ 2) → one || two ≡ true → (value ≡ 1) ⊎ (value ≡ 2)
    go true two is_one is_two h = inl (is_one refl)
    go false true is_one is_two h = inr (is_two refl)
    go false false is_one is_two h = absurd (grind arith)

pub is_bound_number-true : (value : ℕ) → is_bound_number value ≡ true → value ≤ 255
is_bound_number-true value e = grind arith

pub is_bound_number-of : (value : ℕ) → value ≤ 255 → is_bound_number value ≡ true
is_bound_number-of value h = grind arith
