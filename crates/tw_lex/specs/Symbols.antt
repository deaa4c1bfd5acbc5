-- The keywords, operators and delimiters of the language.
use Rattle.std.specs.Prelude.{◌≡◌, ℕ, ◌==◌, ◌&&◌, Bool, true, false, List, [], ◌∷◌, if◌then◌else◌, Option, Some, None, codes, refl}
use Rattle.std.specs.Char.{is_ascii_alphabetic}
use Rattle.std.specs.Str.{bytes_eq}
use Rattle.tw_lex.specs.declared.symbol.Symbol.{Symbol}
use Rattle.tw_lex.specs.declared.symbol.Symbol.TheVariants as symbols

-- how a symbol is written
abbrev pub symbol_text : Symbol → List ℕ
symbol_text symbols.Swap = codes "<->"
symbol_text symbols.Assign = codes "<-"
symbol_text symbols.Less = codes "<"
symbol_text symbols.Arrow = codes "->"
symbol_text symbols.Minus = codes "-"
symbol_text symbols.Equal = codes "=="
symbol_text symbols.Define = codes "="
symbol_text symbols.NotEqual = codes "!="
symbol_text symbols.And = codes "&&"
symbol_text symbols.Or = codes "||"
symbol_text symbols.Greater = codes ">"
symbol_text symbols.OpenParen = codes "("
symbol_text symbols.CloseParen = codes ")"
symbol_text symbols.OpenBrace = codes "{"
symbol_text symbols.CloseBrace = codes "}"
symbol_text symbols.OpenBracket = codes "["
symbol_text symbols.CloseBracket = codes "]"
symbol_text symbols.Comma = codes ","
symbol_text symbols.Semicolon = codes ";"
symbol_text symbols.Colon = codes ":"
symbol_text symbols.Dot = codes "."
symbol_text symbols.Plus = codes "+"
symbol_text symbols.Star = codes "*"
symbol_text symbols.Type = codes "type"
symbol_text symbols.True = codes "true"
symbol_text symbols.False = codes "false"
symbol_text symbols.Fun = codes "fun"
symbol_text symbols.Return = codes "return"
symbol_text symbols.Let = codes "let"
symbol_text symbols.If = codes "if"
symbol_text symbols.Else = codes "else"
symbol_text symbols.With = codes "with"
symbol_text symbols.Default = codes "default"
symbol_text symbols.Do = codes "do"
symbol_text symbols.Skip = codes "skip"
symbol_text symbols.Uint = codes "uint"
symbol_text symbols.Bool = codes "bool"
symbol_text symbols.Ptr = codes "ptr"
symbol_text symbols.Null = codes "null"
symbol_text symbols.Not = codes "not"
symbol_text symbols.Alloc = codes "alloc"

-- all symbols; of those with the same first character, the longer ones first
abbrev pub all_symbols : List Symbol
all_symbols =
    symbols.Swap ∷ symbols.Assign ∷ symbols.Less ∷ symbols.Arrow ∷ symbols.Minus ∷ symbols.Equal ∷ symbols.Define ∷ symbols.NotEqual ∷ symbols.And ∷
    symbols.Or ∷ symbols.Greater ∷ symbols.OpenParen ∷ symbols.CloseParen ∷ symbols.OpenBrace ∷ symbols.CloseBrace ∷ symbols.OpenBracket ∷
    symbols.CloseBracket ∷ symbols.Comma ∷ symbols.Semicolon ∷ symbols.Colon ∷ symbols.Dot ∷ symbols.Plus ∷ symbols.Star ∷ symbols.Type ∷
    symbols.True ∷ symbols.False ∷ symbols.Fun ∷ symbols.Return ∷ symbols.Let ∷ symbols.If ∷ symbols.Else ∷ symbols.With ∷ symbols.Default ∷
    symbols.Do ∷ symbols.Skip ∷ symbols.Uint ∷ symbols.Bool ∷ symbols.Ptr ∷ symbols.Null ∷ symbols.Not ∷ symbols.Alloc ∷ []

-- whether a character of this kind begins the text
abbrev pub starts_with : (ℕ → Bool) → List ℕ → Bool
starts_with test [] = false
starts_with test (c ∷ rest) = test c

pub starts_with-first : starts_with is_ascii_alphabetic (codes "a1") ≡ true
starts_with-first = refl

pub starts_with-nothing : starts_with is_ascii_alphabetic [] ≡ false
starts_with-nothing = refl

-- a keyword is a symbol that begins with a letter
abbrev pub is_keyword : Symbol → Bool
is_keyword symbol = starts_with is_ascii_alphabetic (symbol_text symbol)

pub is_keyword-let : is_keyword symbols.Let ≡ true
is_keyword-let = refl

pub is_keyword-swap : is_keyword symbols.Swap ≡ false
is_keyword-swap = refl

-- the symbol of a list that is written so, if one is
abbrev pub find_symbol : List Symbol → List ℕ → Option Symbol
find_symbol [] cs = None
find_symbol (symbol ∷ list) cs = if bytes_eq (symbol_text symbol) cs then Some symbol else find_symbol list cs

-- the symbol that is written so, if one is
unfoldable pub symbol_of : List ℕ → Option Symbol
symbol_of cs = find_symbol all_symbols cs

pub symbol_of-keyword : symbol_of (codes "fun") ≡ Some symbols.Fun
unfolding symbol_of
symbol_of-keyword = refl

pub symbol_of-longer : symbol_of (codes "funny") ≡ None
unfolding symbol_of
symbol_of-longer = refl

-- the symbols of a list that begin with a character
abbrev pub only_from : ℕ → List Symbol → List Symbol
only_from first [] = []
only_from first (symbol ∷ list) = if starts_with (λ c. first == c) (symbol_text symbol) then symbol ∷ only_from first list else only_from first list

-- the symbols that begin with a character, the longer ones first
unfoldable pub symbols_from : ℕ → List Symbol
symbols_from first = only_from first all_symbols

pub symbols_from-minus : symbols_from 45 ≡ symbols.Arrow ∷ symbols.Minus ∷ []
unfolding symbols_from
symbols_from-minus = refl

-- whether a text begins another
abbrev pub begins : List ℕ → List ℕ → Bool
begins [] cs = true
begins (t ∷ ts) [] = false
begins (t ∷ ts) (c ∷ cs) = (t == c) && begins ts cs

-- the first symbol of a list that begins a text, if one does
abbrev pub find_prefix : List Symbol → List ℕ → Option Symbol
find_prefix [] cs = None
find_prefix (symbol ∷ list) cs = if begins (symbol_text symbol) cs then Some symbol else find_prefix list cs

pub find_prefix-longest : find_prefix (symbols_from 60) (codes "<-7") ≡ Some symbols.Assign
unfolding symbols_from
find_prefix-longest = refl
