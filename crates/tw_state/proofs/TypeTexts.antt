-- The printed form of a type ends where a delimiter follows it, so a text determines it.
use Rattle.std.proofs.Common.{◌≡◌, ◌∙◌, refl, sym, ap, ℕ, zero, suc, ◌==◌, Bool, true, false, ◌||◌, if◌then◌else◌, List, [], ◌∷◌, ◌++◌, codes, append_assoc, append-nil}
use Rattle.std.specs.List.{AllByRecursion}
use Rattle.std.proofs.lemmas.List.{append_cancel_left}
use Rattle.tw_syntax.specs.Types.{WrittenTree, UnitType, UintType, BoolType, PairType, PtrType, NamedType, type_print}

-- whether a byte is `(` or `<`, which open a bracket of a type
abbrev pub opens : ℕ → Bool
opens c = (c == 40) || (c == 60)

-- whether a byte is `)` or `>`, which close one
abbrev pub closes : ℕ → Bool
closes c = (c == 41) || (c == 62)

-- whether a byte ends a type outside brackets: `)`, `>`, `,` or a space
abbrev pub ends_type : ℕ → Bool
ends_type c = closes c || ((c == 44) || (c == 32))

-- a byte is no delimiter of types
pub record IsPlain (c : ℕ) : Type 0 where
  pub opens_none : opens c ≡ false
  pub closes_none : closes c ≡ false
  pub ends_none : ends_type c ≡ false

-- a name has no delimiter of types
abbrev pub IsPlainName : List ℕ → Type 0
IsPlainName name = AllByRecursion IsPlain name

-- no name in a type has one
abbrev pub HasPlainNames : WrittenTree → Type 0
HasPlainNames (PairType at first second) = HasPlainNames first × HasPlainNames second
HasPlainNames (PtrType at to) = HasPlainNames to
HasPlainNames (NamedType at name) = IsPlainName name
HasPlainNames other = Unit {0}

-- the bytes up to the first one that ends a type, inside this number of brackets
abbrev first_type : ℕ → List ℕ → List ℕ
first_type depth [] = []
first_type zero (c ∷ rest) = if ends_type c then [] else if opens c then c ∷ first_type 1 rest else c ∷ first_type 0 rest
first_type (suc depth) (c ∷ rest) =
    if opens c then c ∷ first_type (suc (suc depth)) rest else if closes c then c ∷ first_type depth rest else c ∷ first_type (suc depth) rest

plain_byte : (depth c : ℕ) (rest : List ℕ) → IsPlain c → first_type depth (c ∷ rest) ≡ c ∷ first_type depth rest
plain_byte zero c rest plain = rw (plain.ends_none, plain.opens_none) refl
plain_byte (suc depth) c rest plain = rw (plain.opens_none, plain.closes_none) refl

plain_name : (depth : ℕ) (name rest : List ℕ) → IsPlainName name → first_type depth (name ++ rest) ≡ name ++ first_type depth rest
plain_name depth [] rest plain = refl
plain_name depth (c ∷ name) rest plain = plain_byte depth c (name ++ rest) plain.0 ∙ ap (λ t. c ∷ t) (plain_name depth name rest plain.1)

opened : (depth : ℕ) (rest : List ℕ) → first_type depth (40 ∷ rest) ≡ 40 ∷ first_type (suc depth) rest
opened zero rest = refl
opened (suc depth) rest = refl

uint_whole : (depth : ℕ) (rest : List ℕ) → first_type depth (codes "uint" ++ rest) ≡ codes "uint" ++ first_type depth rest
uint_whole zero rest = refl
uint_whole (suc depth) rest = refl

bool_whole : (depth : ℕ) (rest : List ℕ) → first_type depth (codes "bool" ++ rest) ≡ codes "bool" ++ first_type depth rest
bool_whole zero rest = refl
bool_whole (suc depth) rest = refl

ptr_opened : (depth : ℕ) (rest : List ℕ) → first_type depth (codes "ptr<" ++ rest) ≡ codes "ptr<" ++ first_type (suc depth) rest
ptr_opened zero rest = refl
ptr_opened (suc depth) rest = refl

unit_whole : (depth : ℕ) (rest : List ℕ) → first_type depth (codes "()" ++ rest) ≡ codes "()" ++ first_type depth rest
unit_whole zero rest = refl
unit_whole (suc depth) rest = refl

pair_text : (first second rest : List ℕ) → (codes "(" ++ (first ++ (codes ", " ++ (second ++ codes ")")))) ++ rest ≡ codes "(" ++ (first ++ (codes ", " ++ (second ++ (codes ")" ++ rest))))
pair_text first second rest = simp append_assoc

ptr_text : (to rest : List ℕ) → (codes "ptr<" ++ (to ++ codes ">")) ++ rest ≡ codes "ptr<" ++ (to ++ (codes ">" ++ rest))
ptr_text to rest = simp append_assoc

-- a whole type is among the first bytes
type_whole : (depth : ℕ) (written : WrittenTree) (rest : List ℕ) → HasPlainNames written → first_type depth (type_print written ++ rest) ≡ type_print written ++ first_type depth rest
type_whole depth (UnitType at) rest plain = unit_whole depth rest
type_whole depth (UintType at) rest plain = uint_whole depth rest
type_whole depth (BoolType at) rest plain = bool_whole depth rest
type_whole depth (NamedType at name) rest plain = plain_name depth name rest plain
type_whole depth (PtrType at to) rest plain =
    ap (first_type depth) (ptr_text (type_print to) rest)
    ∙ ptr_opened depth (type_print to ++ (codes ">" ++ rest))
    ∙ ap (λ t. codes "ptr<" ++ t) (type_whole (suc depth) to (codes ">" ++ rest) plain)
    ∙ sym (ptr_text (type_print to) (first_type depth rest))
type_whole depth (PairType at first second) rest plain =
    ap (first_type depth) (pair_text (type_print first) (type_print second) rest)
    ∙ opened depth (type_print first ++ (codes ", " ++ (type_print second ++ (codes ")" ++ rest))))
    ∙ ap (λ t. codes "(" ++ t) (type_whole (suc depth) first (codes ", " ++ (type_print second ++ (codes ")" ++ rest))) plain.0)
    ∙ ap (λ t. codes "(" ++ (type_print first ++ (codes ", " ++ t))) (type_whole (suc depth) second (codes ")" ++ rest) plain.1)
    ∙ sym (pair_text (type_print first) (type_print second) (first_type depth rest))

-- a type before a byte that ends it is the first one of the text
first_is : (written : WrittenTree) (c : ℕ) (rest : List ℕ) → HasPlainNames written → ends_type c ≡ true → first_type 0 (type_print written ++ c ∷ rest) ≡ type_print written
first_is written c rest plain ends = type_whole 0 written (c ∷ rest) plain ∙ rw ends (append-nil (type_print written))

-- two types before bytes that end them are equal if the texts are
pub types-delimited : (written other : WrittenTree) (c d : ℕ) (xs ys : List ℕ) → HasPlainNames written → HasPlainNames other → ends_type c ≡ true → ends_type d ≡ true
    → type_print written ++ c ∷ xs ≡ type_print other ++ d ∷ ys → (type_print written ≡ type_print other) × (c ∷ xs ≡ d ∷ ys)
types-delimited written other c d xs ys plain plain2 ends ends2 same =
    let first = sym (first_is written c xs plain ends) ∙ ap (first_type 0) same ∙ first_is other d ys plain2 ends2 in
    (first, append_cancel_left (type_print other) (c ∷ xs) (d ∷ ys) (ap (λ t. t ++ c ∷ xs) (sym first) ∙ same))
