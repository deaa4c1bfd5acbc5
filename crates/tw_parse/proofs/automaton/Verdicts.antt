-- The automaton's outcome is what the grammar says of the tokens, and each text has one.
use Rattle.std.proofs.Common.{◌≡◌, refl, ℕ, suc, ◌+◌, ◌≤◌, List, [], ◌∷◌, ◌++◌, length, append_assoc, append-nil, ap, ◌∙◌, sym, subst, false, ◌↔◌, length-append, Some, arith}
use Rattle.tw_text.specs.declared.limits.TheConstants.{NESTING_LIMIT}
use Rattle.tw_lex.specs.Tokens.{Lexed, sign_at}
use Rattle.tw_parse.specs.Prefixes.{IsProgram, IsViablePrefix, IsEnd, IsShallow, depth, IsSyntaxAt, IsTooDeepAt}
use Rattle.tw_parse.proofs.automaton.Transitions.{Expected, Outcome, Accept, Fail, Deep, at_end, verdict, here, alias, nested, verdict_no_type, verdict_65}
use Rattle.tw_lex.specs.declared.symbol.Symbol.TheVariants as symbols
use Rattle.tw_parse.proofs.automaton.Walks.{walk}
use Rattle.tw_parse.proofs.automaton.Forests.{program}
use Rattle.tw_parse.proofs.automaton.Halts.{IsStuck, Accepted, Failed, Deepened, Halted, halted}
use Rattle.tw_parse.proofs.automaton.ViablePrefixes.{start, walk-append, walk-program, viable-walked, viable-prefix, viable-program, Parted, parted}

accepted : (toks : List Lexed) → Accepted NESTING_LIMIT false toks start → IsProgram toks × IsShallow toks
accepted toks h = (program toks h.rest h.taken h.end, h.shallow)

ends : (prefix suffix : List Lexed) (rest : List Expected) → walk prefix start ≡ Some rest → IsStuck suffix rest → IsEnd prefix suffix
ends prefix [] rest taken stuck = λ h.
    let same : rest ≡ [] = cc (walk-program prefix h, taken) in
    let none : at_end [] ≡ Fail 0 = subst (λ x. at_end x ≡ Fail 0) same stuck in
    grind arith
ends prefix (t ∷ ts) rest taken stuck = λ h.
    let whole : walk ((prefix ++ t ∷ []) ++ h.0) start ≡ Some [] = walk-program _ h.1 in
    let after : walk ((prefix ++ t ∷ []) ++ h.0) start ≡ walk (t ∷ h.0) rest =
    ap (λ x. walk x start) (append_assoc prefix (t ∷ []) h.0) ∙ walk-append prefix (t ∷ h.0) start rest taken in
    cc (whole, after, stuck h.0)

failed : (toks : List Lexed) (left : ℕ) → Failed NESTING_LIMIT false toks start left → IsSyntaxAt toks left
failed toks left h = record {
  prefix = h.prefix;
  suffix = h.suffix;
  parts = h.parts;
  count = h.count;
  shallow = h.shallow;
  viable = viable-walked h.prefix h.rest h.taken;
  at = ends h.prefix h.suffix h.rest h.taken h.stuck;
}

deepened : (toks : List Lexed) (left : ℕ) → Deepened NESTING_LIMIT false toks start left → IsTooDeepAt toks left
deepened toks left h = record {
  prefix = h.prefix;
  next = h.bad;
  suffix = h.suffix;
  parts = h.parts;
  count = h.count;
  shallow = h.shallow;
  deeper = h.deeper;
  viable = viable-walked (h.prefix ++ h.bad ∷ []) h.rest h.taken;
}

-- what the grammar says where the automaton comes to this
abbrev pub Means : List Lexed → Outcome → Type 0
Means toks Accept = IsProgram toks × IsShallow toks
Means toks (Fail left) = IsSyntaxAt toks left
Means toks (Deep left) = IsTooDeepAt toks left

pub verdict-means : (toks : List Lexed) → Means toks (verdict toks)
verdict-means toks = go (verdict toks) (halted NESTING_LIMIT false toks NESTING_LIMIT start refl (omega arith))
  where
    go : (outcome : Outcome) → Halted NESTING_LIMIT false toks start outcome → Means toks outcome
    go Accept h = accepted toks h
    go (Fail left) h = failed toks left h
    go (Deep left) h = deepened toks left h

-- the next token belongs to a longer prefix
viable-step : (prefix : List Lexed) (t : Lexed) (more : List Lexed) → IsViablePrefix (prefix ++ t ∷ more) → IsViablePrefix (prefix ++ t ∷ [])
viable-step prefix t more h = viable-prefix (prefix ++ t ∷ []) more (subst IsViablePrefix (sym (append_assoc prefix (t ∷ []) more)) h)

pub program-not_syntax : (toks : List Lexed) (left : ℕ) → IsProgram toks → IsSyntaxAt toks left → ⊥
program-not_syntax toks left h s = go s.suffix s.parts s.at
  where
    go : (suffix : List Lexed) → toks ≡ s.prefix ++ suffix → IsEnd s.prefix suffix → ⊥
    go [] parts at = at (subst IsProgram (parts ∙ append-nil s.prefix) h)
    go (t ∷ ts) parts at = at (viable-program (s.prefix ++ t ∷ []) ts toks (parts ∙ sym (append_assoc s.prefix (t ∷ []) ts)) h)

pub shallow-not_deep : (toks : List Lexed) (left : ℕ) → IsShallow toks → IsTooDeepAt toks left → ⊥
shallow-not_deep toks left h d =
    let within : depth (d.prefix ++ d.next ∷ []) ≤ NESTING_LIMIT = h (d.prefix ++ d.next ∷ []) d.suffix (d.parts ∙ sym (append_assoc d.prefix (d.next ∷ []) d.suffix)) in
    omega (arith, d.deeper, within)

-- no viable prefix reaches past the first error
ends_within : (toks : List Lexed) (left : ℕ) (s : IsSyntaxAt toks left) (prefix suffix : List Lexed) → toks ≡ prefix ++ suffix → IsViablePrefix prefix
    → (more : List Lexed) × (s.prefix ≡ prefix ++ more) × (suffix ≡ more ++ s.suffix)
ends_within toks left s prefix suffix parts viable = go (parted s.prefix s.suffix prefix suffix (sym s.parts ∙ parts))
  where
    within : (more : List Lexed) → prefix ≡ s.prefix ++ more → s.suffix ≡ more ++ suffix → (more : List Lexed) × (s.prefix ≡ prefix ++ more) × (suffix ≡ more ++ s.suffix)
    within [] first second = ([], sym (append-nil prefix ∙ (first ∙ append-nil s.prefix)), sym second)
    within (t ∷ more) first second =
        let at : IsViablePrefix (s.prefix ++ t ∷ []) → ⊥ = subst (IsEnd s.prefix) second s.at in
        absurd (at (viable-step s.prefix t more (subst IsViablePrefix first viable)))

    go : Parted s.prefix s.suffix prefix suffix → (more : List Lexed) × (s.prefix ≡ prefix ++ more) × (suffix ≡ more ++ s.suffix)
    go (Parted.Within more first second) = within more first second
    go (Parted.Beyond t more first second) = (t ∷ more, first, second)

pub syntax-same : (toks : List Lexed) (left other : ℕ) → IsSyntaxAt toks left → IsSyntaxAt toks other → left ≡ other
syntax-same toks left other s u =
    let one = ends_within toks left s u.prefix u.suffix u.parts u.viable in
    let two = ends_within toks other u s.prefix s.suffix s.parts s.viable in
    let first : length u.suffix ≡ length one.0 + length s.suffix = ap length one.2 ∙ length-append one.0 s.suffix in
    let second : length s.suffix ≡ length two.0 + length u.suffix = ap length two.2 ∙ length-append two.0 u.suffix in
    omega (arith, first, second, s.count, u.count)

pub syntax-not_deep : (toks : List Lexed) (left other : ℕ) → IsSyntaxAt toks left → IsTooDeepAt toks other → ⊥
syntax-not_deep toks left other s d =
    let within = ends_within toks left s (d.prefix ++ d.next ∷ []) d.suffix (d.parts ∙ sym (append_assoc d.prefix (d.next ∷ []) d.suffix)) d.viable in
    let shallow : depth (d.prefix ++ d.next ∷ []) ≤ NESTING_LIMIT = s.shallow (d.prefix ++ d.next ∷ []) within.0 within.1 in
    omega (arith, d.deeper, shallow)

deep-least : (toks : List Lexed) (left other : ℕ) → IsTooDeepAt toks left → IsTooDeepAt toks other → left ≤ other
deep-least toks left other d u = go (parted (d.prefix ++ d.next ∷ []) d.suffix u.prefix (u.next ∷ u.suffix) (append_assoc d.prefix (d.next ∷ []) d.suffix ∙ (sym d.parts ∙ u.parts)))
  where
    go : Parted (d.prefix ++ d.next ∷ []) d.suffix u.prefix (u.next ∷ u.suffix) → left ≤ other
    go (Parted.Within more first second) =
        let shallow : depth (d.prefix ++ d.next ∷ []) ≤ NESTING_LIMIT = u.shallow (d.prefix ++ d.next ∷ []) more first in
        absurd (omega (arith, d.deeper, shallow))
    go (Parted.Beyond t more first second) =
        let longer : length (u.next ∷ u.suffix) ≡ suc (length more + length d.suffix) = ap length second ∙ ap suc (length-append more d.suffix) in
        omega (arith, longer, d.count, u.count)

pub deep-same : (toks : List Lexed) (left other : ℕ) → IsTooDeepAt toks left → IsTooDeepAt toks other → left ≡ other
deep-same toks left other d u = omega (arith, deep-least toks left other d u, deep-least toks other left u d)

-- of what the grammar says of some tokens only one holds
pub means-same : (toks : List Lexed) (outcome other : Outcome) → Means toks outcome → Means toks other → outcome ≡ other
means-same toks Accept Accept h k = refl
means-same toks Accept (Fail n) h k = absurd (program-not_syntax toks n h.0 k)
means-same toks Accept (Deep n) h k = absurd (shallow-not_deep toks n h.1 k)
means-same toks (Fail n) Accept h k = absurd (program-not_syntax toks n k.0 h)
means-same toks (Fail n) (Fail m) h k = ap Fail (syntax-same toks n m h k)
means-same toks (Fail n) (Deep m) h k = absurd (syntax-not_deep toks n m h k)
means-same toks (Deep n) Accept h k = absurd (shallow-not_deep toks n k.1 h)
means-same toks (Deep n) (Fail m) h k = absurd (syntax-not_deep toks m n k h)
means-same toks (Deep n) (Deep m) h k = ap Deep (deep-same toks n m h k)

pub verdict-is : (toks : List Lexed) (outcome : Outcome) → Means toks outcome → verdict toks ≡ outcome
verdict-is toks outcome h = means-same toks (verdict toks) outcome (verdict-means toks) h

pub verdict-accept : (toks : List Lexed) → (verdict toks ≡ Accept) ↔ (IsProgram toks × IsShallow toks)
verdict-accept toks = (λ e. subst (Means toks) e (verdict-means toks), λ h. verdict-is toks Accept h)

pub verdict-fail : (toks : List Lexed) (left : ℕ) → (verdict toks ≡ Fail left) ↔ IsSyntaxAt toks left
verdict-fail toks left = (λ e. subst (Means toks) e (verdict-means toks), λ h. verdict-is toks (Fail left) h)

pub verdict-deep : (toks : List Lexed) (left : ℕ) → (verdict toks ≡ Deep left) ↔ IsTooDeepAt toks left
verdict-deep toks left = (λ e. subst (Means toks) e (verdict-means toks), λ h. verdict-is toks (Deep left) h)

-- so the definitions hold of these tokens: of none, of an alias without a type, and of one with 65 open brackets

pub empty-syntax : IsSyntaxAt [] 0
empty-syntax = (verdict-fail [] 0).0 refl

pub no_type-syntax : IsSyntaxAt (alias (sign_at symbols.Semicolon here ∷ [])) 1
no_type-syntax = (verdict-fail _ 1).0 verdict_no_type

pub nested_65-too_deep : IsTooDeepAt (alias (nested 65)) 2
nested_65-too_deep = (verdict-deep _ 2).0 verdict_65
