-- What reading a source gives is what the grammar says of it.
use Rattle.std.proofs.Common.{◌≡◌, refl, ◌∙◌, ap, sym, subst, ℕ, ◌<◌, List, length, take, arith, Result, Ok, Err, IfOk, IfErr}
use Rattle.std.proofs.Math.Seq.{take-length}
use Rattle.std.specs.Str.{chars, IsUtf8, IsValidUpTo}
use Rattle.tw_text.specs.declared.refusal.Refusal.{Refusal}
use Rattle.tw_text.specs.declared.refusal.Fault.{Fault}
use Rattle.tw_text.specs.declared.refusal.Fault.TheVariants as fault
use Rattle.tw_text.specs.declared.refusal.Rule.TheVariants as rule
use Rattle.tw_text.specs.Places.{first_place}
use Rattle.tw_lex.specs.Scans.{IsNoToken}
use Rattle.tw_lex.proofs.Splits.{one_reading, no_reading}
use Rattle.tw_lex.proofs.Endings.{one_refusal}
use Rattle.tw_syntax.specs.Programs.{ProgramTree}
use Rattle.tw_parse.specs.declared.error.Rejection.{Rejection}
use Rattle.tw_parse.specs.declared.error.Rejection.TheVariants.{Syntax, Nesting}
use Rattle.tw_parse.specs.declared.error.ParseError.{ParseError}
use Rattle.tw_parse.specs.declared.error.ParseError.TheVariants as error
use Rattle.tw_lex.specs.Tokens.{Lexed, HasTokens}
use Rattle.tw_parse.specs.Trees.{HasTree}
use Rattle.tw_parse.specs.Prefixes.{IsShallow, IsSyntaxAt}
use Rattle.tw_parse.specs.reading.Statements.{whole_at}
use Rattle.tw_parse.specs.Refusals.{IsNoText, refusal_of, end_of}
use Rattle.tw_parse.specs.reading.Steps.{Fails}
use Rattle.tw_parse.specs.reading.Outcomes.{IsParsed, IsNotParsed, NoText, NoToken, Rejected, IsFault, fault_of}
use Rattle.tw_parse.specs.Sources.{IsRefusedAt, IsNoProgram, IsTooDeep, IsSource, IsRefused, Utf8, Token, Program, Depth}
use Rattle.tw_parse.proofs.forms.OneProgram.{tree-same}
use Rattle.tw_parse.proofs.reading.Readings.{read-tree, read-syntax, read-nesting}
use Rattle.tw_parse.proofs.automaton.Verdicts.{program-not_syntax, shallow-not_deep, syntax-same, deep-same, syntax-not_deep}

one_toks : (cs : List ℕ) (ts us : List Lexed) → HasTokens cs first_place ts → HasTokens cs first_place us → ts ≡ us
one_toks cs ts us a b = one_reading cs first_place us ts b a

pub source_of : (bytes : List ℕ) (tree : ProgramTree) → IsParsed bytes tree → IsSource bytes tree
source_of bytes tree p =
    let h = read-tree p.toks tree p.reads in record { text = p.text; toks = p.toks; has = p.has; has_tree = h.0; shallow = h.1 }

pub one_source : (bytes : List ℕ) (tree other : ProgramTree) → IsSource bytes tree → IsSource bytes other → other ≡ tree
one_source bytes tree other s o =
    tree-same s.toks other tree (subst (λ (ts : List Lexed). HasTree ts other) (one_toks (chars bytes) o.toks s.toks o.has s.has) o.has_tree) s.has_tree

rejected_at : (bytes : List ℕ) (refusal : Refusal) (toks : List Lexed) (rejection : Rejection) → IsUtf8 bytes → HasTokens (chars bytes) first_place toks → whole_at toks ≡ Err rejection
    → refusal ≡ refusal_of rejection toks (end_of bytes) → IsRefused bytes refusal
rejected_at bytes refusal toks (Syntax left) text has reads is =
    Program (record { text = text; toks = toks; left = left; has = has; at = read-syntax toks left reads; is = is })
rejected_at bytes refusal toks (Nesting left) text has reads is =
    Depth (record { text = text; toks = toks; left = left; has = has; at = read-nesting toks left reads; is = is })

-- a source whose tokens are wrong has no tree
pub fault_in : (bytes : List ℕ) (stop : ParseError) (toks : List Lexed) → IsUtf8 bytes → HasTokens (chars bytes) first_place toks → Fails stop (whole_at toks) → IsFault bytes (fault_of stop toks (end_of bytes))
fault_in bytes error.Memory toks text has reads = tt
fault_in bytes (error.Rejection rejection) toks text has reads = Rejected (record { text = text; toks = toks; rejection = rejection; has = has; reads = reads; is = refl })

pub refused_of : (bytes : List ℕ) (refusal : Refusal) → IsNotParsed bytes refusal → IsRefused bytes refusal
refused_of bytes refusal (NoText n) = Utf8 n
refused_of bytes refusal (NoToken text n) = Token text n
refused_of bytes refusal (Rejected h) = rejected_at bytes refusal h.toks h.rejection h.text h.has h.reads h.is

two_ways : (m n : ℕ) → (m < n → ⊥) → (n < m → ⊥) → m ≡ n
two_ways m n not_less not_more = omega (arith, not_less, not_more)

no_text : (bytes : List ℕ) (count : ℕ) → IsValidUpTo bytes count → IsUtf8 bytes → ⊥
no_text bytes count v text = v.longest (length bytes) v.short (subst IsUtf8 (sym (take-length bytes)) text)

-- a source with a tree is not refused
pub apart : (bytes : List ℕ) (tree : ProgramTree) (refusal : Refusal) → IsSource bytes tree → IsRefused bytes refusal → ⊥
apart bytes tree refusal s (Utf8 n) = no_text bytes n.count n.valid s.text
apart bytes tree refusal s (Token text n) = no_reading (chars bytes) first_place refusal.at s.toks n.stops s.has
apart bytes tree refusal s (Program n) =
    program-not_syntax n.toks n.left (subst (λ (ts : List Lexed). HasTree ts tree) (one_toks (chars bytes) s.toks n.toks s.has n.has) s.has_tree).0 n.at
apart bytes tree refusal s (Depth n) =
    shallow-not_deep n.toks n.left (subst IsShallow (one_toks (chars bytes) s.toks n.toks s.has n.has) s.shallow) n.at

-- the length of the longest prefix that is a text
one_count : (bytes : List ℕ) (m n : ℕ) → IsValidUpTo bytes m → IsValidUpTo bytes n → m ≡ n
one_count bytes m n v w = two_ways m n (λ less. v.longest n less w.front) (λ less. w.longest m less v.front)

no_text_same : (bytes : List ℕ) (r other : Refusal) → IsNoText bytes r → IsNoText bytes other → other ≡ r
no_text_same bytes r other n m =
    m.is ∙ ap (λ (k : ℕ). record { rule = rule.Utf8; at = end_of (take k bytes); found = 0; limit = 0 }) (one_count bytes m.count n.count m.valid n.valid) ∙ sym n.is

-- the same tokens are refused at the same place
refused_at_same : {rejection : ℕ → Rejection} {IsAt : List Lexed → ℕ → Type 0} → ((toks : List Lexed) (m n : ℕ) → IsAt toks m → IsAt toks n → m ≡ n) → (bytes : List ℕ) (r other : Refusal)
    → IsRefusedAt rejection IsAt bytes r → IsRefusedAt rejection IsAt bytes other → other ≡ r
refused_at_same {rejection} {IsAt} one bytes r other n m =
    let toks = one_toks (chars bytes) m.toks n.toks m.has n.has in
    let left : m.left ≡ n.left = one n.toks m.left n.left (subst (λ (ts : List Lexed). IsAt ts m.left) toks m.at) n.at in
    m.is ∙ ap (λ (k : ℕ). refusal_of (rejection k) m.toks (end_of bytes)) left ∙ ap (λ (ts : List Lexed). refusal_of (rejection n.left) ts (end_of bytes)) toks ∙ sym n.is

not_both : (bytes : List ℕ) (r other : Refusal) → IsNoProgram bytes r → IsTooDeep bytes other → ⊥
not_both bytes r other n m =
    syntax-not_deep m.toks n.left m.left (subst (λ (ts : List Lexed). IsSyntaxAt ts n.left) (one_toks (chars bytes) n.toks m.toks n.has m.has) n.at) m.at

no_token_in : (bytes : List ℕ) (r : Refusal) (toks : List Lexed) → IsNoToken (chars bytes) r → HasTokens (chars bytes) first_place toks → ⊥
no_token_in bytes r toks n has = no_reading (chars bytes) first_place r.at toks n.stops has

-- a source is refused in one way
pub one_source_refusal : (bytes : List ℕ) (r other : Refusal) → IsRefused bytes r → IsRefused bytes other → other ≡ r
one_source_refusal bytes r other (Utf8 n) (Utf8 m) = no_text_same bytes r other n m
one_source_refusal bytes r other (Utf8 n) (Token text m) = absurd (no_text bytes n.count n.valid text)
one_source_refusal bytes r other (Utf8 n) (Program m) = absurd (no_text bytes n.count n.valid m.text)
one_source_refusal bytes r other (Utf8 n) (Depth m) = absurd (no_text bytes n.count n.valid m.text)
one_source_refusal bytes r other (Token text n) (Utf8 m) = absurd (no_text bytes m.count m.valid text)
one_source_refusal bytes r other (Token text n) (Token text' m) = one_refusal (chars bytes) r other n m
one_source_refusal bytes r other (Token text n) (Program m) = absurd (no_token_in bytes r m.toks n m.has)
one_source_refusal bytes r other (Token text n) (Depth m) = absurd (no_token_in bytes r m.toks n m.has)
one_source_refusal bytes r other (Program n) (Utf8 m) = absurd (no_text bytes m.count m.valid n.text)
one_source_refusal bytes r other (Program n) (Token text m) = absurd (no_token_in bytes other n.toks m n.has)
one_source_refusal bytes r other (Program n) (Program m) = refused_at_same syntax-same bytes r other n m
one_source_refusal bytes r other (Program n) (Depth m) = absurd (not_both bytes r other n m)
one_source_refusal bytes r other (Depth n) (Utf8 m) = absurd (no_text bytes m.count m.valid n.text)
one_source_refusal bytes r other (Depth n) (Token text m) = absurd (no_token_in bytes other n.toks m n.has)
one_source_refusal bytes r other (Depth n) (Program m) = absurd (not_both bytes other r m n)
one_source_refusal bytes r other (Depth n) (Depth m) = refused_at_same deep-same bytes r other n m

-- the same of what a call gave

pub source_given : {A : Type 0} (bytes : List ℕ) (tree : A → ProgramTree) (r : Result A Fault) → IfOk r (λ x. IsParsed bytes (tree x)) → IfOk r (λ x. IsSource bytes (tree x))
source_given bytes tree (Ok x) h = source_of bytes (tree x) h
source_given bytes tree (Err e) h = tt

pub only_given : {A : Type 0} (bytes : List ℕ) (tree : A → ProgramTree) (r : Result A Fault) → IfOk r (λ x. IsParsed bytes (tree x))
    → IfOk r (λ x. (other : ProgramTree) → IsSource bytes other → other ≡ tree x)
only_given bytes tree (Ok x) h = λ other s. one_source bytes (tree x) other (source_of bytes (tree x) h) s
only_given bytes tree (Err e) h = tt

pub accepted_given : {A : Type 0} (bytes : List ℕ) (tree : A → ProgramTree) (r : Result A Fault) → IfOk r (λ x. IsParsed bytes (tree x))
    → IfOk r (λ x. (refusal : Refusal) → ¬ IsRefused bytes refusal)
accepted_given bytes tree (Ok x) h = λ refusal n. apart bytes (tree x) refusal (source_of bytes (tree x) h) n
accepted_given bytes tree (Err e) h = tt

pub refused_given : {A : Type 0} (bytes : List ℕ) (r : Result A Fault) (refusal : Refusal) → IfErr r (λ e. IsFault bytes e) → r ≡ Err (fault.Refused refusal) → IsRefused bytes refusal
refused_given bytes (Ok x) refusal h e = absurd (cc)
refused_given bytes (Err (fault.Refused found)) refusal h e =
    let same : found ≡ refusal = cc in subst (IsRefused bytes) same (refused_of bytes found h)
refused_given bytes (Err fault.Memory) refusal h e = absurd (cc)
