-- The automaton recognises the viable prefixes: what it takes is one, and it takes each.
use Rattle.std.proofs.Common.{◌≡◌, refl, List, [], ◌∷◌, ◌++◌, append_assoc, ap, ◌∙◌, sym, subst, Some, arith}
use Rattle.tw_lex.specs.Tokens.{Lexed}
use Rattle.tw_parse.specs.Prefixes.{IsProgram, IsViablePrefix}
use Rattle.tw_parse.proofs.automaton.Transitions.{Expected, Decl', Next, move}
use Rattle.tw_parse.proofs.automaton.Walks.{walk, moved}
use Rattle.tw_parse.proofs.automaton.Forests.{program}
use Rattle.tw_parse.proofs.automaton.TakenPrograms.{takes_program}
use Rattle.tw_parse.proofs.automaton.Completions.{completion, completes}

abbrev pub start : List Expected
start = Decl' ∷ []

-- tokens after others that are taken
pub walk-append : (prefix suffix : List Lexed) (st rest : List Expected) → walk prefix st ≡ Some rest → walk (prefix ++ suffix) st ≡ walk suffix rest
walk-append [] suffix st rest e = let same : st ≡ rest = cc in ap (walk suffix) same
walk-append (t ∷ prefix) suffix st rest e = go (move t.lexeme st) (λ more h. walk-append prefix suffix more rest h) e
  where
    go : (next : Next) → ((more : List Expected) → walk prefix more ≡ Some rest → walk (prefix ++ suffix) more ≡ walk suffix rest)
        → moved next (walk prefix) ≡ Some rest → moved next (walk (prefix ++ suffix)) ≡ walk suffix rest
    go (Next.Take more) after e = after more e
    go (Next.Open more) after e = after more e
    go (Next.Shut more) after e = after more e
    go Next.Pop after e = absurd (grind arith)
    go Next.Stop after e = absurd (grind arith)

pub walk-program : (toks : List Lexed) → IsProgram toks → walk toks start ≡ Some []
walk-program toks h = ap (λ x. walk x start) h.1 ∙ takes_program h.0

pub viable-walked : (toks : List Lexed) (rest : List Expected) → walk toks start ≡ Some rest → IsViablePrefix toks
viable-walked toks rest e =
    (completion rest, program (toks ++ completion rest) [] (walk-append toks (completion rest) start rest e ∙ completes rest) refl)

pub viable-prefix : (prefix suffix : List Lexed) → IsViablePrefix (prefix ++ suffix) → IsViablePrefix prefix
viable-prefix prefix suffix h = (suffix ++ h.0, subst IsProgram (append_assoc prefix suffix h.0) h.1)

pub viable-program : (prefix suffix toks : List Lexed) → toks ≡ prefix ++ suffix → IsProgram toks → IsViablePrefix prefix
viable-program prefix suffix toks parts h = (suffix, subst IsProgram parts h)

-- of two ways to part the same tokens one has the shorter prefix
pub data Parted (a b c d : List Lexed) : Type 0 where
  Within : (more : List Lexed) → c ≡ a ++ more → b ≡ more ++ d → Parted a b c d
  Beyond : (t : Lexed) (more : List Lexed) → a ≡ c ++ t ∷ more → d ≡ t ∷ more ++ b → Parted a b c d

pub parted : (a b c d : List Lexed) → a ++ b ≡ c ++ d → Parted a b c d
parted [] b c d e = Parted.Within c refl e
parted (t ∷ a) b [] d e = Parted.Beyond t a refl (sym e)
parted (t ∷ a) b (u ∷ c) d e = go (parted a b c d (cc))
  where
    same : u ≡ t
    same = cc

    go : Parted a b c d → Parted (t ∷ a) b (u ∷ c) d
    go (Parted.Within more first second) = Parted.Within more (cc) second
    go (Parted.Beyond v more first second) = Parted.Beyond v more (cc) second
