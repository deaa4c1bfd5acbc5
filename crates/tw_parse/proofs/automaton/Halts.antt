-- Where the automaton halts: what it has taken, what is awaited there, and how many brackets are open.
use Rattle.std.proofs.Common.{◌≡◌, refl, ℕ, zero, suc, ◌+◌, ◌≤◌, List, [], ◌∷◌, ◌++◌, length, ap, ◌∙◌, sym, subst, subst₂, ◌⊎◌, inl, inr, Bool, true, false, Some, None, arith}
use Rattle.tw_lex.specs.Tokens.{Lexeme, Lexed}
use Rattle.tw_parse.specs.Prefixes.{announces, open_brackets}
use Rattle.tw_parse.proofs.automaton.Transitions.{Expected, Decl', Next, next, settled, move, is_nullable, Outcome, Accept, Fail, Deep, at_end, left_at_end, went, run, here}
use Rattle.tw_parse.proofs.automaton.Awaited.{Holds, Builds, Has, Forest}
use Rattle.tw_parse.proofs.automaton.Forests.{builds}
use Rattle.tw_parse.proofs.tokens.Words.{tok}
use Rattle.tw_parse.proofs.automaton.Walks.{walk, moved}
use Rattle.tw_parse.proofs.automaton.Counts.{is_closing, counted, open_in, is_angled, unless, plain, Settled, Kept, kept, passed_by}
use Rattle.tw_parse.proofs.automaton.Shallow.{Shallow, count_of, shallow_none, shallow_then}

-- nothing can be taken on, whatever follows
abbrev pub IsStuck : List Lexed → List Expected → Type 0
IsStuck [] st = at_end st ≡ Fail 0
IsStuck (t ∷ ts) st = (more : List Lexed) → walk (t ∷ more) st ≡ None

pub record Accepted (limit : ℕ) (announced : Bool) (ts : List Lexed) (st : List Expected) : Type 0 where
  pub rest : List Expected
  pub taken : walk ts st ≡ Some rest
  pub end : at_end rest ≡ Accept
  pub shallow : Shallow limit (open_in st) announced ts

pub record Failed (limit : ℕ) (announced : Bool) (ts : List Lexed) (st : List Expected) (left : ℕ) : Type 0 where
  pub prefix : List Lexed
  pub suffix : List Lexed
  pub rest : List Expected
  pub parts : ts ≡ prefix ++ suffix
  pub count : left ≡ length suffix
  pub taken : walk prefix st ≡ Some rest
  pub stuck : IsStuck suffix rest
  pub shallow : Shallow limit (open_in st) announced prefix

pub record Deepened (limit : ℕ) (announced : Bool) (ts : List Lexed) (st : List Expected) (left : ℕ) : Type 0 where
  pub prefix : List Lexed
  pub bad : Lexed
  pub suffix : List Lexed
  pub rest : List Expected
  pub parts : ts ≡ prefix ++ bad ∷ suffix
  pub count : left ≡ length (bad ∷ suffix)
  pub taken : walk (prefix ++ bad ∷ []) st ≡ Some rest
  pub shallow : Shallow limit (open_in st) announced prefix
  pub deeper : open_brackets (open_in st) announced (prefix ++ bad ∷ []) ≡ suc limit

abbrev pub Halted : ℕ → Bool → List Lexed → List Expected → Outcome → Type 0
Halted limit announced ts st Accept = Accepted limit announced ts st
Halted limit announced ts st (Fail left) = Failed limit announced ts st left
Halted limit announced ts st (Deep left) = Deepened limit announced ts st left

-- a token before where the automaton halts
prepended : (limit : ℕ) (announced : Bool) (t : Lexed) (ts : List Lexed) (st after : List Expected) → open_in st ≤ limit
    → ((us : List Lexed) → walk (t ∷ us) st ≡ walk us after) → count_of (open_in st) announced t.lexeme ≡ open_in after
    → (outcome : Outcome) → Halted limit (announces t.lexeme) ts after outcome → Halted limit announced (t ∷ ts) st outcome
prepended limit announced t ts st after fits walks counts outcome h = go outcome h
  where
    shallow : (us : List Lexed) → Shallow limit (open_in after) (announces t.lexeme) us → Shallow limit (open_in st) announced (t ∷ us)
    shallow us h = shallow_then limit (open_in st) announced t us fits (subst (λ n. Shallow limit n (announces t.lexeme) us) (sym counts) h)

    go : (outcome : Outcome) → Halted limit (announces t.lexeme) ts after outcome → Halted limit announced (t ∷ ts) st outcome
    go Accept h = record { rest = h.rest; taken = walks ts ∙ h.taken; end = h.end; shallow = shallow ts h.shallow }
    go (Fail left) h =
        record { prefix = t ∷ h.prefix; suffix = h.suffix; rest = h.rest; parts = ap (λ x. t ∷ x) h.parts; count = h.count; taken = walks h.prefix ∙ h.taken; stuck = h.stuck; shallow = shallow h.prefix h.shallow }
    go (Deep left) h = record {
      prefix = t ∷ h.prefix;
      bad = h.bad;
      suffix = h.suffix;
      rest = h.rest;
      parts = ap (λ x. t ∷ x) h.parts;
      count = h.count;
      taken = walks (h.prefix ++ h.bad ∷ []) ∙ h.taken;
      shallow = shallow h.prefix h.shallow;
      deeper = ap (λ n. open_brackets n (announces t.lexeme) (h.prefix ++ h.bad ∷ [])) counts ∙ h.deeper;
    }

-- a stack below a symbol that was announced, or was not
below : (announced : Bool) (n : Expected) (st : List Expected) → Settled announced (n ∷ st) → (is_angled n ≡ announced) × (plain st ≡ true)
below true n st h = h
below false n st h = go (is_angled n) h
  where
    go : (angled : Bool) → unless angled (plain st) ≡ true → (angled ≡ false) × (plain st ≡ true)
    go false h = (refl, h)
    go true h = absurd (grind arith)

kept_settled : (announced : Bool) (n : Expected) (w : Lexeme) (st : List Expected) (now after : Next)
    → (Holds (is_nullable n) → Kept announced (open_in st) true w after) → (now ≡ Next.Pop → Holds (is_nullable n))
    → Kept announced (counted (is_closing n) (open_in st)) true w now → Kept announced (counted (is_closing n) (open_in st)) true w (settled now after)
kept_settled announced n w st Next.Pop after under pops h =
    subst (λ b. Kept announced (counted b (open_in st)) true w after) (sym (passed_by n (pops refl)).1) (under (pops refl))
kept_settled announced n w st (Next.Take more) after under pops h = h
kept_settled announced n w st (Next.Open more) after under pops h = h
kept_settled announced n w st (Next.Shut more) after under pops h = h
kept_settled announced n w st Next.Stop after under pops h = tt

-- only what may be none is passed by
pops_null : (n : Expected) (w : Lexeme) (st : List Expected) → next n w st ≡ Next.Pop → Holds (is_nullable n)
pops_null n w st e = subst (Builds (is_nullable n) (Has n (tok w here ∷ []) (Forest st)) []) e (builds n w here [] st)

kept_move : (announced : Bool) (w : Lexeme) (st : List Expected) → Settled announced st → Kept announced (open_in st) true w (move w st)
kept_move true w [] h = absurd h
kept_move false w [] h = kept Decl' w []
kept_move announced w (n ∷ st) h =
    let parts = below announced n st h in
    kept_settled announced n w st (next n w st) (move w st)
    (λ null. kept_move announced w st (subst (λ b. Settled b st) ((sym (passed_by n null).0) ∙ parts.0) parts.1))
    (pops_null n w st)
    (subst₂ (λ b g. Kept b (counted (is_closing n) (open_in st)) g w (next n w st)) parts.0 parts.1 (kept n w st))

at_end_is : (st : List Expected) → (at_end st ≡ Accept) ⊎ (at_end st ≡ Fail 0)
at_end_is [] = inl refl
at_end_is (n ∷ st) = go (is_nullable n) (at_end_is st)
  where
    go : (nullable : Bool) → (at_end st ≡ Accept) ⊎ (at_end st ≡ Fail 0) → (left_at_end nullable (at_end st) ≡ Accept) ⊎ (left_at_end nullable (at_end st) ≡ Fail 0)
    go true h = h
    go false h = inr refl

halted_at_end : (limit : ℕ) (announced : Bool) (st : List Expected) → open_in st ≤ limit → Halted limit announced [] st (at_end st)
halted_at_end limit announced st fits = go (at_end_is st)
  where
    go : (at_end st ≡ Accept) ⊎ (at_end st ≡ Fail 0) → Halted limit announced [] st (at_end st)
    go (inl e) = subst (Halted limit announced [] st) (sym e) (record { rest = st; taken = refl; end = e; shallow = shallow_none limit (open_in st) announced fits })
    go (inr e) = subst (Halted limit announced [] st) (sym e)
        (record { prefix = []; suffix = []; rest = st; parts = refl; count = refl; taken = refl; stuck = e; shallow = shallow_none limit (open_in st) announced fits })

-- a token that may not stand here
halted_here : (limit : ℕ) (announced : Bool) (t : Lexed) (ts : List Lexed) (st : List Expected) → open_in st ≤ limit → ((more : List Lexed) → walk (t ∷ more) st ≡ None)
    → Failed limit announced (t ∷ ts) st (suc (length ts))
halted_here limit announced t ts st fits stuck =
    record { prefix = []; suffix = t ∷ ts; rest = st; parts = refl; count = refl; taken = refl; stuck = stuck; shallow = shallow_none limit (open_in st) announced fits }

halted_went : (limit room : ℕ) (announced : Bool) (t : Lexed) (ts : List Lexed) (st : List Expected) → open_in st + room ≡ limit
    → ((r : ℕ) (after : List Expected) → Settled (announces t.lexeme) after → open_in after + r ≡ limit → Halted limit (announces t.lexeme) ts after (run ts r after))
    → (next : Next) → move t.lexeme st ≡ next → Kept announced (open_in st) true t.lexeme next
    → Halted limit announced (t ∷ ts) st (went next room (run ts) (suc (length ts)))
halted_went limit room announced t ts st fits after (Next.Take more) e h =
    prepended limit announced t ts st more (omega arith) (λ us. ap (λ x. moved x (walk us)) e) (rw (h.2, h.3) (sym h.0)) _ (after room more (h.1 refl) (rw h.0 fits))
halted_went limit (suc room) announced t ts st fits after (Next.Open more) e h =
    prepended limit announced t ts st more (omega arith) (λ us. ap (λ x. moved x (walk us)) e) (rw h.2 (omega (arith, h.0))) _ (after room more (h.1 refl) (omega (arith, h.0)))
halted_went limit zero announced t ts st fits after (Next.Open more) e h =
    record {
      prefix = [];
      bad = t;
      suffix = ts;
      rest = more;
      parts = refl;
      count = refl;
      taken = ap (λ x. moved x (walk [])) e;
      shallow = shallow_none limit (open_in st) announced (omega arith);
      deeper = rw h.2 (omega arith);
    }
halted_went limit room announced t ts st fits after (Next.Shut more) e h =
    prepended limit announced t ts st more (omega arith) (λ us. ap (λ x. moved x (walk us)) e) (rw (h.2, h.3) (omega (arith, h.0))) _ (after (suc room) more (h.1 refl) (omega (arith, h.0)))
halted_went limit room announced t ts st fits after Next.Pop e h = halted_here limit announced t ts st (omega arith) (λ more. ap (λ x. moved x (walk more)) e)
halted_went limit room announced t ts st fits after Next.Stop e h = halted_here limit announced t ts st (omega arith) (λ more. ap (λ x. moved x (walk more)) e)

-- the automaton's outcome says where it halts
pub halted : (limit : ℕ) (announced : Bool) (ts : List Lexed) (room : ℕ) (st : List Expected) → Settled announced st → open_in st + room ≡ limit
    → Halted limit announced ts st (run ts room st)
halted limit announced [] room st h fits = halted_at_end limit announced st (omega arith)
halted limit announced (t ∷ ts) room st h fits =
    halted_went limit room announced t ts st fits (λ r after h fits. halted limit (announces t.lexeme) ts r after h fits) (move t.lexeme st) refl (kept_move announced t.lexeme st h)
