-- What the readers of numbers, paths and atoms say.
use Rattle.std.proofs.Common.{◌≡◌, refl, ℕ, zero, suc, ◌≤◌, ◌⊎◌, inl, inr, List, ◌∷◌, length, ap, sym, ◌∙◌, Bool, true, false, if◌then◌else◌, Ok, Err, arith}
use Rattle.tw_text.specs.declared.place.Pos.{Pos}
use Rattle.tw_syntax.specs.Names.{NameTree, PathTree}
use Rattle.tw_syntax.specs.Terms.{NumberAtom}
use Rattle.tw_lex.specs.declared.symbol.Symbol.TheVariants as symbols
use Rattle.tw_parse.specs.declared.error.Rejection.TheVariants.{Syntax}
use Rattle.tw_lex.specs.Tokens.{Lexed, number_at, sign_at}
use Rattle.tw_parse.specs.Grammar as form
use Rattle.tw_parse.specs.Grammar.{StepsForm, steps_text, PathForm, path_text, AtomForm, atom_text}
use Rattle.tw_parse.specs.Trees.{steps_tree, path_tree, atom_tree}
use Rattle.tw_parse.specs.reading.Steps.{is_component, is_bound_number, leads, leads_number, take_bound_number, take_component, many_at}
use Rattle.tw_parse.specs.reading.Terms.{type_at, step_at, path_at, unit_at, null_at, zero_at, plain_atom_at, atom_with, atom_at}
use Rattle.tw_parse.proofs.tokens.Words.{is_component-true, is_bound_number-true}
use Rattle.tw_parse.proofs.reading.Says.{Says, says, says_ok, says_err, says_as, says_either, says_many, Shorter, Got, Spells, says_place, first_at}
use Rattle.tw_parse.proofs.reading.SaysTypes.{says_mark, says_open, says_name, says_number, says_angle, says_type, Counted}

pub record Small (ts : List Lexed) (x : ℕ × List Lexed) : Type 0 where
  pub at : Pos
  pub same : ts ≡ number_at x.0 at ∷ x.1
  pub small : x.0 ≤ 255

pub record Half (ts : List Lexed) (x : ℕ × List Lexed) : Type 0 where
  pub at : Pos
  pub same : ts ≡ number_at x.0 at ∷ x.1
  pub half : (x.0 ≡ 1) ⊎ (x.0 ≡ 2)

pub record Stepped (ts : List Lexed) (x : ℕ × List Lexed) : Type 0 where
  pub dot : Pos
  pub at : Pos
  pub same : ts ≡ sign_at symbols.Dot dot ∷ number_at x.0 at ∷ x.1
  pub half : (x.0 ≡ 1) ⊎ (x.0 ≡ 2)

pub says_small : (ts : List Lexed) → Says (Small ts) (take_bound_number ts)
unfolding take_bound_number
says_small ts = says (says_number ts) (λ number h. go number h (is_bound_number number.0) (is_bound_number-true number.0))
  where
    go : (number : ℕ × List Lexed) → Counted ts number → (is : Bool) → (is ≡ true → number.0 ≤ 255) → Says (Small ts) (if is then Ok number else Err (Syntax (length ts)))
    go number h true e = says_ok (record { at = h.at; same = h.same; small = e refl })
    go number h false e = says_err

says_half : (ts : List Lexed) → Says (Half ts) (take_component ts)
unfolding take_component
says_half ts = says (says_number ts) (λ number h. go number h (is_component number.0) (is_component-true number.0))
  where
    go : (number : ℕ × List Lexed) → Counted ts number → (is : Bool) → (is ≡ true → (number.0 ≡ 1) ⊎ (number.0 ≡ 2))
        → Says (Half ts) (if is then Ok number else Err (Syntax (length ts)))
    go number h true e = says_ok (record { at = h.at; same = h.same; half = e refl })
    go number h false e = says_err

says_step : (ts : List Lexed) → Says (Stepped ts) (step_at ts)
unfolding step_at
says_step ts = says (says_mark symbols.Dot ts) (λ dot p. says_as (says_half dot.1) (λ half q. record { dot = dot.0; at = q.at; same = cc; half = q.half }))

pub step_shorter : (ts : List Lexed) → Says (Shorter ts) (step_at ts)
step_shorter ts = says_as (says_step ts) (λ x h. record { less = rw h.same (omega arith) })

says_steps : (n : ℕ) → Spells steps_text steps_tree (many_at (leads symbols.Dot) step_at n)
says_steps n ts = says_many (leads symbols.Dot) step_at Stepped (Got steps_text steps_tree)
    (λ us. record { form = form.NoSteps; spelled = refl; value = refl }) more says_step n ts
  where
    more : (us : List Lexed) (x : ℕ × List Lexed) (xs : List ℕ × List Lexed) → Stepped us x → Got steps_text steps_tree x.1 xs → Got steps_text steps_tree us (x.0 ∷ xs.0, xs.1)
    more us x xs h c = with h.half
      where
        with : (x.0 ≡ 1) ⊎ (x.0 ≡ 2) → Got steps_text steps_tree us (x.0 ∷ xs.0, xs.1)
        with (inl e) = record { form = form.First h.dot h.at c.form; spelled = cc; value = cc }
        with (inr e) = record { form = form.Second h.dot h.at c.form; spelled = cc; value = cc }

path_of : NameTree → List ℕ → PathTree
path_of root steps = record { root = root; steps = steps }

pub says_path : Spells path_text path_tree path_at
unfolding path_at path_of
says_path ts = says (says_name ts) (λ root p. says (says_steps (length root.1) root.1) (λ steps c.
    says_ok (record { form = record { at = root.0.at; root = root.0.text; steps = c.form }; spelled = cc; value = ap (path_of root.0) c.value })))

says_plain_atom : Spells atom_text atom_tree plain_atom_at
unfolding plain_atom_at
says_plain_atom ts =
    says_either (leads symbols.True ts) (says (says_mark symbols.True ts) (λ at p. says_ok (record { form = form.True at.0; spelled = p.same; value = refl })))
    (says_either (leads symbols.False ts) (says (says_mark symbols.False ts) (λ at p. says_ok (record { form = form.False at.0; spelled = p.same; value = refl })))
    (says_either (leads_number ts) (says (says_place ts) (λ at p. says (says_number ts) (λ number q.
    says_ok (record { form = form.Number q.at number.0; spelled = q.same; value = ap (λ x. NumberAtom x number.0) (ap (first_at at) (sym p.same ∙ q.same)) }))))
    (says (says_path ts) (λ path c. says_ok (record { form = form.Place c.form; spelled = c.spelled; value = rw c.value refl })))))

says_atom_with : (room : ℕ) → Spells atom_text atom_tree (atom_with room)
unfolding atom_with unit_at null_at zero_at
says_atom_with room ts =
    says_either (leads symbols.OpenParen ts) (says (says_open symbols.OpenParen room ts) (λ begin p. says (says_mark symbols.CloseParen begin.1) (λ close q.
    says_ok (record { form = form.Nothing begin.0 close.0; spelled = cc; value = refl }))))
    (says_either (leads symbols.Null ts) (says (says_mark symbols.Null ts) (λ at p. says (says_angle (type_at room) room (says_type room) at.1) (λ to c.
    says_ok (record { form = form.Null at.0 c.begin c.form c.close; spelled = cc; value = cc }))))
    (says_either (leads symbols.Default ts) (says (says_mark symbols.Default ts) (λ at p. says (says_angle (type_at room) room (says_type room) at.1) (λ of c.
    says_ok (record { form = form.Default at.0 c.begin c.form c.close; spelled = cc; value = cc }))))
    (says_plain_atom ts)))

pub says_atom : (room : ℕ) → Spells atom_text atom_tree (atom_at room)
unfolding atom_at
says_atom zero ts = says_err
says_atom (suc room) ts = says_atom_with room ts
