-- Reading whole states: the head, the chain, the separator, and the limit.
use Rattle.std.proofs.Common.{◌≡◌, ◌≢◌, ◌∙◌, ◌⊎◌, inl, inr, refl, ap, sym, subst, arith, ℕ, suc, ◌+◌, ◌<◌, ◌≤◌, List, [], ◌∷◌, ◌++◌, length, length-append, map, codes, Option, Some, None}
use Rattle.std.specs.List.{AllByRecursion}
use Rattle.std.proofs.lemmas.List.{length-map}
use Rattle.tw_text.specs.declared.limits.TheConstants.{STATES_LIMIT}
use Rattle.tw_text.specs.declared.refusal.StateWhy.TheVariants as state_why
use Rattle.tw_text.specs.Prefix.{after}
use Rattle.tw_text.proofs.Prefixes.{append-after}
use Rattle.tw_syntax.specs.Programs.{FunTree}
use Rattle.tw_types.specs.Types.{Widths, block_count}
use Rattle.tw_resolve.specs.Setting.{Setting}
use Rattle.tw_state.specs.declared.state.Side.{Side}
use Rattle.tw_state.specs.declared.state.Cell.{Cell as CellOfCode}
use Rattle.tw_state.specs.declared.state.State.{State as StateOfCode}
use Rattle.tw_state.specs.declared.state_fault.StateFault.TheVariants as fault
use Rattle.tw_state.specs.States.{Cell, IsWellFormed}
use Rattle.tw_state.specs.Results.{IsCell}
use Rattle.tw_state.specs.Steps.{fun_types}
use Rattle.tw_state.specs.FromCode.{ListedState, names_at, state_at, cell_of, listed_of}
use Rattle.tw_state.specs.FreeCells.{memory_of}
use Rattle.tw_state.specs.Listed.{HaveTypes}
use Rattle.tw_state.specs.TypedLists.{IsTypedOn}
use Rattle.tw_state.specs.StateText.{head_line}
use Rattle.tw_state.specs.StateLines.{separator, AreStatesOf, Progress, AtHead, InState, IsWhole, HeadLine, Separator, Reaches, Line}
use Rattle.tw_state.specs.StateRefusals.{Broken, OneMore, IsRefusedText, WrongChain, TooMany}
use Rattle.tw_state.specs.Reading.{Leads, IsRefusedFrom, partial}
use Rattle.tw_state.proofs.Listed.{listed_fits, listed_live}
use Rattle.tw_state.proofs.ReadPrefixes.{not_after}
use Rattle.tw_state.proofs.RightLines.{led_none, led_more, led_by, refused_wrong, wrong_head, wrong_after}
use Rattle.tw_state.proofs.SoundStates.{are_states}
use Rattle.tw_state.proofs.TypedStates.{live_at-listed}

pub head_shorter : (head : ℕ) (bytes behind : List ℕ) → bytes ≡ head_line head ++ behind → length behind + 1 ≤ length bytes
head_shorter head bytes behind is = omega (arith, ap length is, length-append (head_line head) behind)

-- the free cells alone decide whether a state is well-formed
pub formed_at : (side : Side) (fun : FunTree) (listed : ListedState) → IsWellFormed (memory_of listed) → IsWellFormed (state_at side fun listed)
formed_at side fun listed formed = record { chain = formed.chain; links = formed.links; once = formed.once }

pub formed_alone : (side : Side) (fun : FunTree) (listed : ListedState) → IsWellFormed (state_at side fun listed) → IsWellFormed (memory_of listed)
formed_alone side fun listed formed = record { chain = formed.chain; links = formed.links; once = formed.once }

map-last : (states : List StateOfCode) (state : StateOfCode) → map listed_of (states ++ state ∷ []) ≡ map listed_of states ++ listed_of state ∷ []
map-last [] state = refl
map-last (first ∷ states) state = ap (λ all. listed_of first ∷ all) (map-last states state)

pub sum_more : {A B C : Type 0} → (B → C) → A ⊎ B → A ⊎ C
sum_more more (inl a) = inl a
sum_more more (inr b) = inr (more b)

pub cells_full : (widths other : Widths) (cells : List CellOfCode) → widths ≡ other → length cells ≡ block_count widths → length (map cell_of cells) ≡ block_count other
cells_full widths other cells same counted = length-map cells cell_of ∙ counted ∙ ap block_count same

pub more_states : (states more : List StateOfCode) (state : StateOfCode) → more ≡ states ++ state ∷ [] → map listed_of more ≢ []
more_states states more state is e = omega (arith, ap length e, length-map more listed_of, ap length is, length-append states (state ∷ []))

module _ (setting : Setting) (side : Side) (fun : FunTree) where
  -- a listed state whose parts are typed is typed
  typed_by_parts : (state : ListedState) → state.head ≤ block_count setting.widths → length state.cells ≡ block_count setting.widths → AllByRecursion (IsCell setting) state.cells → length state.values ≡ length (names_at side fun)
      → HaveTypes setting.widths (fun_types setting fun) (names_at side fun) state.values → IsTypedOn setting side fun state
  typed_by_parts state within all cells counted values = record {
    counted = counted;
    typed = record {
      typed = record {
        head_within = within;
        all_blocks = all;
        each_cell = cells;
        names = listed_fits setting.widths (fun_types setting fun) (names_at side fun) state.values values;
      };
      names = listed_live setting.widths (fun_types setting fun) (names_at side fun) state.values values ∙ sym (live_at-listed side fun);
    };
  }

  module _ (states : List ListedState) (lines : ℕ) (bytes : List ℕ) where
    pub head_led : (head : ℕ) (behind : List ℕ) → head ≤ block_count setting.widths → bytes ≡ head_line head ++ behind → Leads setting side fun (AtHead states) lines bytes (InState states (partial head [] [])) (lines + 1) behind
    head_led head behind within is =
        led_more setting side fun (AtHead states) (AtHead states) _ lines lines bytes bytes behind (led_none setting side fun (AtHead states) lines bytes) (record { text = head_line head; parts = is; right = HeadLine states head within })

    pub cells_led : (head : ℕ) (cells : List Cell) (read : ℕ) (behind rest : List ℕ) → head ≤ block_count setting.widths → bytes ≡ head_line head ++ behind
        → Leads setting side fun (InState states (partial head [] [])) (lines + 1) behind (InState states (partial head cells [])) read rest → Leads setting side fun (AtHead states) lines bytes (InState states (partial head cells [])) read rest
    cells_led head cells read behind rest within is led = led_by setting side fun (AtHead states) _ _ lines (lines + 1) read bytes behind rest (head_led head behind within is) led

    pub head_refused : (bytes ≡ [] → states ≢ []) → ((head : ℕ) (rest : List ℕ) → head ≤ block_count setting.widths → ¬ (bytes ≡ head_line head ++ rest)) → IsRefusedFrom setting side fun (AtHead states) lines bytes (fault.BadState (lines + 1) state_why.Syntax)
    head_refused goes_on none = refused_wrong setting side fun (AtHead states) lines (lines + 1) bytes (omega arith) (wrong_head setting side fun states bytes goes_on none)

    pub chain_refused : (state : ListedState) (after : ℕ) (rest : List ℕ) → Leads setting side fun (AtHead states) lines bytes (InState states state) after rest → IsWhole setting side fun state → ¬ IsWellFormed (state_at side fun state)
        → lines + 1 + length state.cells + length state.values ≡ after → IsRefusedFrom setting side fun (AtHead states) lines bytes (fault.BadState (lines + 1) state_why.Chain)
    chain_refused state after rest led whole broken counted all chain = WrongChain (lines + 1) after states state rest (led.chain all chain) (Broken states state whole broken) counted refl

  module _ (states : List StateOfCode) (state : StateOfCode) (all : List ℕ) (lines : ℕ) (rest : List ℕ) (chain : Reaches setting side fun all lines (InState (map listed_of states) (listed_of state)) rest) (whole : IsWhole setting side fun (listed_of state)) (formed : IsWellFormed (state_at side fun (listed_of state))) where
    -- the text ends
    pub text_ends : (more : List StateOfCode) → more ≡ states ++ state ∷ [] → length rest ≡ 0 → AreStatesOf setting side fun all (map listed_of more)
    text_ends more is none =
        subst (AreStatesOf setting side fun all) (sym (ap (map listed_of) is ∙ map-last states state))
        (are_states setting side fun typed_by_parts all lines (map listed_of states) (listed_of state) (subst (Reaches setting side fun all lines (InState (map listed_of states) (listed_of state))) (empty rest none) chain) whole formed)
      where
        empty : (text : List ℕ) → length text ≡ 0 → text ≡ []
        empty [] none = refl
        empty (byte ∷ text) none = absurd (omega (arith, none))

    -- neither its end nor a separator follows
    pub no_separator : ¬ (length rest ≡ 0) → None ≡ after separator rest → IsRefusedText setting side fun all (fault.BadState (lines + 1) state_why.Syntax)
    no_separator some none =
        refused_wrong setting side fun _ lines (lines + 1) rest (omega arith)
        (wrong_after setting side fun (map listed_of states) (listed_of state) rest whole formed (λ e. some (ap length e)) (λ behind e. not_after separator rest behind none e)) all chain

    module _ (next : List ℕ) (found : Some next ≡ after separator rest) where
      -- a separator after as many states as the limit
      pub too_many : (more : List StateOfCode) → more ≡ states ++ state ∷ [] → length more ≡ STATES_LIMIT → IsRefusedText setting side fun all fault.TooMany
      too_many more is many =
          TooMany lines _ rest chain
          (OneMore (map listed_of states) (listed_of state) next whole formed (omega (arith, many, ap length is, length-append states (state ∷ []), length-map states listed_of)) (append-after separator rest next (sym found))) refl

      -- a separator before a further state
      pub one_more : (more : List StateOfCode) → more ≡ states ++ state ∷ [] → length more < STATES_LIMIT → Reaches setting side fun all (lines + 1) (AtHead (map listed_of more)) next
      one_more more is few =
          subst (λ ss. Reaches setting side fun all (lines + 1) (AtHead ss) next) (sym (ap (map listed_of) is ∙ map-last states state))
          (Line lines _ rest _ next chain
          (record { text = separator; parts = append-after separator rest next (sym found); right = Separator (map listed_of states) (listed_of state) whole formed (omega (arith, few, ap length is, length-append states (state ∷ []), length-map states listed_of)) }))

      pub separator_shorter : length next + 1 ≤ length rest
      separator_shorter = omega (arith, ap length (append-after separator rest next (sym found)), length-append separator next)
