-- Which lines are right at a point of a text of states, and the points at which no right line follows.
use Rattle.std.proofs.Common.{◌≡◌, ◌≢◌, ◌∙◌, refl, ap, sym, subst, arith, ℕ, suc, ◌+◌, ◌<◌, ◌≤◌, Bool, true, false, List, [], ◌∷◌, ◌++◌, length, length-append, slice_get, decimal, Some}
use Rattle.std.proofs.lemmas.Option.{slice_get_within}
use Rattle.tw_text.specs.declared.limits.TheConstants.{STATES_LIMIT}
use Rattle.tw_text.specs.declared.refusal.StateWhy.TheVariants as state_why
use Rattle.tw_syntax.specs.Programs.{FunTree}
use Rattle.tw_types.specs.Types.{block_count}
use Rattle.tw_types.specs.Values.{Value}
use Rattle.tw_resolve.specs.Setting.{Setting}
use Rattle.tw_state.specs.declared.state.Side.{Side}
use Rattle.tw_state.specs.declared.state_fault.StateFault.{StateFault}
use Rattle.tw_state.specs.declared.state_fault.StateFault.TheVariants as fault
use Rattle.tw_state.specs.States.{Name, Cell, Free, Live, IsWellFormed}
use Rattle.tw_state.specs.Results.{IsCell, Fits}
use Rattle.tw_state.specs.Steps.{fun_types}
use Rattle.tw_state.specs.FromCode.{ListedState, names_at, state_at}
use Rattle.tw_state.specs.EntryEncoding.{targets_in}
use Rattle.tw_state.specs.StateText.{head_line, cell_line, name_line}
use Rattle.tw_state.specs.StateLines.{separator, Progress, AtHead, InState, IsWhole, IsLine, HeadLine, CellLine, NameLine, Separator, StepsTo, Line}
use Rattle.tw_state.specs.StateRefusals.{MayEnd, NoStates, LastState, BreaksChain, Broken, PassesLimit, OneMore, IsWrong, WrongLine}
use Rattle.tw_state.specs.Reading.{Leads, IsRefusedFrom}

-- the state of a point, or another one at a head
state_of_point : ListedState → Progress → ListedState
state_of_point other (AtHead states) = other
state_of_point other (InState states state) = state

-- the whole states before a point
states_of_point : Progress → List ListedState
states_of_point (AtHead states) = states
states_of_point (InState states state) = states

at_head : Progress → Bool
at_head (AtHead states) = true
at_head (InState states state) = false

same_state : (states others : List ListedState) (state other : ListedState) → InState states state ≡ InState others other → state ≡ other
unfolding state_of_point
same_state states others state other e = ap (state_of_point state) e

same_states : (states others : List ListedState) (state other : ListedState) → InState states state ≡ InState others other → states ≡ others
unfolding states_of_point
same_states states others state other e = ap states_of_point e

same_heads : (states others : List ListedState) → AtHead states ≡ AtHead others → states ≡ others
unfolding states_of_point
same_heads states others e = ap states_of_point e

not_head : (states others : List ListedState) (state : ListedState) → AtHead states ≡ InState others state → ⊥
unfolding at_head
not_head states others state e = let wrong : true ≡ false = ap at_head e in cc

pub one_inside : (xs : List ℕ) (c : ℕ) (ys : List ℕ) → 1 ≤ length (xs ++ c ∷ ys)
one_inside xs c ys = omega (arith, length-append xs (c ∷ ys))

module _ (setting : Setting) (side : Side) (fun : FunTree) where
  -- a right line where a state begins
  pub record IsHead (text : List ℕ) : Type 0 where
    pub head : ℕ
    pub within : head ≤ block_count setting.widths
    pub is : text ≡ head_line head

  -- a right line in a state
  pub data InOne (states : List ListedState) (state : ListedState) (text : List ℕ) : Type 0 where
    OfCell : (cell : Cell) → length state.cells < block_count setting.widths → IsCell setting cell → text ≡ cell_line (targets_in setting) (suc (length state.cells)) cell → InOne states state text
    OfName : (name : Name) (value : Value) → length state.cells ≡ block_count setting.widths → slice_get (names_at side fun) (length state.values) ≡ Some name
        → Fits setting.widths (fun_types setting fun name) (Some value) → text ≡ name_line name value → InOne states state text
    OfSeparator : IsWhole setting side fun state → IsWellFormed (state_at side fun state) → suc (length states) < STATES_LIMIT → text ≡ separator → InOne states state text

  pub head_only : (at next : Progress) (text : List ℕ) (states : List ListedState) → at ≡ AtHead states → IsLine setting side fun at text next → IsHead text
  head_only at next text states e (HeadLine others head within) = record { head = head; within = within; is = refl }
  head_only at next text states e (CellLine others state cell less is) = absurd (not_head _ _ _ (sym e))
  head_only at next text states e (NameLine others state name value all is fits) = absurd (not_head _ _ _ (sym e))
  head_only at next text states e (Separator others state whole formed few) = absurd (not_head _ _ _ (sym e))

  pub in_one : (at next : Progress) (text : List ℕ) (states : List ListedState) (state : ListedState) → at ≡ InState states state → IsLine setting side fun at text next → InOne states state text
  in_one at next text states state e (HeadLine others head within) = absurd (not_head _ _ _ e)
  in_one at next text states state e (CellLine others other cell less is) =
      subst (λ s. InOne states s (cell_line (targets_in setting) (suc (length other.cells)) cell)) (same_state _ _ _ _ e) (OfCell cell less is refl)
  in_one at next text states state e (NameLine others other name value all is fits) =
      subst (λ s. InOne states s (name_line name value)) (same_state _ _ _ _ e) (OfName name value all is fits refl)
  in_one at next text states state e (Separator others other whole formed few) =
      subst (λ (s : List ListedState). InOne s state separator) (same_states _ _ _ _ e)
      (subst (λ s. InOne others s separator) (same_state _ _ _ _ e) (OfSeparator whole formed few refl))

  may_end_whole : (at : Progress) (states : List ListedState) (state : ListedState) → at ≡ InState states state → MayEnd setting side fun at → IsWhole setting side fun state
  may_end_whole at states state e NoStates = absurd (not_head _ _ _ e)
  may_end_whole at states state e (LastState others other whole formed) = subst (IsWhole setting side fun) (same_state _ _ _ _ e) whole

  may_end_head : (at : Progress) (states : List ListedState) → at ≡ AtHead states → MayEnd setting side fun at → states ≡ []
  may_end_head at states e NoStates = sym (same_heads _ _ e)
  may_end_head at states e (LastState others other whole formed) = absurd (not_head _ _ _ (sym e))

  breaks_whole : (at : Progress) (states : List ListedState) (state : ListedState) → at ≡ InState states state → BreaksChain setting side fun at → IsWhole setting side fun state
  breaks_whole at states state e (Broken others other whole broken) = subst (IsWhole setting side fun) (same_state _ _ _ _ e) whole

  breaks_form : (at : Progress) (states : List ListedState) (state : ListedState) → at ≡ InState states state → BreaksChain setting side fun at → ¬ IsWellFormed (state_at side fun state)
  breaks_form at states state e (Broken others other whole broken) = subst (λ s. ¬ IsWellFormed (state_at side fun s)) (same_state _ _ _ _ e) broken

  breaks_head : (at : Progress) (states : List ListedState) → at ≡ AtHead states → BreaksChain setting side fun at → ⊥
  breaks_head at states e (Broken others other whole broken) = not_head _ _ _ (sym e)

  passes_whole : (at : Progress) (bytes : List ℕ) (states : List ListedState) (state : ListedState) → at ≡ InState states state → PassesLimit setting side fun bytes at → IsWhole setting side fun state
  passes_whole at bytes states state e (OneMore others other rest whole formed many is) = subst (IsWhole setting side fun) (same_state _ _ _ _ e) whole

  passes_separator : (at : Progress) (bytes : List ℕ) → PassesLimit setting side fun bytes at → (rest : List ℕ) × (bytes ≡ separator ++ rest)
  passes_separator at bytes (OneMore others other rest whole formed many is) = (rest, is)

  passes_head : (at : Progress) (bytes : List ℕ) (states : List ListedState) → at ≡ AtHead states → PassesLimit setting side fun bytes at → ⊥
  passes_head at bytes states e (OneMore others other rest whole formed many is) = not_head _ _ _ (sym e)

  -- a state that lacks a line, where no right line follows
  pub wrong_in : (states : List ListedState) (state : ListedState) (bytes : List ℕ) → ¬ IsWhole setting side fun state → ((next : Progress) (rest : List ℕ) → ¬ StepsTo setting side fun (InState states state) bytes next rest) → IsWrong setting side fun (InState states state) bytes
  wrong_in states state bytes lacks none = record {
    no_end = λ e ends. lacks (may_end_whole _ states state refl ends);
    no_line = none;
    no_chain = λ breaks. lacks (breaks_whole _ states state refl breaks);
    no_limit = λ passes. lacks (passes_whole _ bytes states state refl passes);
  }

  -- a whole, well-formed state, where something else than a separator follows
  pub wrong_after : (states : List ListedState) (state : ListedState) (bytes : List ℕ) → IsWhole setting side fun state → IsWellFormed (state_at side fun state) → bytes ≢ [] → ((rest : List ℕ) → ¬ (bytes ≡ separator ++ rest)) → IsWrong setting side fun (InState states state) bytes
  wrong_after states state bytes whole formed some other = record {
    no_end = λ e ends. some e;
    no_line = λ next rest step. no_step next rest step (in_one _ next step.text states state refl step.right);
    no_chain = λ breaks. breaks_form _ states state refl breaks formed;
    no_limit = λ passes. let found = passes_separator _ bytes passes in other found.0 found.1;
  }
    where
      no_step : (next : Progress) (rest : List ℕ) (step : StepsTo setting side fun (InState states state) bytes next rest) → InOne states state step.text → ⊥
      no_step next rest step (OfCell cell less is text) = omega (arith, less, whole.all_blocks)
      no_step next rest step (OfName name value all is fits text) = omega (arith, slice_get_within (names_at side fun) (length state.values) name is, whole.all_names)
      no_step next rest step (OfSeparator w f few text) = other rest (step.parts ∙ ap (λ t. t ++ rest) text)

  -- no right line where a state begins
  pub wrong_head : (states : List ListedState) (bytes : List ℕ) → (bytes ≡ [] → states ≢ []) → ((head : ℕ) (rest : List ℕ) → head ≤ block_count setting.widths → ¬ (bytes ≡ head_line head ++ rest)) → IsWrong setting side fun (AtHead states) bytes
  wrong_head states bytes goes_on none = record {
    no_end = λ e ends. goes_on e (may_end_head _ states refl ends);
    no_line = λ next rest step. let h = head_only _ next step.text states refl step.right in none h.head rest h.within (step.parts ∙ ap (λ t. t ++ rest) h.is);
    no_chain = λ breaks. breaks_head _ states refl breaks;
    no_limit = λ passes. passes_head _ bytes states refl passes;
  }

  -- each right line has a byte
  line_length : (at next : Progress) (text : List ℕ) → IsLine setting side fun at text next → 1 ≤ length text
  line_length at next text (HeadLine states head within) = omega arith
  line_length at next text (CellLine states state cell less is) = of_cell cell
    where
      of_cell : (cell : Cell) → 1 ≤ length (cell_line (targets_in setting) (suc (length state.cells)) cell)
      of_cell (Free next) = one_inside (decimal (suc (length state.cells))) 32 _
      of_cell (Live target value) = one_inside (decimal (suc (length state.cells))) 32 _
  line_length at next text (NameLine states state name value all is fits) = one_inside name 32 _
  line_length at next text (Separator states state whole formed few) = omega arith

  pub led_none : (at : Progress) (before : ℕ) (bytes : List ℕ) → Leads setting side fun at before bytes at before bytes
  led_none at before bytes = record { chain = λ all chain. chain; within = omega arith }

  pub led_more : (from at next : Progress) (before lines : ℕ) (bytes behind rest : List ℕ) → Leads setting side fun from before bytes at lines behind → StepsTo setting side fun at behind next rest → Leads setting side fun from before bytes next (lines + 1) rest
  led_more from at next before lines bytes behind rest led step = record {
    chain = λ all chain. Line lines at behind next rest (led.chain all chain) step;
    within = omega (arith, led.within, line_length at next step.text step.right, ap length step.parts, length-append step.text rest);
  }

  pub led_by : (from at to : Progress) (before lines after : ℕ) (bytes behind rest : List ℕ) → Leads setting side fun from before bytes at lines behind → Leads setting side fun at lines behind to after rest → Leads setting side fun from before bytes to after rest
  led_by from at to before lines after bytes behind rest led further = record { chain = λ all chain. further.chain all (led.chain all chain); within = omega (arith, led.within, further.within) }

  pub led_refused : (from at : Progress) (before lines : ℕ) (bytes behind : List ℕ) (why : StateFault) → Leads setting side fun from before bytes at lines behind → IsRefusedFrom setting side fun at lines behind why → IsRefusedFrom setting side fun from before bytes why
  led_refused from at before lines bytes behind why led refused all chain = refused all (led.chain all chain)

  pub refused_wrong : (at : Progress) (before line : ℕ) (bytes : List ℕ) → line ≡ suc before → IsWrong setting side fun at bytes → IsRefusedFrom setting side fun at before bytes (fault.BadState line state_why.Syntax)
  refused_wrong at before line bytes is wrong all chain = WrongLine before at bytes chain wrong (ap (λ n. fault.BadState n state_why.Syntax) is)
