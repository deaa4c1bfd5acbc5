-- The text of a list of states determines the list, and right lines lead through it to its end.
use Rattle.std.proofs.Common.{◌≡◌, ◌∙◌, refl, sym, ap, subst, ℕ, suc, ◌+◌, ◌≤◌, List, [], ◌∷◌, ◌++◌, length, length-append, append_assoc, append-nil, Some, slice_get, decimal, arith}
use Rattle.std.specs.List.{AllByRecursion}
use Rattle.std.proofs.lemmas.List.{append_cancel_left}
use Rattle.tw_text.specs.declared.limits.TheConstants.{STATES_LIMIT}
use Rattle.tw_syntax.specs.Programs.{FunTree}
use Rattle.tw_types.specs.Types.{Target, block_count}
use Rattle.tw_types.specs.Values.{Value}
use Rattle.tw_resolve.specs.Setting.{Setting}
use Rattle.tw_state.specs.declared.state.Side.{Side}
use Rattle.tw_state.specs.States.{Name, Cell, Free, Live}
use Rattle.tw_state.specs.EntryEncoding.{targets_in}
use Rattle.tw_state.specs.FromCode.{ListedState, names_at}
use Rattle.tw_state.specs.Listed.{HaveTypes}
use Rattle.tw_state.specs.Results.{IsCell}
use Rattle.tw_state.specs.Steps.{fun_types}
use Rattle.tw_state.specs.StateText.{head_line, cell_line, cell_lines, name_line, name_lines, state_text}
use Rattle.tw_state.specs.StateLines.{separator, following_text, states_text, IsState, AreStatesOf, Progress, AtHead, InState, IsWhole, IsLine, HeadLine, CellLine, NameLine, Separator, StepsTo, Reaches, Start, Line}
use Rattle.tw_state.specs.StateRefusals.{MayEnd, NoStates, LastState}
use Rattle.tw_state.proofs.StateTexts.{HasStateTexts, states-delimited, values_typed, text_nested}

-- a text with a byte in it is not empty
some_byte : (xs : List ℕ) (c : ℕ) (ys zs : List ℕ) → [] ≡ (xs ++ c ∷ ys) ++ zs → ⊥
some_byte [] c ys zs same = cc
some_byte (x ∷ xs) c ys zs same = cc

cell_some : (targets : List Target) (block : ℕ) (cell : Cell) (rest : List ℕ) → [] ≡ cell_line targets block cell ++ rest → ⊥
cell_some targets block (Free next) rest same = some_byte (decimal block) _ _ rest same
cell_some targets block (Live target value) rest same = some_byte (decimal block) _ _ rest same

-- the item after a prefix
next_item : {A : Type 0} (passed : List A) (x : A) (left : List A) → slice_get (passed ++ x ∷ left) (length passed) ≡ Some x
next_item [] x left = refl
next_item (y ∷ passed) x left = next_item passed x left

one_more : {A : Type 0} (xs : List A) (x : A) → length (xs ++ x ∷ []) ≡ suc (length xs)
one_more xs x = length-append xs (x ∷ []) ∙ (let same : length xs + 1 ≡ suc (length xs) = omega arith in same)

module _ (setting : Setting) (side : Side) (fun : FunTree) where
  -- a right line is not empty
  line_some : (at next : Progress) (text rest : List ℕ) → IsLine setting side fun at text next → [] ≡ text ++ rest → ⊥
  line_some at next text rest (HeadLine states head within) same = cc
  line_some at next text rest (CellLine states state cell more is) same = cell_some (targets_in setting) (suc (length state.cells)) cell rest same
  line_some at next text rest (NameLine states state name value all found typed) same = some_byte name _ _ rest same
  line_some at next text rest (Separator states state whole formed few) same = cc

  -- nothing follows the end of the bytes
  pub no_step : (at next : Progress) (behind : List ℕ) → ¬ StepsTo setting side fun at [] next behind
  no_step at next behind step = line_some at next step.text behind step.right step.parts

  -- after some number of lines this point is reached
  abbrev Comes : List ℕ → Progress → List ℕ → Type 0
  Comes bytes at rest = (lines : ℕ) × Reaches setting side fun bytes lines at rest

  abbrev made : ℕ → List Cell → List Value → ListedState
  made head cells values = record { head = head; cells = cells; values = values }

  line_on : (bytes : List ℕ) (at next : Progress) (text rest : List ℕ) → Comes bytes at (text ++ rest) → IsLine setting side fun at text next → Comes bytes next rest
  line_on bytes at next text rest comes right = (comes.0 + 1, Line comes.0 at (text ++ rest) next rest comes.1 (record { text = text; parts = refl; right = right }))

  -- the lines of cells, after those of the first cells
  cells_on : (bytes : List ℕ) (done : List ListedState) (head : ℕ) (before after : List Cell) (rest : List ℕ) → length before + length after ≡ block_count setting.widths → AllByRecursion (IsCell setting) after
      → Comes bytes (InState done (made head before [])) (cell_lines (targets_in setting) (suc (length before)) after ++ rest) → Comes bytes (InState done (made head (before ++ after) [])) rest
  cells_on bytes done head before [] rest count all comes = subst (λ cells. Comes bytes (InState done (made head cells [])) rest) (sym (append-nil before)) comes
  cells_on bytes done head before (cell ∷ after) rest count all comes =
      let first = cell_line (targets_in setting) (suc (length before)) cell in
      let nested = subst (Comes bytes (InState done (made head before []))) (append_assoc first (cell_lines (targets_in setting) (suc (suc (length before))) after) rest) comes in
      let step = line_on bytes _ _ first _ nested (CellLine done (made head before []) cell (omega (arith, count)) all.0) in
      let more = one_more before cell in
      subst (λ cells. Comes bytes (InState done (made head cells [])) rest) (append_assoc before (cell ∷ []) after)
      (cells_on bytes done head (before ++ cell ∷ []) after rest (omega (arith, count, more)) all.1
      (subst (λ n. Comes bytes (InState done (made head (before ++ cell ∷ []) [])) (cell_lines (targets_in setting) (suc n) after ++ rest)) (sym more) step))

  -- the lines of values and their names, after those of the first names
  values_on : (bytes : List ℕ) (done : List ListedState) (head : ℕ) (cells : List Cell) (passed left : List Name) (before after : List Value) (rest : List ℕ) → length cells ≡ block_count setting.widths
      → names_at side fun ≡ passed ++ left → length passed ≡ length before → HaveTypes setting.widths (fun_types setting fun) left after
      → Comes bytes (InState done (made head cells before)) (name_lines left after ++ rest) → Comes bytes (InState done (made head cells (before ++ after))) rest
  values_on bytes done head cells passed [] before [] rest all names count typed comes = subst (λ values. Comes bytes (InState done (made head cells values)) rest) (sym (append-nil before)) comes
  values_on bytes done head cells passed (name ∷ left) before (value ∷ after) rest all names count typed comes =
      let nested = subst (Comes bytes (InState done (made head cells before))) (append_assoc (name_line name value) (name_lines left after) rest) comes in
      let found = ap (λ ns. slice_get ns (length before)) names ∙ ap (slice_get (passed ++ name ∷ left)) (sym count) ∙ next_item passed name left in
      let step = line_on bytes _ _ (name_line name value) _ nested (NameLine done (made head cells before) name value all found typed.0) in
      let more = one_more before value in
      let more2 = one_more passed name in
      subst (λ values. Comes bytes (InState done (made head cells values)) rest) (append_assoc before (value ∷ []) after)
      (values_on bytes done head cells (passed ++ name ∷ []) left (before ++ value ∷ []) after rest all (names ∙ sym (append_assoc passed (name ∷ []) left)) (omega (arith, count, more, more2)) typed.1 step)
  values_on bytes done head cells passed [] before (value ∷ after) rest all names count typed comes = absurd typed
  values_on bytes done head cells passed (name ∷ left) before [] rest all names count typed comes = absurd typed

  module _ (texts : HasStateTexts setting side fun) where
    abbrev Typed : ListedState → Type 0
    Typed listed = IsState setting side fun listed

    -- the texts after a state determine the states
    following_told : (states others : List ListedState) → AllByRecursion Typed states → AllByRecursion Typed others → following_text setting side fun states ≡ following_text setting side fun others → states ≡ others
    following_told [] [] all all2 same = refl
    following_told (state ∷ states) (other ∷ others) all all2 same =
        let both = states-delimited setting side fun texts state other _ _ all.0.typed all2.0.typed (append_cancel_left separator _ _ same) in
        ap (λ s. s ∷ states) both.0 ∙ ap (λ s. other ∷ s) (following_told states others all.1 all2.1 both.1)
    following_told [] (other ∷ others) all all2 same = cc
    following_told (state ∷ states) [] all all2 same = cc

    text_some : (state : ListedState) (states : List ListedState) → [] ≡ states_text setting side fun (state ∷ states) → ⊥
    text_some state states same = cc

    lists_told : (states others : List ListedState) → AllByRecursion Typed states → AllByRecursion Typed others → states_text setting side fun states ≡ states_text setting side fun others → states ≡ others
    lists_told [] [] all all2 same = refl
    lists_told (state ∷ states) (other ∷ others) all all2 same =
        let both = states-delimited setting side fun texts state other _ _ all.0.typed all2.0.typed same in
        ap (λ s. s ∷ states) both.0 ∙ ap (λ s. other ∷ s) (following_told states others all.1 all2.1 both.1)
    lists_told [] (other ∷ others) all all2 same = absurd (text_some other others same)
    lists_told (state ∷ states) [] all all2 same = absurd (text_some state states (sym same))

    -- bytes are the text of one list of states
    pub one_list : (bytes : List ℕ) (states others : List ListedState) → AreStatesOf setting side fun bytes states → AreStatesOf setting side fun bytes others → states ≡ others
    one_list bytes states others are also = lists_told states others are.each also.each (sym are.spelled ∙ also.spelled)

    whole : (state : ListedState) → Typed state → IsWhole setting side fun state
    whole state is = record { all_blocks = is.typed.typed.typed.all_blocks; all_names = is.typed.counted }

    -- the lines of a state
    state_on : (bytes : List ℕ) (done : List ListedState) (state : ListedState) (rest : List ℕ) → Typed state → Comes bytes (AtHead done) (state_text setting side fun state ++ rest) → Comes bytes (InState done state) rest
    state_on bytes done state rest is comes =
        let memory = is.typed.typed.typed in
        let nested = subst (Comes bytes (AtHead done)) (text_nested setting side fun texts state rest) comes in
        let head = line_on bytes _ _ (head_line state.head) _ nested (HeadLine done state.head memory.head_within) in
        let cells = cells_on bytes done state.head [] state.cells _ (let all = memory.all_blocks in omega (arith, all)) memory.each_cell head in
        values_on bytes done state.head state.cells [] (names_at side fun) [] state.values rest memory.all_blocks refl refl (values_typed setting side fun texts state is.typed) cells

    -- the bytes end after right lines, where a text may end
    pub record EndsWell (bytes : List ℕ) : Type 0 where
      pub lines : ℕ
      pub at : Progress
      pub chain : Reaches setting side fun bytes lines at []
      pub may_end : MayEnd setting side fun at

    states_on : (bytes : List ℕ) (done : List ListedState) (state : ListedState) (states : List ListedState) → Typed state → AllByRecursion Typed states → length done + suc (length states) ≤ STATES_LIMIT
        → Comes bytes (InState done state) (following_text setting side fun states) → EndsWell bytes
    states_on bytes done state [] is all few comes = record { lines = comes.0; at = InState done state; chain = comes.1; may_end = LastState done state (whole state is) is.well_formed }
    states_on bytes done state (next ∷ states) is all few comes =
        let line = line_on bytes _ _ separator _ comes (Separator done state (whole state is) is.well_formed (omega (arith, few))) in
        let count = one_more done state in
        states_on bytes (done ++ state ∷ []) next states all.0 all.1 (omega (arith, few, count)) (state_on bytes (done ++ state ∷ []) next _ all.0 line)

    -- right lines lead through the text of states to its end
    pub states_end : (bytes : List ℕ) (states : List ListedState) → AreStatesOf setting side fun bytes states → EndsWell bytes
    states_end bytes states are = by states are.each are.few (0, subst (Reaches setting side fun bytes 0 (AtHead [])) are.spelled Start)
      where
        by : (states : List ListedState) → AllByRecursion Typed states → length states ≤ STATES_LIMIT → Comes bytes (AtHead []) (states_text setting side fun states) → EndsWell bytes
        by [] all few comes = record { lines = comes.0; at = AtHead []; chain = comes.1; may_end = NoStates }
        by (state ∷ states) all few comes = states_on bytes [] state states all.0 all.1 (omega (arith, few)) (state_on bytes [] state _ all.0 comes)
