-- The right lines of a text are the texts of its states so far, which are typed.
use Rattle.std.proofs.Common.{◌≡◌, ◌∙◌, refl, ap, sym, subst, arith, ℕ, suc, ◌+◌, ◌<◌, ◌≤◌, List, [], ◌∷◌, ◌++◌, length, length-append, take, slice_get, append_assoc, append-nil, Option, Some}
use Rattle.std.specs.List.{AllByRecursion}
use Rattle.std.proofs.lemmas.Option.{none-some}
use Rattle.std.proofs.Math.Seq.{take-length}
use Rattle.tw_text.specs.declared.limits.TheConstants.{STATES_LIMIT}
use Rattle.tw_syntax.specs.Programs.{FunTree}
use Rattle.tw_types.specs.Types.{Widths, Ty, Target, block_count}
use Rattle.tw_types.specs.Values.{Value}
use Rattle.tw_resolve.specs.Setting.{Setting}
use Rattle.tw_state.specs.declared.state.Side.{Side}
use Rattle.tw_state.specs.States.{Name, Cell, IsWellFormed}
use Rattle.tw_state.specs.Results.{IsCell, Fits}
use Rattle.tw_state.specs.Steps.{fun_types}
use Rattle.tw_state.specs.FromCode.{ListedState, names_at, state_at}
use Rattle.tw_state.specs.Listed.{HaveTypes}
use Rattle.tw_state.specs.EntryEncoding.{targets_in}
use Rattle.tw_state.specs.TypedLists.{IsTypedOn}
use Rattle.tw_state.specs.StateText.{head_line, cell_line, name_line, cell_lines, name_lines, state_text}
use Rattle.tw_state.specs.StateLines.{separator, following_text, states_text, IsState, AreStatesOf, Progress, AtHead, InState, IsWhole, IsLine, HeadLine, CellLine, NameLine, Separator, Reaches, Start, Line}
use Rattle.tw_state.proofs.Basics.{some_value}

cell_lines-append : (targets : List Target) (block : ℕ) (cells : List Cell) (cell : Cell) → cell_lines targets block (cells ++ cell ∷ []) ≡ cell_lines targets block cells ++ cell_line targets (block + length cells) cell
cell_lines-append targets block [] cell = append-nil (cell_line targets block cell) ∙ ap (λ b. cell_line targets b cell) (omega arith)
cell_lines-append targets block (first ∷ cells) cell =
    ap (λ t. cell_line targets block first ++ t) (cell_lines-append targets (suc block) cells cell ∙ ap (λ b. cell_lines targets (suc block) cells ++ cell_line targets b cell) (omega arith))
    ∙ sym (append_assoc (cell_line targets block first) (cell_lines targets (suc block) cells) (cell_line targets (block + suc (length cells)) cell))

name_lines-none : (names : List Name) → name_lines names [] ≡ []
name_lines-none [] = refl
name_lines-none (name ∷ names) = refl

name_lines-append : (names : List Name) (values : List Value) (name : Name) (value : Value) → slice_get names (length values) ≡ Some name → name_lines names (values ++ value ∷ []) ≡ name_lines names values ++ name_line name value
name_lines-append [] values name value is = absurd (none-some name is)
name_lines-append (first ∷ names) [] name value is =
    ap (λ t. name_line first value ++ t) (name_lines-none names) ∙ append-nil (name_line first value) ∙ ap (λ n. name_line n value) (some_value is)
name_lines-append (first ∷ names) (v ∷ values) name value is =
    ap (λ t. name_line first v ++ t) (name_lines-append names values name value is) ∙ sym (append_assoc (name_line first v) (name_lines names values) (name_line name value))

types-append : (widths : Widths) (types : Name → Option Ty) (names : List Name) (values : List Value) (name : Name) (value : Value) → slice_get names (length values) ≡ Some name → Fits widths (types name) (Some value)
    → HaveTypes widths types (take (length values) names) values → HaveTypes widths types (take (length (values ++ value ∷ [])) names) (values ++ value ∷ [])
types-append widths types [] values name value is fits typed = absurd (none-some name is)
types-append widths types (first ∷ names) [] name value is fits typed = (subst (λ n. Fits widths (types n) (Some value)) (sym (some_value is)) fits, tt)
types-append widths types (first ∷ names) (v ∷ values) name value is fits typed = (typed.0, types-append widths types names values name value is fits typed.1)

all-append : {A : Type 0} (P : A → Type 0) (xs : List A) (x : A) → AllByRecursion P xs → P x → AllByRecursion P (xs ++ x ∷ [])
all-append P [] x all one = (one, tt)
all-append P (y ∷ xs) x all one = (all.0, all-append P xs x all.1 one)

module _ (setting : Setting) (side : Side) (fun : FunTree) where
  abbrev text_of : ListedState → List ℕ
  text_of = state_text setting side fun

  -- states, each before a separator
  abbrev before_text : List ListedState → List ℕ
  before_text [] = []
  before_text (state ∷ states) = text_of state ++ (separator ++ before_text states)

  -- the text up to a point
  abbrev point_text : Progress → List ℕ
  point_text (AtHead states) = before_text states
  point_text (InState states state) = before_text states ++ text_of state

  -- a state so far is typed; it has values once it has all cells
  record IsPartial (state : ListedState) : Type 0 where
    within : state.head ≤ block_count setting.widths
    each_cell : AllByRecursion (IsCell setting) state.cells
    cells_first : length state.cells < block_count setting.widths → state.values ≡ []
    values : HaveTypes setting.widths (fun_types setting fun) (take (length state.values) (names_at side fun)) state.values

  -- the states up to a point are right
  abbrev IsSound : Progress → Type 0
  IsSound (AtHead states) = AllByRecursion (IsState setting side fun) states × (length states < STATES_LIMIT)
  IsSound (InState states state) = AllByRecursion (IsState setting side fun) states × (length states < STATES_LIMIT) × IsPartial state

  before_text-append : (states : List ListedState) (state : ListedState) → before_text (states ++ state ∷ []) ≡ (before_text states ++ text_of state) ++ separator
  before_text-append [] state = ap (λ t. text_of state ++ t) (append-nil separator)
  before_text-append (first ∷ states) state =
      ap (λ t. text_of first ++ (separator ++ t)) (before_text-append states state)
      ∙ sym (append_assoc (text_of first ++ (separator ++ before_text states)) (text_of state) separator
      ∙ append_assoc (text_of first) (separator ++ before_text states) (text_of state ++ separator)
      ∙ ap (λ t. text_of first ++ (separator ++ t)) (sym (append_assoc (before_text states) (text_of state) separator)))

  cell_text : (head block : ℕ) (cells : List Cell) (cell : Cell) → block ≡ suc (length cells)
      → text_of (record { head = head; cells = cells; values = [] }) ++ cell_line (targets_in setting) block cell ≡ text_of (record { head = head; cells = cells ++ cell ∷ []; values = [] })
  cell_text head block cells cell is =
      let none = name_lines-none (names_at side fun) in
      let lines = cell_lines (targets_in setting) 1 cells in
      ap (λ t. (head_line head ++ (lines ++ t)) ++ cell_line (targets_in setting) block cell) none
      ∙ ap (λ t. (head_line head ++ t) ++ cell_line (targets_in setting) block cell) (append-nil lines)
      ∙ append_assoc (head_line head) lines (cell_line (targets_in setting) block cell)
      ∙ ap (λ t. head_line head ++ t) (ap (λ b. lines ++ cell_line (targets_in setting) b cell) (is ∙ omega arith) ∙ sym (cell_lines-append (targets_in setting) 1 cells cell))
      ∙ sym (ap (λ t. head_line head ++ (cell_lines (targets_in setting) 1 (cells ++ cell ∷ []) ++ t)) none ∙ ap (λ t. head_line head ++ t) (append-nil (cell_lines (targets_in setting) 1 (cells ++ cell ∷ []))))

  name_text : (head : ℕ) (cells : List Cell) (values : List Value) (name : Name) (value : Value) → slice_get (names_at side fun) (length values) ≡ Some name
      → text_of (record { head = head; cells = cells; values = values }) ++ name_line name value ≡ text_of (record { head = head; cells = cells; values = values ++ value ∷ [] })
  name_text head cells values name value is =
      let lines = cell_lines (targets_in setting) 1 cells in
      append_assoc (head_line head) (lines ++ name_lines (names_at side fun) values) (name_line name value)
      ∙ ap (λ t. head_line head ++ t) (append_assoc lines (name_lines (names_at side fun) values) (name_line name value) ∙ ap (λ t. lines ++ t) (sym (name_lines-append (names_at side fun) values name value is)))

  module _ (typed : (state : ListedState) → state.head ≤ block_count setting.widths → length state.cells ≡ block_count setting.widths → AllByRecursion (IsCell setting) state.cells → length state.values ≡ length (names_at side fun) → HaveTypes setting.widths (fun_types setting fun) (names_at side fun) state.values → IsTypedOn setting side fun state) where
    is_state : (state : ListedState) → IsPartial state → IsWhole setting side fun state → IsWellFormed (state_at side fun state) → IsState setting side fun state
    is_state state partial whole formed = record {
      typed = typed state partial.within whole.all_blocks partial.each_cell whole.all_names
          (subst (λ n. HaveTypes setting.widths (fun_types setting fun) n state.values) (ap (λ k. take k (names_at side fun)) whole.all_names ∙ take-length (names_at side fun)) partial.values);
      well_formed = formed;
    }

    -- a right line keeps this, and its text follows
    sound_step : (at next : Progress) (text : List ℕ) → IsLine setting side fun at text next → IsSound at → IsSound next × (point_text at ++ text ≡ point_text next)
    sound_step at next text (HeadLine states head within) sound = (
      (sound.0, sound.1, record { within = within; each_cell = tt; cells_first = λ less. refl; values = tt }),
      ap (λ t. before_text states ++ t) (sym (ap (λ t. head_line head ++ t) (name_lines-none (names_at side fun)) ∙ append-nil (head_line head))),
    )
    sound_step at next text (CellLine states state cell less is) sound =
        let none = sound.2.cells_first less in (
          (
            sound.0,
            sound.1,
            record {
              within = sound.2.within;
              each_cell = all-append (IsCell setting) state.cells cell sound.2.each_cell is;
              cells_first = λ more. none;
              values = sound.2.values;
            },
          ),
          append_assoc (before_text states) (text_of state) (cell_line (targets_in setting) (suc (length state.cells)) cell)
              ∙ ap (λ t. before_text states ++ t)
              (subst (λ v. text_of (record { head = state.head; cells = state.cells; values = v }) ++ cell_line (targets_in setting) (suc (length state.cells)) cell ≡ text_of (record { head = state.head; cells = state.cells ++ cell ∷ []; values = v }))
              (sym none) (cell_text state.head (suc (length state.cells)) state.cells cell refl)),
        )
    sound_step at next text (NameLine states state name value all is fits) sound = (
      (
        sound.0,
        sound.1,
        record {
          within = sound.2.within;
          each_cell = sound.2.each_cell;
          cells_first = λ less. absurd (omega (arith, less, all));
          values = types-append setting.widths (fun_types setting fun) (names_at side fun) state.values name value is fits sound.2.values;
        },
      ),
      append_assoc (before_text states) (text_of state) (name_line name value) ∙ ap (λ t. before_text states ++ t) (name_text state.head state.cells state.values name value is),
    )
    sound_step at next text (Separator states state whole formed few) sound = (
      (all-append (IsState setting side fun) states state sound.0 (is_state state sound.2 whole formed), omega (arith, few, length-append states (state ∷ []))),
      sym (before_text-append states state),
    )

    sound_point : (bytes : List ℕ) (lines : ℕ) (at : Progress) (rest : List ℕ) → Reaches setting side fun bytes lines at rest → IsSound at × (bytes ≡ point_text at ++ rest)
    sound_point bytes lines at rest Start = ((tt, omega arith), refl)
    sound_point bytes lines at rest (Line before progress behind next after chain step) =
        let so_far = sound_point bytes before progress behind chain in
        let more = sound_step progress next step.text step.right so_far.0 in
        (more.0, so_far.1 ∙ ap (λ t. point_text progress ++ t) step.parts ∙ sym (append_assoc (point_text progress) step.text after) ∙ ap (λ t. t ++ after) more.1)

    follow : (states : List ListedState) (state : ListedState) → separator ++ (before_text states ++ text_of state) ≡ following_text setting side fun (states ++ state ∷ [])
    follow [] state = ap (λ t. separator ++ t) (sym (append-nil (text_of state)))
    follow (first ∷ states) state =
        ap (λ t. separator ++ t) (append_assoc (text_of first) (separator ++ before_text states) (text_of state) ∙ ap (λ t. text_of first ++ t) (follow states state))

    whole_text : (states : List ListedState) (state : ListedState) → before_text states ++ text_of state ≡ states_text setting side fun (states ++ state ∷ [])
    whole_text [] state = sym (append-nil (text_of state))
    whole_text (first ∷ states) state = append_assoc (text_of first) (separator ++ before_text states) (text_of state) ∙ ap (λ t. text_of first ++ t) (follow states state)

    -- a text that ends after a whole, well-formed state is the text of its states
    pub are_states : (bytes : List ℕ) (lines : ℕ) (states : List ListedState) (state : ListedState) → Reaches setting side fun bytes lines (InState states state) [] → IsWhole setting side fun state → IsWellFormed (state_at side fun state)
        → AreStatesOf setting side fun bytes (states ++ state ∷ [])
    are_states bytes lines states state chain whole formed =
        let sound = sound_point bytes lines (InState states state) [] chain in
        record {
          spelled = sound.1 ∙ append-nil (before_text states ++ text_of state) ∙ whole_text states state;
          each = all-append (IsState setting side fun) states state sound.0.0 (is_state state sound.0.2 whole formed);
          few = omega (arith, sound.0.1, length-append states (state ∷ []));
        }

  -- no bytes are no states
  pub are_none : AreStatesOf setting side fun [] []
  are_none = record { spelled = refl; each = tt; few = omega arith }
