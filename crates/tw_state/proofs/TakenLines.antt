-- Lines that are read after right lines: one more right line, or the refusal of the text.
use Rattle.std.proofs.Common.{◌≡◌, ◌∙◌, refl, ap, sym, subst, arith, ℕ, suc, ◌+◌, ◌<◌, ◌≤◌, List, [], ◌∷◌, ◌++◌, length, length-append, map, slice_get, Option, Some, None, decimal, codes}
use denote.Bor.{Bor}
use Rattle.std.proofs.lemmas.List.{length-map}
use Rattle.tw_text.specs.declared.refusal.StateWhy.TheVariants as state_why
use Rattle.tw_syntax.specs.Programs.{FunTree}
use Rattle.tw_types.specs.declared.values.Val.{Val}
use Rattle.tw_types.specs.Types.{Widths, Ty, Target, block_count}
use Rattle.tw_types.specs.Values.{Value}
use Rattle.tw_types.specs.FromCode.{value_of}
use Rattle.tw_resolve.specs.Setting.{Setting}
use Rattle.tw_resolve.specs.Tables.{AreTargets}
use Rattle.tw_state.specs.declared.state.Side.{Side}
use Rattle.tw_state.specs.declared.state.Cell.{Cell as CellOfCode}
use Rattle.tw_state.specs.declared.state_fault.StateFault.TheVariants as fault
use Rattle.tw_state.specs.States.{Name, Cell, Free, Live}
use Rattle.tw_state.specs.Steps.{fun_types}
use Rattle.tw_state.specs.FromCode.{ListedState, names_at, cell_of}
use Rattle.tw_state.specs.StateText.{cell_line, name_line}
use Rattle.tw_state.specs.StateLines.{Progress, InState}
use Rattle.tw_state.specs.Reading.{IsCellLine, IsFittingValue, Leads, IsRefusedFrom, partial}
use Rattle.tw_state.proofs.EntryEncodings.{targets_are}
use Rattle.tw_state.specs.Listed.{names_at_end}
use Rattle.tw_state.proofs.EntryNames.{get_taken, names_taken}
use Rattle.tw_state.proofs.LineSteps.{cell_step, cell_wrong, name_step, name_wrong}
use Rattle.tw_state.proofs.RightLines.{one_inside, led_more, led_refused, refused_wrong}
use Rattle.tw_state.proofs.TypedStates.{cell_fits, cell_listed}

map-one : {A B : Type 0} (f : A → B) (xs : List A) (x : A) → map f (xs ++ x ∷ []) ≡ map f xs ++ f x ∷ []
map-one f [] x = refl
map-one f (y ∷ xs) x = ap (λ ys. f y ∷ ys) (map-one f xs x)

cell_line-some : (targets : List Target) (block : ℕ) (cell : Cell) → 1 ≤ length (cell_line targets block cell)
cell_line-some targets block (Free next) = one_inside (decimal block) 32 _
cell_line-some targets block (Live target value) = one_inside (decimal block) 32 _

shorter : (bytes line rest : List ℕ) → bytes ≡ line ++ rest → 1 ≤ length line → length rest + 1 ≤ length bytes
shorter bytes line rest is some = omega (arith, some, ap length is, length-append line rest)

pub cell_shorter : (widths : Widths) (targets : List Target) (block : ℕ) (bytes : List ℕ) (found : CellOfCode × Bor (List ℕ)) → IsCellLine widths targets block bytes (Some found) → length found.1.now + 1 ≤ length bytes
cell_shorter widths targets block bytes found read = shorter bytes _ found.1.now read.1 (cell_line-some targets block (cell_of found.0))

pub value_shorter : (widths : Widths) (ty : Option Ty) (name : Name) (bytes : List ℕ) (found : Val × Bor (List ℕ)) → IsFittingValue widths ty name bytes (Some found) → length found.1.now + 1 ≤ length bytes
value_shorter widths ty name bytes found read = shorter bytes _ found.1.now read.1 (one_inside name 32 _)

-- the name at a place on a side
pub named_at : (side : Side) (fun : FunTree) (place : ℕ) (name : Name) → place < length (names_at side fun) → slice_get (names_at_end fun) place ≡ Some name → slice_get (names_at side fun) place ≡ Some name
named_at side fun place name less is =
    ap (λ ns. slice_get ns place) (sym (names_taken side fun (length (names_at side fun)) refl)) ∙ get_taken (names_at_end fun) (length (names_at side fun)) place less ∙ is

module _ (setting : Setting) (side : Side) (fun : FunTree) (from : Progress) (before lines : ℕ) (bytes rest : List ℕ) where
  module _ (targets : List Target) (are : ∥ AreTargets setting targets ∥₁) (widths : Widths) (same : widths ≡ setting.widths) (states : List ListedState) (head : ℕ) (cells : List CellOfCode) (block : ℕ) (counted : length cells ≡ block) (less : block < block_count widths)
      (led : Leads setting side fun from before bytes (InState states (partial head (map cell_of cells) [])) lines rest) where
    next_block : block + 1 ≡ suc (length (map cell_of cells))
    next_block = omega (arith, counted, length-map cells cell_of)

    fewer : length (map cell_of cells) < block_count setting.widths
    fewer = subst (λ w. length (map cell_of cells) < block_count w) same (omega (arith, counted, less, length-map cells cell_of))

    -- the line of the next cell
    pub cell_taken : (found : CellOfCode × Bor (List ℕ)) (all : List CellOfCode) → all ≡ cells ++ found.0 ∷ [] → IsCellLine widths targets (block + 1) rest (Some found)
        → Leads setting side fun from before bytes (InState states (partial head (map cell_of all) [])) (lines + 1) found.1.now
    cell_taken found all is read =
        subst (λ cs. Leads setting side fun from before bytes (InState states (partial head cs [])) (lines + 1) found.1.now) (sym (ap (map cell_of) is ∙ map-one cell_of cells found.0))
        (led_more setting side fun from _ _ before lines bytes rest found.1.now led
        (cell_step setting side fun targets (targets_are setting targets are) (cell_fits setting targets are) (cell_listed setting targets are) states head (map cell_of cells) (block + 1) next_block fewer rest found
        (subst (λ w. IsCellLine w targets (block + 1) rest (Some found)) same read)))

    -- no line of the next cell
    pub cell_refused : IsCellLine widths targets (block + 1) rest None → IsRefusedFrom setting side fun from before bytes (fault.BadState (lines + 1) state_why.Syntax)
    cell_refused none =
        led_refused setting side fun from _ before lines bytes rest _ led
        (refused_wrong setting side fun _ lines (lines + 1) rest (omega arith)
        (cell_wrong setting side fun targets (targets_are setting targets are) (cell_fits setting targets are) (cell_listed setting targets are) states head (map cell_of cells) (block + 1) next_block fewer rest
        (subst (λ w. IsCellLine w targets (block + 1) rest None) same none)))

  module _ (states : List ListedState) (head : ℕ) (cells : List Cell) (full : length cells ≡ block_count setting.widths) (values : List Val) (place : ℕ) (counted : length values ≡ place) (name : Name) (named : slice_get (names_at side fun) place ≡ Some name)
      (led : Leads setting side fun from before bytes (InState states (partial head cells (map value_of values))) lines rest) where
    next_name : slice_get (names_at side fun) (length (map value_of values)) ≡ Some name
    next_name = ap (slice_get (names_at side fun)) (length-map values value_of ∙ counted) ∙ named

    -- the line of the next name
    pub name_taken : (found : Val × Bor (List ℕ)) (all : List Val) → all ≡ values ++ found.0 ∷ [] → IsFittingValue setting.widths (fun_types setting fun name) name rest (Some found)
        → Leads setting side fun from before bytes (InState states (partial head cells (map value_of all))) (lines + 1) found.1.now
    name_taken found all is read =
        subst (λ vs. Leads setting side fun from before bytes (InState states (partial head cells vs)) (lines + 1) found.1.now) (sym (ap (map value_of) is ∙ map-one value_of values found.0))
        (led_more setting side fun from _ _ before lines bytes rest found.1.now led (name_step setting side fun states head cells (map value_of values) name full next_name rest found read))

    -- no line of the next name
    pub name_refused : place < length (names_at side fun) → IsFittingValue setting.widths (fun_types setting fun name) name rest None → IsRefusedFrom setting side fun from before bytes (fault.BadState (lines + 1) state_why.Syntax)
    name_refused less none =
        led_refused setting side fun from _ before lines bytes rest _ led
        (refused_wrong setting side fun _ lines (lines + 1) rest (omega arith)
        (name_wrong setting side fun states head cells (map value_of values) name full next_name rest (omega (arith, less, counted, length-map values value_of)) none))
