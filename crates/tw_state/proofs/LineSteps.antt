-- The lines that are read are right lines, and where none is read, none is right.
use Rattle.std.proofs.Common.{◌≡◌, ◌∙◌, refl, ap, sym, subst, arith, ℕ, suc, ◌<◌, List, [], ◌∷◌, ◌++◌, length, slice_get, Some, None}
use denote.Bor.{Bor}
use Rattle.tw_syntax.specs.Programs.{FunTree}
use Rattle.tw_types.specs.declared.values.Val.{Val}
use Rattle.tw_types.specs.Types.{Target, block_count}
use Rattle.tw_types.specs.Values.{Value}
use Rattle.tw_types.specs.FromCode.{value_of}
use Rattle.tw_resolve.specs.Setting.{Setting}
use Rattle.tw_state.specs.declared.state.Side.{Side}
use Rattle.tw_state.specs.declared.state.Cell.{Cell as CellOfCode}
use Rattle.tw_state.specs.States.{Name, Cell}
use Rattle.tw_state.specs.Results.{IsCell, Fits}
use Rattle.tw_state.specs.Steps.{fun_types}
use Rattle.tw_state.specs.FromCode.{ListedState, names_at, cell_of}
use Rattle.tw_state.specs.EntryEncoding.{targets_in}
use Rattle.tw_state.specs.TypedLists as listed
use Rattle.tw_state.specs.StateText.{cell_line, name_line}
use Rattle.tw_state.specs.StateLines.{Progress, InState, CellLine, NameLine, StepsTo}
use Rattle.tw_state.specs.StateRefusals.{IsWrong}
use Rattle.tw_state.specs.Reading.{IsCellLine, IsFittingValue, partial}
use Rattle.tw_state.proofs.Basics.{some_value}
use Rattle.tw_state.proofs.RightLines.{InOne, OfCell, OfName, OfSeparator, in_one, wrong_in}

module _ (setting : Setting) (side : Side) (fun : FunTree) where
  module _ (targets : List Target) (are : targets ≡ targets_in setting) (fits : (cell : Cell) → listed.IsCell setting.widths targets cell → IsCell setting cell) (unfits : (cell : Cell) → IsCell setting cell → listed.IsCell setting.widths targets cell) (states : List ListedState) (head : ℕ) (cells : List Cell) (block : ℕ) (next_block : block ≡ suc (length cells)) (less : length cells < block_count setting.widths) where
    same_line : (cell : Cell) → cell_line targets block cell ≡ cell_line (targets_in setting) (suc (length cells)) cell
    same_line cell = ap (λ t. cell_line t block cell) are ∙ ap (λ b. cell_line (targets_in setting) b cell) next_block

    pub cell_step : (bytes : List ℕ) (found : CellOfCode × Bor (List ℕ)) → IsCellLine setting.widths targets block bytes (Some found) → StepsTo setting side fun (InState states (partial head cells [])) bytes (InState states (partial head (cells ++ cell_of found.0 ∷ []) [])) found.1.now
    cell_step bytes found read = record {
      text = cell_line (targets_in setting) (suc (length cells)) (cell_of found.0);
      parts = read.1 ∙ ap (λ t. t ++ found.1.now) (same_line (cell_of found.0));
      right = CellLine states (partial head cells []) (cell_of found.0) less (fits (cell_of found.0) read.0);
    }

    pub cell_wrong : (bytes : List ℕ) → IsCellLine setting.widths targets block bytes None → IsWrong setting side fun (InState states (partial head cells [])) bytes
    cell_wrong bytes none =
        wrong_in setting side fun states (partial head cells []) bytes (λ whole. omega (arith, less, whole.all_blocks))
        (λ next rest step. no_step next rest step (in_one setting side fun _ next step.text states (partial head cells []) refl step.right))
      where
        no_step : (next : Progress) (rest : List ℕ) (step : StepsTo setting side fun (InState states (partial head cells [])) bytes next rest) → InOne setting side fun states (partial head cells []) step.text → ⊥
        no_step next rest step (OfCell cell within is text) = none cell rest (unfits cell is) (step.parts ∙ ap (λ t. t ++ rest) (text ∙ sym (same_line cell)))
        no_step next rest step (OfName name value all is typed text) = omega (arith, less, all)
        no_step next rest step (OfSeparator whole formed few text) = omega (arith, less, whole.all_blocks)

  module _ (states : List ListedState) (head : ℕ) (cells : List Cell) (values : List Value) (name : Name) (all : length cells ≡ block_count setting.widths) (named : slice_get (names_at side fun) (length values) ≡ Some name) where
    pub name_step : (bytes : List ℕ) (found : Val × Bor (List ℕ)) → IsFittingValue setting.widths (fun_types setting fun name) name bytes (Some found) → StepsTo setting side fun (InState states (partial head cells values)) bytes (InState states (partial head cells (values ++ value_of found.0 ∷ []))) found.1.now
    name_step bytes found read = record {
      text = name_line name (value_of found.0);
      parts = read.1;
      right = NameLine states (partial head cells values) name (value_of found.0) all named read.0;
    }

    pub name_wrong : (bytes : List ℕ) → length values < length (names_at side fun) → IsFittingValue setting.widths (fun_types setting fun name) name bytes None → IsWrong setting side fun (InState states (partial head cells values)) bytes
    name_wrong bytes less none =
        wrong_in setting side fun states (partial head cells values) bytes (λ whole. omega (arith, less, whole.all_names))
        (λ next rest step. no_step next rest step (in_one setting side fun _ next step.text states (partial head cells values) refl step.right))
      where
        no_step : (next : Progress) (rest : List ℕ) (step : StepsTo setting side fun (InState states (partial head cells values)) bytes next rest) → InOne setting side fun states (partial head cells values) step.text → ⊥
        no_step next rest step (OfCell cell within is text) = omega (arith, within, all)
        no_step next rest step (OfName other value full is typed text) =
            let same : other ≡ name = some_value (sym is ∙ named) in
            none value rest (subst (λ n. Fits setting.widths (fun_types setting fun n) (Some value)) same typed)
            (step.parts ∙ ap (λ t. t ++ rest) (text ∙ ap (λ n. name_line n value) same))
        no_step next rest step (OfSeparator whole formed few text) = omega (arith, less, whole.all_names)
