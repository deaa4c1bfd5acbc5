-- Typed states can be printed.
use Rattle.std.proofs.Common.{◌≡◌, ◌<◌, sym, subst, arith, ℕ, zero, suc, List, [], ◌∷◌, length, Some, slice_get}
use Rattle.std.specs.List.{AllByRecursion}
use Rattle.std.proofs.lemmas.List.{length-map}
use Rattle.tw_syntax.specs.Programs.{FunTree}
use Rattle.tw_resolve.specs.Setting.{Setting}
use Rattle.tw_state.specs.declared.state.Side.{Side}
use Rattle.tw_state.specs.States.{Cell, Free, Live}
use Rattle.tw_state.specs.EntryEncoding.{targets_in}
use Rattle.tw_state.specs.FromCode.{ListedState, names_at}
use Rattle.tw_state.specs.Results.{IsCell}
use Rattle.tw_state.specs.StateText.{HasTarget, IsPrintable, IsPrintableOn}
use Rattle.tw_state.specs.TypedLists.{IsTypedOn, IsTypedEntry}
use Rattle.tw_state.proofs.Basics.{same_some}
use Rattle.tw_state.proofs.TargetTexts.{known_target}

-- what is found in a list is found at a place of it
found_within : {A : Type 0} (xs : List A) (place : ℕ) (x : A) → slice_get xs place ≡ Some x → place < length xs
found_within [] place x found = cc
found_within (y ∷ xs) zero x found = omega arith
found_within (y ∷ xs) (suc place) x found = let within = found_within xs place x found in omega (arith, within)

cell_has_target : (setting : Setting) (cell : Cell) → IsCell setting cell → HasTarget (targets_in setting) cell
cell_has_target setting (Free next) is = tt
cell_has_target setting (Live target value) is =
    let known = known_target setting target is.0 is.1 in
    subst (λ n. target < n) (sym (length-map setting.scope.targets _)) (found_within setting.scope.targets target known.0 known.1)

cells_have_targets : (setting : Setting) (cells : List Cell) → AllByRecursion (IsCell setting) cells → AllByRecursion (HasTarget (targets_in setting)) cells
cells_have_targets setting [] all = tt
cells_have_targets setting (cell ∷ cells) all = (cell_has_target setting cell all.0, cells_have_targets setting cells all.1)

pub typed_printable : (setting : Setting) (side : Side) (fun : FunTree) (listed : ListedState) → IsTypedOn setting side fun listed → IsPrintable (targets_in setting) (names_at side fun) listed
typed_printable setting side fun listed typed = record { each_cell = cells_have_targets setting listed.cells typed.typed.typed.each_cell; counted = typed.counted }

-- the same, for the function of a number
pub entry_printable : (setting : Setting) (number : ℕ) (side : Side) (listed : ListedState) → IsTypedEntry setting number side listed → IsPrintableOn setting number side listed
entry_printable setting number side listed typed fun there = typed_printable setting side fun listed (subst (λ (f : FunTree). IsTypedOn setting side f listed) (same_some typed.1 there) typed.2)
