-- The state of a list is typed at the start of `length`, in the program of lists.
use Rattle.std.proofs.Common.{refl, ℕ, if◌then◌else◌, ◌<◌, ◌≤◌, ◌^◌, List, length, Some, None, bytes_eq, codes, arith}
use Rattle.std.specs.List.{AllByRecursion}
use Rattle.std.proofs.lemmas.Nat.{pow_pos}
use Rattle.tw_types.specs.Types.{Widths, Word, Pointer, PairTy, block_count}
use Rattle.tw_resolve.specs.Programs.{setting_of}
use Rattle.tw_resolve.specs.Setting.{Setting}
use Rattle.tw_state.specs.declared.state.Side.TheVariants as side
use Rattle.tw_state.specs.TypedLists.{IsTypedEntry}
use Rattle.tw_state.proofs.TypedStates.{typed_if_listed}
use Rattle.tw_state.proofs.WorkedLists.{lists, list_length}
use Rattle.tw_ground.specs.Lists.{list_targets, list_state}
use Rattle.tw_ground.proofs.ListStates.{first_within, list_typed}

-- the program of lists at some widths
abbrev pub list_setting : Widths → Setting
list_setting widths = setting_of widths lists (λ name. if bytes_eq name (codes "list") then Some (PairTy Word (Pointer 0)) else None)

-- the state of a list of words is typed at the start of `length`, the first function
pub list_typed_at_start : (widths : Widths) (items : List ℕ) → AllByRecursion (λ item. item < 2 ^ widths.word) items → length items ≤ block_count widths → IsTypedEntry (list_setting widths) 0 side.Start (list_state widths items)
list_typed_at_start widths items words fits = (
  list_length,
  refl,
  typed_if_listed (list_setting widths) list_targets ∣ record { written = refl; types = refl } ∣₁ side.Start list_length (list_state widths items) (list_typed widths items words fits) refl
      (first_within 1 (length items) (block_count widths) (omega (arith, fits)), (pow_pos widths.word, tt)),
)
