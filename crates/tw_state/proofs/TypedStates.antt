-- A listed state is typed on a side of an entry exactly if its memory is typed and its values have the types of the entry's names.
use Rattle.std.proofs.Common.{◌≡◌, ◌∙◌, refl, sym, ap, subst, ℕ, Bool, true, false, if◌then◌else◌, List, [], ◌∷◌, length, slice_get, Option, Some, None, option_map, option_and_then, bytes_eq, arith}
use Rattle.std.specs.List.{AllByRecursion}
use Rattle.std.proofs.Math.Logic.{∥∥₁_elim}
use Rattle.std.proofs.lemmas.Bool.{or_parts}
use Rattle.std.proofs.lemmas.Option.{none-some, slice_get-map}
use Rattle.tw_syntax.specs.Programs.{FunTree}
use Rattle.tw_syntax.specs.Types.{WrittenTree}
use Rattle.tw_types.specs.Types.{Widths, Ty, Pointer, Target}
use Rattle.tw_types.specs.Values.{Value}
use Rattle.tw_types.specs.Table.{ty_at}
use Rattle.tw_resolve.specs.Declarations.{is_one_of}
use Rattle.tw_resolve.specs.Expressions.{Types}
use Rattle.tw_resolve.specs.Setting.{Setting, type_of, pointee}
use Rattle.tw_resolve.specs.Tables.{AreTargets}
use Rattle.tw_resolve.proofs.Sets.{found_types}
use Rattle.std.specs.Bool.{Decides}
use Rattle.tw_resolve.specs.Resolved.{resolved_setting}
use Rattle.tw_check.specs.declared.checked.Checked.{Checked}
use Rattle.tw_state.specs.declared.state.Side.{Side}
use Rattle.tw_state.specs.declared.state.Side.TheVariants as side
use Rattle.tw_state.specs.States.{Name, Cell, Free, Live}
use Rattle.tw_state.specs.Steps.{fun_types}
use Rattle.tw_state.specs.FromCode.{ListedState, names_at, live_at}
use Rattle.tw_state.specs.Listed.{store_of, HaveTypes}
use Rattle.tw_state.specs.Results.{Fits, IsCell}
use Rattle.tw_state.specs.TypedLists.{IsTypedMemory, IsTypedOn, IsTypedEntry}
use Rattle.tw_state.specs.TypedLists as listed
use Rattle.tw_state.proofs.Basics.{some_value, same_some, by_test, same_name, name_test, contradiction}
use Rattle.tw_state.proofs.Calls.{AreDifferent}
use Rattle.tw_state.proofs.EntryFunctions.{entry_names_different}
use Rattle.tw_state.proofs.Listed.{set_of, live_at_end-listed, listed_live, listed_fits}
use Rattle.tw_state.proofs.TypedValues.{StoreFits}

-- the type of a target in a list is the one that the target denotes
same_ty_at : (found : Option Target) (written : Option WrittenTree) (f : WrittenTree → Option Ty) → option_map (λ target. Some target.ty) found ≡ option_map f written → option_map (λ target. target.ty) found ≡ option_and_then f written
same_ty_at None None f same = refl
same_ty_at (Some target) (Some written) f same = some_value same
same_ty_at None (Some written) f same = absurd (none-some (f written) same)
same_ty_at (Some target) None f same = absurd (none-some (Some target.ty) (sym same))

pub target_denotes : (setting : Setting) (targets : List Target) → ∥ AreTargets setting targets ∥₁ → (number : ℕ) → ty_at targets number ≡ pointee setting (Some (Pointer number))
target_denotes setting targets are number =
    ∥∥₁_elim are (found_types _ _)
    (λ a. same_ty_at (slice_get targets number) (slice_get setting.scope.targets number) (type_of setting)
    (sym (slice_get-map (λ target. Some target.ty) targets number) ∙ ap (λ (found : List (Option Ty)). slice_get found number) a.types ∙ slice_get-map (type_of setting) setting.scope.targets number))

module _ (setting : Setting) (targets : List Target) (are : ∥ AreTargets setting targets ∥₁) where
  -- a cell is one of the program by the list of targets exactly if it is one by the written targets
  pub cell_fits : (cell : Cell) → listed.IsCell setting.widths targets cell → IsCell setting cell
  cell_fits (Free next) is = is
  cell_fits (Live target value) is = (is.0, sym (target_denotes setting targets are target) ∙ is.1, is.2)

  pub cell_listed : (cell : Cell) → IsCell setting cell → listed.IsCell setting.widths targets cell
  cell_listed (Free next) is = is
  cell_listed (Live target value) is = (is.0, target_denotes setting targets are target ∙ is.1, is.2)

  pub cells_fit : (cells : List Cell) → AllByRecursion (listed.IsCell setting.widths targets) cells → AllByRecursion (IsCell setting) cells
  cells_fit [] all = tt
  cells_fit (cell ∷ cells) all = (cell_fits cell all.0, cells_fit cells all.1)

  pub cells_listed : (cells : List Cell) → AllByRecursion (IsCell setting) cells → AllByRecursion (listed.IsCell setting.widths targets) cells
  cells_listed [] all = tt
  cells_listed (cell ∷ cells) all = (cell_listed cell all.0, cells_listed cells all.1)

-- the names on a side are the set of the listed ones
pub live_at-listed : (side : Side) (fun : FunTree) → live_at side fun ≡ set_of (names_at side fun)
live_at-listed side.Start fun = refl
live_at-listed side.End fun = live_at_end-listed fun

-- a name that is not listed has no value
pub unlisted : (names : List Name) (values : List Value) (name : Name) → is_one_of name names ≡ false → store_of names values name ≡ None
unlisted [] values name none = refl
unlisted (first ∷ names) [] name none = refl
unlisted (first ∷ names) (value ∷ values) name none =
    let parts = or_parts (bytes_eq name first) (is_one_of name names) none in
    by_test (bytes_eq first name)
    (λ is. contradiction {test = bytes_eq name first} (subst (λ n. bytes_eq name n ≡ true) (sym (same_name first name is)) (name_test name)) parts.0)
    (λ differ. rw differ (unlisted names values name parts.1))

module _ (widths : Widths) (types : Types) where
  -- as many values as different names have the types of these if their store has
  pub fits_listed : (names : List Name) (values : List Value) → length values ≡ length names → AreDifferent names → StoreFits widths types (store_of names values) → HaveTypes widths types names values
  fits_listed [] [] counted different fits = tt
  fits_listed [] (value ∷ values) counted different fits = cc
  fits_listed (first ∷ names) [] counted different fits = cc
  fits_listed (first ∷ names) (value ∷ values) counted different fits =
      (subst (Fits widths (types first)) (at_first (store_of names values first)) (fits first), fits_listed names values (omega (arith, counted)) different.1 later)
    where
      at_first : (other : Option Value) → (if bytes_eq first first then Some value else other) ≡ Some value
      at_first other = rw (name_test first) refl

      after : (name : Name) → bytes_eq first name ≡ false → (if bytes_eq first name then Some value else store_of names values name) ≡ store_of names values name
      after name differ = rw differ refl

      later : StoreFits widths types (store_of names values)
      later name =
          by_test (bytes_eq first name)
          (λ is. subst (Fits widths (types name)) (sym (unlisted names values name (subst (λ n. is_one_of n names ≡ false) (same_name first name is) different.0))) (none_fits (types name)))
          (λ differ. subst (Fits widths (types name)) (after name differ) (fits name))
        where
          none_fits : (ty : Option Ty) → Fits widths ty None
          none_fits None = tt
          none_fits (Some ty) = tt

module _ (setting : Setting) (targets : List Target) (are : ∥ AreTargets setting targets ∥₁) (side : Side) (fun : FunTree) (listed : ListedState) where
  pub typed_if_listed : IsTypedMemory setting.widths targets listed → length listed.values ≡ length (names_at side fun) → HaveTypes setting.widths (fun_types setting fun) (names_at side fun) listed.values → IsTypedOn setting side fun listed
  typed_if_listed memory counted values = record {
    counted = counted;
    typed = record {
      typed = record {
        head_within = memory.head_within;
        all_blocks = memory.all_blocks;
        each_cell = cells_fit setting targets are listed.cells memory.each_cell;
        names = listed_fits setting.widths (fun_types setting fun) (names_at side fun) listed.values values;
      };
      names = listed_live setting.widths (fun_types setting fun) (names_at side fun) listed.values values ∙ sym (live_at-listed side fun);
    };
  }

  pub memory_if_typed : IsTypedOn setting side fun listed → IsTypedMemory setting.widths targets listed
  memory_if_typed typed = record {
    head_within = typed.typed.typed.head_within;
    all_blocks = typed.typed.typed.all_blocks;
    each_cell = cells_listed setting targets are listed.cells typed.typed.typed.each_cell;
  }

  pub values_if_typed : AreDifferent (names_at side fun) → IsTypedOn setting side fun listed → HaveTypes setting.widths (fun_types setting fun) (names_at side fun) listed.values
  values_if_typed different typed = fits_listed setting.widths (fun_types setting fun) (names_at side fun) listed.values typed.counted different typed.typed.typed.names

-- a state of an entry has as many values as names, and a typed memory
module _ (checked : Checked) (number : ℕ) (side : Side) (listed : ListedState) (fun : FunTree) (found : slice_get (resolved_setting checked.resolved).funs number ≡ Some fun) where
  abbrev own : Setting
  own = resolved_setting checked.resolved

  of_fun : IsTypedEntry own number side listed → IsTypedOn own side fun listed
  of_fun (other, found2, typed) = subst (λ f. IsTypedOn own side f listed) (same_some found2 found) typed

  pub entry_counted : IsTypedEntry own number side listed → length listed.values ≡ length (names_at side fun)
  entry_counted entry = (of_fun entry).counted

  -- and its values have the types of the names
  pub entry_values : (targets : List Target) → ∥ AreTargets own targets ∥₁ → IsTypedEntry own number side listed → HaveTypes own.widths (fun_types own fun) (names_at side fun) listed.values
  entry_values targets are entry = values_if_typed own targets are side fun listed (entry_names_different checked side number fun found) (of_fun entry)

  module _ (targets : List Target) (are : ∥ AreTargets own targets ∥₁) where
    pub entry_memory : IsTypedEntry own number side listed → IsTypedMemory own.widths targets listed
    entry_memory entry = memory_if_typed own targets are side fun listed (of_fun entry)

    -- such a state is typed exactly if its values are
    pub entry_tested : (test : Bool) (names : List Name) → names ≡ names_at side fun → length listed.values ≡ length (names_at side fun) → IsTypedMemory own.widths targets listed → Decides test (HaveTypes own.widths (fun_types own fun) names listed.values)
        → Decides test (IsTypedEntry own number side listed)
    entry_tested test names are_names counted memory tested = (
      (λ is. (fun, found, typed_if_listed own targets are side fun listed memory counted (subst (λ n. HaveTypes own.widths (fun_types own fun) n listed.values) are_names (tested.0 is)))),
      (λ entry. tested.1 (subst (λ n. HaveTypes own.widths (fun_types own fun) n listed.values) (sym are_names) (values_if_typed own targets are side fun listed (entry_names_different checked side number fun found) (of_fun entry)))),
    )
