-- The texts of states by the pieces in which they are written.
use Rattle.std.proofs.Common.{◌≡◌, ◌∙◌, ◌≤◌, ◌+◌, refl, sym, ap, ap₂, subst, add-one, arith, ℕ, suc, List, [], ◌∷◌, ◌++◌, length, drop, map, Option, Some, Result, Ok, Err, slice_get, unwrap_or, codes, decimal, append_assoc, length-append}
use Rattle.tw_io.specs.declared.device.WriteFault.{WriteFault}
use Rattle.tw_io.specs.Devices.{Wrote}
use Rattle.tw_io.proofs.Devices.{wrote_then, wrote_prefix, wrote_none}
use Rattle.tw_syntax.specs.Programs.{FunTree}
use Rattle.tw_types.specs.declared.values.Val.{Val}
use Rattle.tw_types.specs.FromCode.{value_of}
use Rattle.tw_types.specs.Types.{Target}
use Rattle.tw_types.specs.Table.{written_at}
use Rattle.tw_types.specs.Values.{Value}
use Rattle.tw_resolve.specs.Setting.{Setting}
use Rattle.tw_resolve.specs.Tables.{AreTargets}
use Rattle.tw_check.specs.Liveness.{param_names}
use Rattle.tw_state.specs.declared.state.Cell.{Cell as CellOfCode}
use Rattle.tw_state.specs.declared.state.Side.{Side}
use Rattle.tw_state.specs.declared.state.Side.TheVariants as side
use Rattle.tw_state.specs.States.{Name, Free, Live}
use Rattle.tw_state.specs.FromCode.{ListedState, cell_of, names_at}
use Rattle.tw_state.specs.Listed.{names_at_end}
use Rattle.tw_state.specs.StateText.{head_line, name_line, cell_line, cell_lines, name_lines, state_text}
use Rattle.tw_state.proofs.EntryEncodings.{targets_are}
use Rattle.tw_state.proofs.EntryNames.{dropped_at}

module _ {K : Type 0} (taken : K → Option (List ℕ)) (faults : K → ℕ) where
  -- if the first part of a text was written whole, the outcome for the rest is the outcome for all
  pub part_then : (a b c : K) (result : Result (Unit {0}) WriteFault) (text first rest : List ℕ) → text ≡ first ++ rest → Wrote taken faults a b (Ok tt) first → Wrote taken faults b c result rest → Wrote taken faults a c result text
  part_then a b c result text first rest parts wrote later = subst (λ t. Wrote taken faults a c result t) (sym parts) (wrote_then taken faults a b c result first rest wrote later)

  -- a break in the first part is a break in the text
  pub part_broke : (a b : K) (fault : WriteFault) (text first rest : List ℕ) → text ≡ first ++ rest → Wrote taken faults a b (Err fault) first → Wrote taken faults a b (Err fault) text
  part_broke a b fault text first rest parts wrote = subst (λ t. Wrote taken faults a b (Err fault) t) (sym parts) (wrote_prefix taken faults a b fault first rest wrote)

  -- nothing is left to write
  pub all_written : (a : K) (text : List ℕ) → text ≡ [] → Wrote taken faults a a (Ok tt) text
  all_written a text none = subst (λ t. Wrote taken faults a a (Ok tt) t) (sym none) (wrote_none taken faults a)

pub free_parts : (targets : List Target) (block next : ℕ) → cell_line targets block (Free next) ≡ (decimal block ++ codes " free ") ++ (decimal next ++ codes "\n")
free_parts targets block next = sym (append_assoc (decimal block) (codes " free ") (decimal next ++ codes "\n"))

pub live_begun : (targets : List Target) (block target : ℕ) (value : Value) → cell_line targets block (Live target value) ≡ (decimal block ++ codes " live ") ++ name_line (unwrap_or (written_at targets target) []) value
live_begun targets block target value = sym (append_assoc (decimal block) (codes " live ") (name_line (unwrap_or (written_at targets target) []) value))

pub live_parts : (targets : List Target) (block target : ℕ) (value : Value) (text : List ℕ) → written_at targets target ≡ Some text
    → cell_line targets block (Live target value) ≡ (decimal block ++ codes " live ") ++ name_line text value
live_parts targets block target value text is =
    live_begun targets block target value ∙ ap (λ o. (decimal block ++ codes " live ") ++ name_line (unwrap_or o []) value) is

-- the lines of the cells from a place on
pub cells_from : (targets : List Target) (cells : List CellOfCode) (place : ℕ) (cell : CellOfCode) → slice_get cells place ≡ Some cell
    → cell_lines targets (suc place) (map cell_of (drop place cells)) ≡ cell_line targets (place + 1) (cell_of cell) ++ cell_lines targets (suc (place + 1)) (map cell_of (drop (place + 1) cells))
cells_from targets cells place cell found =
    ap (λ cs. cell_lines targets (suc place) (map cell_of cs)) (dropped_at cells place cell found)
    ∙ ap (λ n. cell_line targets n (cell_of cell) ++ cell_lines targets (suc n) (map cell_of (drop (place + 1) cells))) (sym (add-one place))

-- the lines of the values from a place on
pub values_from : (names : List Name) (values : List Val) (place : ℕ) (name : Name) (value : Val) → slice_get names place ≡ Some name → slice_get values place ≡ Some value
    → name_lines (drop place names) (map value_of (drop place values)) ≡ name_line name (value_of value) ++ name_lines (drop (place + 1) names) (map value_of (drop (place + 1) values))
values_from names values place name value at_name at_value =
    ap₂ (λ ns vs. name_lines ns (map value_of vs)) (dropped_at names place name at_name) (dropped_at values place value at_value)

pub no_values : (names : List Name) (values : List Val) → values ≡ [] → name_lines names (map value_of values) ≡ []
no_values [] values none = ap (λ vs. name_lines [] (map value_of vs)) none
no_values (name ∷ names) values none = ap (λ vs. name_lines (name ∷ names) (map value_of vs)) none

-- further names have no values
more_names : (names more : List Name) (values : List Value) → length values ≡ length names → name_lines (names ++ more) values ≡ name_lines names values
more_names [] [] [] counted = refl
more_names [] (name ∷ more) [] counted = refl
more_names [] more (value ∷ values) counted = cc
more_names (name ∷ names) more [] counted = cc
more_names (name ∷ names) more (value ∷ values) counted = ap (λ t. name_line name value ++ t) (more_names names more values (omega (arith, counted)))

names_on : (side : Side) (fun : FunTree) (values : List Value) → length values ≡ length (names_at side fun) → name_lines (names_at_end fun) values ≡ name_lines (names_at side fun) values
names_on side.Start fun values counted = more_names (param_names fun) (fun.returned.text ∷ []) values counted
names_on side.End fun values counted = refl

-- a side has no more names than the end
pub side_shorter : (side : Side) (fun : FunTree) → length (names_at side fun) ≤ length (names_at_end fun)
side_shorter side.Start fun = omega (arith, length-append (param_names fun) (fun.returned.text ∷ []))
side_shorter side.End fun = omega arith

-- the parts of the text of a state
pub state_parts : (setting : Setting) (side : Side) (fun : FunTree) (listed : ListedState) (targets : List Target) → ∥ AreTargets setting targets ∥₁ → length listed.values ≡ length (names_at side fun)
    → state_text setting side fun listed ≡ head_line listed.head ++ (cell_lines targets 1 listed.cells ++ name_lines (names_at_end fun) listed.values)
state_parts setting side fun listed targets are counted =
    ap₂ (λ ts lines. head_line listed.head ++ (cell_lines ts 1 listed.cells ++ lines)) (sym (targets_are setting targets are)) (sym (names_on side fun listed.values counted))
