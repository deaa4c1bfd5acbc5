-- The names of an entry, and values that have the types of names.
use Rattle.std.proofs.Common.{◌≡◌, ◌↔◌, ◌∙◌, ◌<◌, ◌≤◌, ◌+◌, refl, sym, ap, subst₂, arith, add-one, Bool, true, false, option_and_then, ℕ, zero, suc, List, [], ◌∷◌, ◌++◌, length, map, take, drop, get_or, slice_get, Some, option_map, length-append}
use Rattle.std.specs.Bool.{Decides}
use Rattle.std.proofs.Math.Seq.{take-length, take-append_seam}
use Rattle.std.proofs.lemmas.List.{length-map}
use Rattle.std.proofs.lemmas.Option.{none-some, slice_get-map, slice_get-get_or}
use Rattle.tw_syntax.specs.declared.program.Fun.{Fun}
use Rattle.tw_syntax.specs.declared.program.Param.{Param}
use Rattle.tw_syntax.specs.Programs.{FunTree, param_tree, fun_tree}
use Rattle.tw_types.specs.Types.{Widths}
use Rattle.tw_types.specs.Values.{Value}
use Rattle.tw_resolve.specs.Expressions.{Types, variable_type}
use Rattle.tw_resolve.specs.Programs.{end_variables}
use Rattle.tw_resolve.specs.Resolved.{type_at}
use Rattle.tw_resolve.specs.Setting.{Setting}
use Rattle.tw_check.specs.Liveness.{param_names}
use Rattle.tw_state.specs.declared.state.Side.{Side}
use Rattle.tw_state.specs.declared.state.Side.TheVariants as side
use Rattle.tw_state.specs.States.{Name}
use Rattle.tw_state.specs.FromCode.{names_at}
use Rattle.tw_state.specs.Listed.{names_at_end, HaveTypes}
use Rattle.tw_state.specs.Results.{Fits}
use Rattle.tw_state.specs.Steps.{fun_types}
use Rattle.tw_state.proofs.Basics.{some_value}

module _ {A : Type 0} where
  get_before : (xs : List A) (last : A) (i : ℕ) → i < length xs → slice_get (xs ++ last ∷ []) i ≡ slice_get xs i
  get_before [] last i within = absurd (omega (arith, within))
  get_before (x ∷ xs) last zero within = refl
  get_before (x ∷ xs) last (suc i) within = get_before xs last i (omega (arith, within))

  get_last : (xs : List A) (last : A) (i : ℕ) → i ≡ length xs → slice_get (xs ++ last ∷ []) i ≡ Some last
  get_last [] last zero is = refl
  get_last [] last (suc i) is = absurd (omega (arith, is))
  get_last (x ∷ xs) last zero is = absurd (omega (arith, is))
  get_last (x ∷ xs) last (suc i) is = get_last xs last i (omega (arith, is))

  pub get_taken : (xs : List A) (n i : ℕ) → i < n → slice_get (take n xs) i ≡ slice_get xs i
  get_taken [] zero i within = refl
  get_taken [] (suc n) i within = refl
  get_taken (x ∷ xs) zero i within = absurd (omega (arith, within))
  get_taken (x ∷ xs) (suc n) zero within = refl
  get_taken (x ∷ xs) (suc n) (suc i) within = get_taken xs n i (omega (arith, within))

  pub dropped_at : (xs : List A) (i : ℕ) (x : A) → slice_get xs i ≡ Some x → drop i xs ≡ x ∷ drop (i + 1) xs
  dropped_at [] i x found = absurd (none-some x found)
  dropped_at (y ∷ xs) zero x found = ap (λ z. z ∷ xs) (some_value found)
  dropped_at (y ∷ xs) (suc i) x found = rw (dropped_at xs i x found, add-one (suc i), add-one i) refl

length_params : (fun : Fun) → length (param_names (fun_tree fun)) ≡ length fun.params.now
length_params fun = length-map (map param_tree fun.params.now) (λ param. param.name.text) ∙ length-map fun.params.now param_tree

-- a parameter of the code is the name at its place
pub param_at : (fun : Fun) (place : ℕ) (other : Param) → place < length fun.params.now → slice_get (names_at_end (fun_tree fun)) place ≡ Some (get_or fun.params.now place other).name.text.now
param_at fun place other within =
    get_before (param_names (fun_tree fun)) fun.returned.text.now place (rw (length_params fun) within)
    ∙ slice_get-map (λ param. param.name.text) (map param_tree fun.params.now) place
    ∙ ap (option_map (λ param. param.name.text)) (slice_get-map param_tree fun.params.now place ∙ ap (option_map param_tree) (slice_get-get_or fun.params.now place other within))

-- the returned name is the one after them
pub returned_at : (fun : Fun) (place : ℕ) → length fun.params.now ≤ place → place < length (names_at_end (fun_tree fun)) → slice_get (names_at_end (fun_tree fun)) place ≡ Some fun.returned.text.now
returned_at fun place from within =
    get_last (param_names (fun_tree fun)) fun.returned.text.now place
    (let more : length (names_at_end (fun_tree fun)) ≡ length fun.params.now + 1 = length-append (param_names (fun_tree fun)) (fun.returned.text.now ∷ []) ∙ ap (λ n. n + 1) (length_params fun) in
    let params = length_params fun in omega (arith, from, within, more, params))

-- the names on a side are the first ones at the end
pub names_taken : (side : Side) (fun : FunTree) (n : ℕ) → n ≡ length (names_at side fun) → take n (names_at_end fun) ≡ names_at side fun
names_taken side.Start fun n is = rw is (take-append_seam (param_names fun) (fun.returned.text ∷ []))
names_taken side.End fun n is = rw is (take-length (names_at_end fun))

-- one more value has the type of its name
pub typed_step : (widths : Widths) (types : Types) (names : List Name) (values : List Value) (place : ℕ) (name : Name) (value : Value) → slice_get names place ≡ Some name → slice_get values place ≡ Some value
    → HaveTypes widths types (drop place names) (drop place values) ↔ (Fits widths (types name) (Some value) × HaveTypes widths types (drop (place + 1) names) (drop (place + 1) values))
typed_step widths types names values place name value at_name at_value =
    let this = dropped_at names place name at_name in
    let that = dropped_at values place value at_value in
    (subst₂ (HaveTypes widths types) this that, subst₂ (HaveTypes widths types) (sym this) (sym that))

-- the type of a name by the number of its function
pub type_found : (setting : Setting) (number : ℕ) (fun : FunTree) (name : Name) → slice_get setting.funs number ≡ Some fun → type_at setting number name ≡ fun_types setting fun name
type_found setting number fun name found = ap (λ f. option_and_then (λ variables. variable_type variables name) (option_map (end_variables setting) f)) found

-- a loop that tests one part after another stops at the first that fails
pub tests_stop : {All Left Here Rest : Type 0} {test : Bool} → All ↔ Left → Left ↔ (Here × Rest) → Decides test Here → test ≡ false → Decides false All
tests_stop so step decides fails = (λ k. cc, λ all. sym fails ∙ decides.1 (step.0 (so.0 all)).0)

-- and goes on while they hold
pub tests_go_on : {All Left Here Rest : Type 0} {test : Bool} → All ↔ Left → Left ↔ (Here × Rest) → Decides test Here → test ≡ true → All ↔ Rest
tests_go_on so step decides holds = (λ all. (step.0 (so.0 all)).1, λ rest. so.1 (step.1 (decides.0 holds, rest)))

-- the value at a place has the type of the name there
pub value_fits : (widths : Widths) (types : Types) (names : List Name) (values : List Value) (place : ℕ) (name : Name) (value : Value) → slice_get names place ≡ Some name → slice_get values place ≡ Some value
    → HaveTypes widths types names values → Fits widths (types name) (Some value)
value_fits widths types [] values place name value at_name at_value typed = absurd (none-some name at_name)
value_fits widths types (first ∷ names) [] place name value at_name at_value typed = absurd (none-some value at_value)
value_fits widths types (first ∷ names) (v ∷ values) zero name value at_name at_value typed =
    subst₂ (λ n x. Fits widths (types n) (Some x)) (some_value at_name) (some_value at_value) typed.0
value_fits widths types (first ∷ names) (v ∷ values) (suc place) name value at_name at_value typed = value_fits widths types names values place name value at_name at_value typed.1
