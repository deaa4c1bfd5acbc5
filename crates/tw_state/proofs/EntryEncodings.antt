-- The encoding of the states of an entry is injective.
use Rattle.std.proofs.Common.{◌≡◌, ◌≢◌, ◌∙◌, refl, sym, ap, subst, Bool, true, false, ◌||◌, List, [], ◌∷◌, ◌++◌, map, flat_map, slice_get, Option, Some, None, is_some, option_map, option_and_then, unwrap_or, bytes_eq, ℕ, ◌+◌, ◌-◌, arith, length, length-append, drop, replicate, if◌then◌else◌}
use Rattle.std.specs.List.{AllByRecursion}
use Rattle.std.proofs.lemmas.List.Folds.{flat_map-map}
use Rattle.std.proofs.lemmas.Option.{none-some, slice_get-map}
use Rattle.tw_syntax.specs.Programs.{FunTree}
use Rattle.tw_syntax.specs.Types.{WrittenTree, type_print}
use Rattle.tw_types.specs.Types.{Widths, Ty, UnitTy, Pointer, Target}
use Rattle.tw_types.specs.Values.{Value, HasType}
use Rattle.tw_types.specs.Table.{ty_at}
use Rattle.tw_resolve.specs.Declarations.{is_one_of}
use Rattle.tw_resolve.specs.Expressions.{Types}
use Rattle.tw_resolve.specs.Setting.{Setting, type_of, pointee}
use Rattle.tw_state.specs.declared.state.Side.{Side}
use Rattle.tw_state.specs.States.{Name, Cell, Free, Live, Store, State}
use Rattle.tw_state.specs.Steps.{fun_types}
use Rattle.tw_state.specs.FromCode.{names_at, live_at}
use Rattle.tw_state.specs.Results.{Fits, IsCell, IsTypedAt}
use Rattle.tw_bits.specs.Writing.{padded}
use Rattle.tw_check.specs.Names.{Names}
use Rattle.tw_state.specs.Encoding.{memory_bits}
use Rattle.tw_state.proofs.Variables.{Variable, HasVariable, IsTyped, variable_bits, encoded}
use Rattle.tw_state.specs.EntryEncoding.{targets_in, name_bits, encoded_on, IsInjectiveOn}
use Rattle.tw_state.specs.TypedLists as listed
use Rattle.std.specs.Coded.{Coded-set}
use Rattle.std.proofs.Math.Logic.{∥∥₁_elim}
use mathlib.Core.List as list
use Rattle.tw_bits.specs.Numbers.{number_bits}
use Rattle.tw_bits.proofs.Laws.{length-number_bits}
use Rattle.tw_types.specs.Coding.{target_code}
use Rattle.tw_types.specs.Values.{value_bits}
use Rattle.tw_resolve.specs.Tables.{AreTargets}
use Rattle.tw_resolve.specs.Resolved.{resolved_setting}
use Rattle.tw_check.specs.declared.checked.Checked.{Checked}
use Rattle.tw_state.specs.FromCode.{ListedState}
use Rattle.tw_state.specs.Listed.{store_of}
use Rattle.tw_state.specs.Encoding.{cell_bits}
use Rattle.tw_state.specs.EntryEncoding.{Appends, IsEncodedOn}
use Rattle.tw_state.proofs.Appending.{appends_both}
use Rattle.tw_state.proofs.Calls.{AreDifferent}
use Rattle.tw_state.proofs.EntryFunctions.{entry_names_different}
use Rattle.tw_state.proofs.Basics.{some_value, by_test, by_option, same_name, name_test, contradiction}
use Rattle.tw_state.proofs.Injective.{encoding-injective}
use Rattle.tw_state.proofs.TypedValues.{StoreFits}
use Rattle.tw_state.proofs.TypedStates.{live_at-listed}

-- names with their types
abbrev variables_of : Types → List Name → List Variable
variables_of types names = map (λ name. record { name = name; ty = unwrap_or (types name) UnitTy }) names

module _ (widths : Widths) (types : Types) (store : Store) (fits : StoreFits widths types store) where
  has_variable : (name : Name) → is_some (store name) ≡ true → HasVariable widths store (record { name = name; ty = unwrap_or (types name) UnitTy })
  has_variable name live =
      by_option (store name) (λ none. contradiction {test = true} refl (sym live ∙ ap is_some none))
      (λ value is. (value, is, typed (types name) value (subst (Fits widths (types name)) is (fits name))))
    where
      typed : (ty : Option Ty) (value : Value) → Fits widths ty (Some value) → HasType widths value (unwrap_or ty UnitTy)
      typed (Some ty) value is = is
      typed None value is = absurd is

  have_variables : (names : List Name) → ((name : Name) → is_one_of name names ≡ true → is_some (store name) ≡ true) → AllByRecursion (HasVariable widths store) (variables_of types names)
  have_variables [] live = tt
  have_variables (first ∷ names) live =
      (has_variable first (live first (ap (λ k. k || is_one_of first names) (name_test first))), have_variables names (λ name one. live name (or_true (bytes_eq name first) (is_one_of name names) one)))
    where
      or_true : (p q : Bool) → q ≡ true → (p || q) ≡ true
      or_true true q is = refl
      or_true false q is = is

other_name : (types : Types) (names : List Name) (name : Name) → AllByRecursion (λ (variable : Variable). variable.name ≢ name) (variables_of types names) → is_one_of name names ≡ false
other_name types [] name differ = refl
other_name types (first ∷ names) name differ =
    let rest = other_name types names name differ.1 in
    by_test (bytes_eq name first) (λ is. absurd (differ.0 (sym (same_name name first is)))) (λ apart. rw apart rest)

-- a written target with the type that it denotes
abbrev target_of : Setting → WrittenTree → Target
target_of setting to = record { written = type_print to; ty = unwrap_or (type_of setting to) UnitTy }

denoted : (setting : Setting) (ty : Ty) (found : Option WrittenTree) → option_and_then (type_of setting) found ≡ Some ty → option_map (λ target. target.ty) (option_map (target_of setting) found) ≡ Some ty
denoted setting ty None is = absurd (none-some ty is)
denoted setting ty (Some to) is = ap (λ (o : Option Ty). Some (unwrap_or o UnitTy)) is

-- the number of a target leads to the type that it denotes
target_type : (setting : Setting) (number : ℕ) (ty : Ty) → pointee setting (Some (Pointer number)) ≡ Some ty → ty_at (targets_in setting) number ≡ Some ty
target_type setting number ty is =
    ap (option_map (λ target. target.ty)) (slice_get-map (target_of setting) setting.scope.targets number) ∙ denoted setting ty (slice_get setting.scope.targets number) is

cell_in : (setting : Setting) (cell : Cell) → IsCell setting cell → listed.IsCell setting.widths (targets_in setting) cell
cell_in setting (Free next) is = is
cell_in setting (Live target value) is = (is.0, target_type setting target is.0 is.1, is.2)

-- cells of the program are cells by the list of its targets
pub cells_in : (setting : Setting) (cells : List Cell) → AllByRecursion (IsCell setting) cells → AllByRecursion (listed.IsCell setting.widths (targets_in setting)) cells
cells_in setting [] all = tt
cells_in setting (cell ∷ cells) all = (cell_in setting cell all.0, cells_in setting cells all.1)

-- a state that is typed on a side has the names of that side as variables
pub typed_variables : (setting : Setting) (side : Side) (fun : FunTree) (state : State) → IsTypedAt setting fun (live_at side fun) state
    → IsTyped setting.widths (targets_in setting) (variables_of (fun_types setting fun) (names_at side fun)) state
typed_variables setting side fun state typed =
    let live = λ (name : Name). ap (λ (names : Names). names name) (typed.names ∙ live_at-listed side fun) in
    record {
      head_within = typed.typed.head_within;
      all_blocks = typed.typed.all_blocks;
      each_cell = cells_in setting state.cells typed.typed.each_cell;
      holds = record {
        each = have_variables setting.widths (fun_types setting fun) state.store typed.typed.names (names_at side fun) (λ name one. live name ∙ one);
        no_other = λ name differ. absent (state.store name) (live name ∙ other_name (fun_types setting fun) (names_at side fun) name differ);
      };
    }
  where
    absent : (o : Option Value) → is_some o ≡ false → o ≡ None
    absent None is = refl
    absent (Some value) is = contradiction {test = true} refl is

-- the bits of names are those of the variables
names_encoded : (widths : Widths) (types : Types) (store : Store) (names : List Name) → flat_map (variable_bits widths store) (variables_of types names) ≡ flat_map (name_bits widths store) names
names_encoded widths types store names = flat_map-map (variable_bits widths store) (λ name. record { name = name; ty = unwrap_or (types name) UnitTy }) names

-- the encoding on a side is that of the variables
pub encoded_variables : (wires : ℕ) (setting : Setting) (side : Side) (fun : FunTree) (state : State)
    → encoded wires setting.widths (targets_in setting) (variables_of (fun_types setting fun) (names_at side fun)) state ≡ encoded_on wires setting side fun state
encoded_variables wires setting side fun state =
    ap (λ bits. padded wires (memory_bits setting.widths (targets_in setting) state ++ bits)) (names_encoded setting.widths (fun_types setting fun) state.store (names_at side fun))

-- the encoding of the states of an entry is injective
pub entry_encoding-injective : (wires : ℕ) (setting : Setting) (side : Side) (fun : FunTree) → IsInjectiveOn wires setting side fun
entry_encoding-injective wires setting side fun state other formed formed2 typed typed2 same =
    encoding-injective wires setting.widths (targets_in setting) (variables_of (fun_types setting fun) (names_at side fun)) state other formed formed2
    (typed_variables setting side fun state typed) (typed_variables setting side fun other typed2)
    (encoded_variables wires setting side fun state ∙ same ∙ sym (encoded_variables wires setting side fun other))

-- the targets of the code are those of the program
pub targets_are : (setting : Setting) (targets : List Target) → ∥ AreTargets setting targets ∥₁ → targets ≡ targets_in setting
targets_are setting targets are = ∥∥₁_elim are (list.is_set (Coded-set target_code) _ _) (λ a. each targets setting.scope.targets a.written a.types)
  where
    same_target : (target : Target) (to : WrittenTree) → target.written ≡ type_print to → Some target.ty ≡ type_of setting to → target ≡ target_of setting to
    same_target target to text ty = ap (λ t. record { written = t; ty = target.ty }) text ∙ ap (λ (o : Option Ty). record { written = type_print to; ty = unwrap_or o UnitTy }) ty

    head_same : {A : Type 0} {x y : A} {xs ys : List A} → x ∷ xs ≡ y ∷ ys → x ≡ y
    head_same {x = x} same = some_value (ap (λ l. slice_get l 0) same)

    rest_same : {A : Type 0} {x y : A} {xs ys : List A} → x ∷ xs ≡ y ∷ ys → xs ≡ ys
    rest_same same = ap (drop 1) same

    each : (ts : List Target) (ws : List WrittenTree) → map (λ (t : Target). t.written) ts ≡ map type_print ws → map (λ (t : Target). Some t.ty) ts ≡ map (type_of setting) ws → ts ≡ map (target_of setting) ws
    each [] [] texts types = refl
    each [] (w ∷ ws) texts types = cc
    each (t ∷ ts) [] texts types = cc
    each (t ∷ ts) (w ∷ ws) texts types =
        ap (λ x. x ∷ ts) (same_target t w (head_same texts) (head_same types)) ∙ ap (λ rest. target_of setting w ∷ rest) (each ts ws (rest_same texts) (rest_same types))

-- stores that agree on names give them the same bits
same_bits : (widths : Widths) (store other : Store) (names : List Name) → ((name : Name) → is_one_of name names ≡ true → store name ≡ other name) → flat_map (name_bits widths store) names ≡ flat_map (name_bits widths other) names
same_bits widths store other [] same = refl
same_bits widths store other (first ∷ names) same =
    ap (λ (o : Option Value). unwrap_or (option_map (value_bits widths) o) [] ++ flat_map (name_bits widths store) names) (same first (ap (λ k. k || is_one_of first names) (name_test first)))
    ∙ ap (λ bits. name_bits widths other first ++ bits) (same_bits widths store other names (λ name one. same name (or_true (bytes_eq name first) (is_one_of name names) one)))
  where
    or_true : (p q : Bool) → q ≡ true → (p || q) ≡ true
    or_true true q is = refl
    or_true false q is = is

-- the bits of the values of different names are those of the list of the values
names_listed : (widths : Widths) (names : List Name) (values : List Value) → length values ≡ length names → AreDifferent names → flat_map (name_bits widths (store_of names values)) names ≡ flat_map (value_bits widths) values
names_listed widths [] [] counted different = refl
names_listed widths [] (value ∷ values) counted different = cc
names_listed widths (first ∷ names) [] counted different = cc
names_listed widths (first ∷ names) (value ∷ values) counted different =
    ap (λ (o : Option Value). unwrap_or (option_map (value_bits widths) o) [] ++ flat_map (name_bits widths (store_of (first ∷ names) (value ∷ values))) names) (here (store_of names values first))
    ∙ ap (λ bits. value_bits widths value ++ bits)
    (same_bits widths (store_of (first ∷ names) (value ∷ values)) (store_of names values) names later ∙ names_listed widths names values (omega (arith, counted)) different.1)
  where
    here : (rest : Option Value) → (if bytes_eq first first then Some value else rest) ≡ Some value
    here rest = rw (name_test first) refl

    later : (name : Name) → is_one_of name names ≡ true → (if bytes_eq first name then Some value else store_of names values name) ≡ store_of names values name
    later name one =
        by_test (bytes_eq first name)
        (λ is. contradiction {test = is_one_of name names} one (subst (λ n. is_one_of n names ≡ false) (same_name first name is) different.0))
        (λ differ. rw differ refl)

-- a listed state whose parts are appended is encoded
pub parts_encoded : (checked : Checked) (number : ℕ) (side : Side) (fun : FunTree) (listed : ListedState) (targets : List Target) (next : ℕ) (none first second all : List Bool)
    → slice_get (resolved_setting checked.resolved).funs number ≡ Some fun → length listed.values ≡ length (names_at side fun) → ∥ AreTargets (resolved_setting checked.resolved) targets ∥₁
    → none ≡ replicate (length none) false
    → Appends 0 (number_bits (resolved_setting checked.resolved).widths.addr listed.head) none first
    → Appends (resolved_setting checked.resolved).widths.addr (flat_map (cell_bits (resolved_setting checked.resolved).widths targets) listed.cells) first second
    → next ≡ (resolved_setting checked.resolved).widths.addr + length (flat_map (cell_bits (resolved_setting checked.resolved).widths targets) listed.cells)
    → Appends next (flat_map (value_bits (resolved_setting checked.resolved).widths) listed.values) second all
    → IsEncodedOn (length none) (resolved_setting checked.resolved) number side listed all
parts_encoded checked number side fun listed targets next none first second all found counted are zeros head cells is_next values =
    let setting = resolved_setting checked.resolved in
    let addr = setting.widths.addr in
    let head_bits = number_bits addr listed.head in
    let cells_bits = flat_map (cell_bits setting.widths targets) listed.cells in
    let len = length-number_bits addr listed.head in
    let memory = appends_both 0 addr head_bits cells_bits none first second (let e : addr ≡ 0 + length head_bits = omega (arith, len) in e) head cells in
    let whole : next ≡ 0 + length (head_bits ++ cells_bits) = (let sum = length-append head_bits cells_bits in omega (arith, sum, len, is_next)) in
    let together = appends_both 0 next (head_bits ++ cells_bits) (flat_map (value_bits setting.widths) listed.values) none second all whole memory values in
    let empty : none ≡ padded (length none) [] = zeros ∙ (let same : length none ≡ length none - 0 = omega arith in ap (λ n. replicate n false) same) in (
      fun,
      found,
      together.after [] refl empty
          ∙ ap (λ ts. padded (length none) ((head_bits ++ flat_map (cell_bits setting.widths ts) listed.cells) ++ flat_map (value_bits setting.widths) listed.values)) (targets_are setting targets are)
          ∙ ap (λ bits. padded (length none) ((head_bits ++ flat_map (cell_bits setting.widths (targets_in setting)) listed.cells) ++ bits))
          (sym (names_listed setting.widths (names_at side fun) listed.values counted (entry_names_different checked side number fun found))),
    )
