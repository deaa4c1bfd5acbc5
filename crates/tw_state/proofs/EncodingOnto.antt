-- The encoding of the states of an entry is onto.
use Rattle.std.proofs.Common.{◌≡◌, ◌∙◌, refl, sym, ap, subst, Bool, true, false, ◌||◌, List, [], ◌∷◌, ◌++◌, flat_map, Option, Some, None, option_map, unwrap_or, bytes_eq, ℕ, ◌+◌, ◌-◌, ◌≤◌, arith, length, length-append, take, drop, if◌then◌else◌}
use Rattle.std.proofs.lemmas.List.{length-take-le, length-drop, take-append-drop}
use Rattle.std.proofs.lemmas.Bool.{or_parts}
use Rattle.tw_bits.specs.Writing.{padded}
use Rattle.tw_syntax.specs.Programs.{FunTree}
use Rattle.tw_types.specs.Types.{Widths, Ty, size}
use Rattle.tw_types.specs.Values.{Value, HasType, value_bits}
use Rattle.tw_types.proofs.Encoding.{bijective}
use Rattle.tw_types.proofs.Lengths.{length-value_bits}
use Rattle.tw_resolve.specs.Declarations.{is_one_of}
use Rattle.tw_resolve.specs.Expressions.{Types}
use Rattle.tw_resolve.specs.Setting.{Setting}
use Rattle.tw_state.specs.declared.state.Side.{Side}
use Rattle.tw_state.specs.States.{Name, Store, State}
use Rattle.tw_state.specs.Steps.{fun_types}
use Rattle.tw_state.specs.FromCode.{names_at, live_at}
use Rattle.tw_state.specs.Listed.{store_of, HaveTypes}
use Rattle.tw_state.specs.Results.{Fits, IsTypedAt}
use Rattle.tw_state.specs.Encoding.{memory_bits}
use Rattle.tw_state.specs.EntryEncoding.{targets_in, name_bits, IsOntoOn}
use Rattle.tw_state.proofs.Basics.{by_test, same_name, name_test}
use Rattle.tw_state.proofs.Calls.{AreDifferent}
use Rattle.tw_state.proofs.Listed.{listed, listed_live, listed_fits}
use Rattle.tw_state.proofs.TypedStates.{live_at-listed}

-- the type of a typed value
type_of_value : (widths : Widths) (ty : Option Ty) (value : Value) → Fits widths ty (Some value) → (found : Ty) × (ty ≡ Some found) × HasType widths value found
type_of_value widths (Some ty) value fits = (ty, refl, fits)
type_of_value widths None value fits = absurd fits

module _ (widths : Widths) (types : Types) where
  -- bits as many as those of typed values are those of typed values
  decoded : (names : List Name) (values : List Value) → HaveTypes widths types names values → (bits : List Bool) → length bits ≡ length (flat_map (value_bits widths) values)
      → (others : List Value) × HaveTypes widths types names others × (flat_map (value_bits widths) others ≡ bits)
  decoded [] [] typed [] same = ([], tt, refl)
  decoded [] [] typed (bit ∷ bits) same = absurd (omega (arith, same))
  decoded [] (value ∷ values) typed bits same = absurd typed
  decoded (name ∷ names) [] typed bits same = absurd typed
  decoded (name ∷ names) (value ∷ values) typed bits same =
      let first = type_of_value widths (types name) value typed.0 in
      let count : ℕ = size widths first.0 in
      let whole : length bits ≡ count + length (flat_map (value_bits widths) values) =
      same ∙ length-append (value_bits widths value) (flat_map (value_bits widths) values) ∙ ap (λ n. n + length (flat_map (value_bits widths) values)) (length-value_bits widths value first.0 first.2) in
      let found = bijective widths first.0 (take count bits) (length-take-le count bits (omega (arith, whole))) in
      let rest = decoded names values typed.1 (drop count bits) (length-drop count bits ∙ omega (arith, whole)) in (
        found.0 ∷ rest.0,
        (subst (λ ty. Fits widths ty (Some found.0)) (sym first.1) found.1.typed, rest.1),
        ap (λ (b : List Bool). b ++ flat_map (value_bits widths) rest.0) found.1.encodes ∙ ap (λ (b : List Bool). take count bits ++ b) rest.2 ∙ take-append-drop count bits,
      )

  -- the bits of listed names are those of their values
  listed_bits : (names : List Name) (values : List Value) → AreDifferent names → HaveTypes widths types names values → flat_map (name_bits widths (store_of names values)) names ≡ flat_map (value_bits widths) values
  listed_bits [] [] different typed = refl
  listed_bits [] (value ∷ values) different typed = absurd typed
  listed_bits (name ∷ names) [] different typed = absurd typed
  listed_bits (name ∷ names) (value ∷ values) different typed =
      let store : Store = store_of (name ∷ names) (value ∷ values) in
      let here : name_bits widths store name ≡ value_bits widths value =
      ap (λ k. unwrap_or (option_map (value_bits widths) (if k then Some value else store_of names values name)) []) (name_test name) in
      ap (λ (b : List Bool). b ++ flat_map (name_bits widths store) names) here
      ∙ ap (λ (b : List Bool). value_bits widths value ++ b) (others names different.0 ∙ listed_bits names values different.1 typed.1)
    where
      others : (more : List Name) → is_one_of name more ≡ false → flat_map (name_bits widths (store_of (name ∷ names) (value ∷ values))) more ≡ flat_map (name_bits widths (store_of names values)) more
      others [] none = refl
      others (other ∷ more) none =
          let parts = or_parts (bytes_eq name other) (is_one_of name more) none in
          let first : name_bits widths (store_of (name ∷ names) (value ∷ values)) other ≡ name_bits widths (store_of names values) other =
          ap (λ k. unwrap_or (option_map (value_bits widths) (if k then Some value else store_of names values other)) []) parts.0 in
          ap (λ (b : List Bool). b ++ flat_map (name_bits widths (store_of (name ∷ names) (value ∷ values))) more) first
          ∙ ap (λ (b : List Bool). name_bits widths (store_of names values) other ++ b) (others more parts.1)

-- the encoding of the states of an entry is onto, if its names are different, as those of each typed function are
pub entry_encoding-onto : (wires : ℕ) (setting : Setting) (side : Side) (fun : FunTree) → AreDifferent (names_at side fun) → IsOntoOn wires setting side fun
entry_encoding-onto wires setting side fun different state typed bits same =
    let names : List Name = names_at side fun in
    let types : Types = fun_types setting fun in
    let old = listed setting.widths types names state.store typed.typed.names (typed.names ∙ live_at-listed side fun) in
    let old_bits : flat_map (name_bits setting.widths state.store) names ≡ flat_map (value_bits setting.widths) old.0 =
    ap (λ (store : Store). flat_map (name_bits setting.widths store) names) old.2 ∙ listed_bits setting.widths types names old.0 different old.1 in
    let new = decoded setting.widths types names old.0 old.1 bits (same ∙ ap length old_bits) in (
      record state { store = store_of names new.0 },
      record {
        typed = record {
          head_within = typed.typed.head_within;
          all_blocks = typed.typed.all_blocks;
          each_cell = typed.typed.each_cell;
          names = listed_fits setting.widths types names new.0 new.1;
        };
        names = listed_live setting.widths types names new.0 new.1 ∙ sym (live_at-listed side fun);
      },
      refl,
      refl,
      ap (λ (b : List Bool). padded wires (memory_bits setting.widths (targets_in setting) state ++ b)) (listed_bits setting.widths types names new.0 different new.1 ∙ new.2),
    )
