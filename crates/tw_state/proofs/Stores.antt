-- The bits of names in stores with one more value.
use Rattle.std.proofs.Common.{◌≡◌, false, List, [], ◌∷◌, flat_map, bytes_eq, refl}
use Rattle.std.proofs.lemmas.Bool.{or_parts}
use Rattle.tw_types.specs.Types.{Widths}
use Rattle.tw_types.specs.Values.{Value, value_bits}
use Rattle.tw_resolve.specs.Declarations.{is_one_of}
use Rattle.tw_state.specs.States.{Name, Store, with_value}
use Rattle.tw_state.specs.EntryEncoding.{name_bits}
use Rattle.tw_state.proofs.Basics.{name_test}

-- the bits of the name that was given the value
pub name_bits-given : (widths : Widths) (store : Store) (name : Name) (value : Value) → name_bits widths (with_value store name value) name ≡ value_bits widths value
name_bits-given widths store name value = rw (name_test name) refl

-- the bits of other names are unchanged
pub names_bits-with_value : (widths : Widths) (store : Store) (name : Name) (value : Value) (names : List Name) → is_one_of name names ≡ false → flat_map (name_bits widths (with_value store name value)) names ≡ flat_map (name_bits widths store) names
names_bits-with_value widths store name value [] other = refl
names_bits-with_value widths store name value (first ∷ names) other =
    let parts = or_parts (bytes_eq name first) (is_one_of name names) other in
    rw (parts.0, names_bits-with_value widths store name value names parts.1) refl
