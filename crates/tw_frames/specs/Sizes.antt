-- The bits of types, names, atoms and memory, and the wires of names that lie one after the other.
use Rattle.std.specs.Prelude.{◌≡◌, ℕ, ◌+◌, ◌*◌, List, [], ◌∷◌, if◌then◌else◌, Option, Some, None, option_map, unwrap_or, codes, refl}
use Rattle.std.specs.Str.{bytes_eq}
use Rattle.tw_syntax.specs.Examples.{place}
use Rattle.tw_syntax.specs.Terms.{AtomTree, PlaceAtom, NumberAtom, TrueAtom, FalseAtom, UnitAtom, NullAtom, ZeroAtom}
use Rattle.tw_syntax.specs.Types.{WrittenTree, UnitType, UintType, BoolType, PairType, PtrType, NamedType}
use Rattle.tw_types.specs.Types.{Widths, Ty, Boolean, Word, PairTy, size, block_count}
use Rattle.tw_resolve.specs.Expressions.{Types, type_at_path}
use Rattle.tw_resolve.specs.Setting.{Setting}
use Rattle.tw_state.specs.Derivations.{program, half}
use Rattle.tw_state.specs.States.{Name}

-- the bits of a type; none if there is no type
abbrev pub type_size : Widths → Option Ty → ℕ
type_size widths ty = unwrap_or (option_map (size widths) ty) 0

-- the bits of a name; none if it has no type
abbrev pub name_size : Widths → Types → Name → ℕ
name_size widths types name = type_size widths (types name)

-- the bits of these names
abbrev pub names_size : Widths → Types → List Name → ℕ
names_size widths types [] = 0
names_size widths types (name ∷ names) = name_size widths types name + names_size widths types names

-- the first wire of a name, if the names lie in this order from a wire on; the wire after them for another name
abbrev pub wire_from : Widths → Types → ℕ → List Name → Name → ℕ
wire_from widths types first [] name = first
wire_from widths types first (other ∷ names) name =
    if bytes_eq other name then first else wire_from widths types (first + name_size widths types other) names name

-- the bits of a written type: of the type that it denotes, if it denotes one
abbrev pub written_size : Setting → WrittenTree → ℕ
written_size setting (UnitType at) = 0
written_size setting (UintType at) = setting.widths.word
written_size setting (BoolType at) = 1
written_size setting (PairType at first second) = written_size setting first + written_size setting second
written_size setting (PtrType at to) = setting.widths.addr
written_size setting (NamedType at name) = type_size setting.widths (setting.types name)

-- the bits of an atom, by the types of names
abbrev pub atom_size : Setting → Types → AtomTree → ℕ
atom_size setting types (PlaceAtom at path) = type_size setting.widths (type_at_path types path)
atom_size setting types (NumberAtom at number) = setting.widths.word
atom_size setting types (TrueAtom at) = 1
atom_size setting types (FalseAtom at) = 1
atom_size setting types (UnitAtom at) = 0
atom_size setting types (NullAtom at to) = setting.widths.addr
atom_size setting types (ZeroAtom at ty) = written_size setting ty

-- the bits of the memory: the head, and the cells with this number of bits each
abbrev pub memory_size : Widths → ℕ → ℕ
memory_size widths block = widths.addr + block_count widths * block

-- in words of 8 bits and addresses of 2: `x: (uint, bool)`, `y: bool` and z without a type lie in this order from wire 10 on
abbrev types : Types
types name = if bytes_eq name (codes "x") then Some (PairTy Word Boolean) else if bytes_eq name (codes "y") then Some Boolean else None

abbrev in_order : Name → ℕ
in_order = wire_from (program []).widths types 10 (codes "x" ∷ codes "y" ∷ codes "z" ∷ [])

pub wires_of_x : (in_order (codes "x") ≡ 10) × (in_order (codes "y") ≡ 19) × (in_order (codes "z") ≡ 20)
wires_of_x = (refl, refl, refl)

pub size_of_names : names_size (program []).widths types (codes "x" ∷ codes "y" ∷ codes "z" ∷ []) ≡ 10
size_of_names = refl

-- `x.1` is a word, and `default<(ptr<bool>, (uint, ()))>` has 2 and 8 bits
pub size_of_half : atom_size (program []) types (PlaceAtom (place 1 1) (half (codes "x") 1 1)) ≡ 8
size_of_half = refl

pub size_of_zero : atom_size (program []) types (ZeroAtom (place 1 1) (PairType (place 1 9) (PtrType (place 1 10) (BoolType (place 1 14))) (PairType (place 1 21) (UintType (place 1 22)) (UnitType (place 1 28))))) ≡ 10
size_of_zero = refl

-- three cells of 8 bits and a head of 2
pub size_of_memory : memory_size (program []).widths 8 ≡ 26
size_of_memory = refl
