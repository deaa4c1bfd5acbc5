-- The number of bits of the memory and the variables of a typed state.
use Rattle.std.proofs.Common.{◌≡◌, ℕ, zero, suc, ◌+◌, ◌*◌, ◌≤◌, List, [], ◌∷◌, length, flat_map, Some, arith, length-append, suc-mul}
use Rattle.std.specs.List.{AllByRecursion}
use Rattle.tw_types.specs.Types.{Widths, Ty, Target, size, block_count, block_size}
use Rattle.tw_bits.specs.Numbers.{number_bits}
use Rattle.tw_bits.proofs.Laws.{length-number_bits}
use Rattle.tw_types.specs.Table.{ty_at}
use Rattle.tw_types.specs.Values.{value_bits}
use Rattle.tw_bits.proofs.Writings.{length-padded}
use Rattle.tw_types.proofs.Lengths.{length-value_bits, addr-le-block_size}
use Rattle.tw_state.specs.States.{Cell, Free, Live, Store, State}
use Rattle.tw_state.specs.TypedLists.{IsCell}
use Rattle.tw_state.specs.Encoding.{cell_bits, memory_bits}
use Rattle.tw_state.proofs.Variables.{Variable, HasVariable, variable_bits}

-- a target's type fits into a block
pub size-le-block_size : (widths : Widths) (targets : List Target) (place : ℕ) (ty : Ty) → ty_at targets place ≡ Some ty → size widths ty ≤ block_size widths targets
size-le-block_size widths [] place ty known = cc
size-le-block_size widths (target ∷ targets) zero ty known = let same : target.ty ≡ ty = cc in rw (← same) (omega arith)
size-le-block_size widths (target ∷ targets) (suc place) ty known =
    let rest = size-le-block_size widths targets place ty known in omega arith

-- a cell of the program fills its block
pub length-cell_bits : (widths : Widths) (targets : List Target) (cell : Cell) → IsCell widths targets cell → length (cell_bits widths targets cell) ≡ block_size widths targets
length-cell_bits widths targets (Free next) is =
    length-padded (block_size widths targets) (number_bits widths.addr next)
    (rw (length-number_bits widths.addr next) (addr-le-block_size widths targets))
length-cell_bits widths targets (Live target value) is =
    length-padded (block_size widths targets) (value_bits widths value)
    (rw (length-value_bits widths value is.0 is.2) (size-le-block_size widths targets target is.0 is.1))

-- cells of the program fill their blocks
length-cells_bits : (widths : Widths) (targets : List Target) (cells : List Cell) → AllByRecursion (IsCell widths targets) cells → length (flat_map (cell_bits widths targets) cells) ≡ length cells * block_size widths targets
length-cells_bits widths targets [] all = omega arith
length-cells_bits widths targets (cell ∷ cells) all =
    rw (length-append, length-cell_bits widths targets cell all.0, length-cells_bits widths targets cells all.1, suc-mul) (omega arith)

-- the head and the cells of the program, one for each block, have their whole length
pub length-memory_bits : (widths : Widths) (targets : List Target) (state : State) → AllByRecursion (IsCell widths targets) state.cells → length state.cells ≡ block_count widths → length (memory_bits widths targets state) ≡ widths.addr + block_count widths * block_size widths targets
length-memory_bits widths targets state all counted =
    rw (length-append, length-number_bits widths.addr state.head, length-cells_bits widths targets state.cells all, counted)

-- a variable that a store has fills as many bits as its type
pub length-variable_bits : (widths : Widths) (store : Store) (variable : Variable) → HasVariable widths store variable → length (variable_bits widths store variable) ≡ size widths variable.ty
length-variable_bits widths store variable has = rw has.1 (length-value_bits widths has.0 variable.ty has.2)
