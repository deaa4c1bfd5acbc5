-- How many gates expressions, swaps and allocations take, by their numbers of controls. No wire occurs here.
use Rattle.std.specs.Prelude.{◌≡◌, ℕ, zero, suc, ◌+◌, ◌-◌, ◌*◌, ◌^◌, ◌==◌, max, Bool, true, false, if◌then◌else◌, List, [], ◌∷◌, ◌++◌, map, refl}

-- a number of gates with this number of controls each
pub record Row : Type 0 where
  pub gates : ℕ
  pub controls : ℕ

abbrev pub row : ℕ → ℕ → Row
row gates controls = record { gates = gates; controls = controls }

-- how many gates of this number of controls the rows have
abbrev pub gates_in : List Row → ℕ → ℕ
gates_in [] wanted = 0
gates_in (first ∷ rows) wanted = (if first.controls == wanted then first.gates else 0) + gates_in rows wanted

-- rows that are computed and uncomputed
abbrev pub twice : List Row → List Row
twice rows = rows ++ rows

-- an operand: a path of this number of bits, or a constant of which this number of bits are 1
pub data Load : Type 0 where
  Copied : (bits : ℕ) → Load
  Flipped : (ones : ℕ) → Load

-- how many bits are 1
abbrev pub ones : List Bool → ℕ
ones [] = 0
ones (true ∷ bits) = suc (ones bits)
ones (false ∷ bits) = ones bits

-- an operand, loaded under this number of controls
abbrev pub load_rows : Load → ℕ → List Row
load_rows (Copied bits) under = row bits (1 + under) ∷ []
load_rows (Flipped ones) under = row ones under ∷ []

-- a pair: both halves, under the controls
abbrev pub pair_rows : Load → Load → ℕ → List Row
pair_rows x y under = load_rows x under ++ load_rows y under

-- two operands, loaded into scratch without controls, and uncomputed
abbrev pub both_loads : Load → Load → List Row
both_loads x y = twice (pair_rows x y 0)

abbrev pub not_rows : Load → ℕ → List Row
not_rows x under = twice (load_rows x 0) ++ (row 2 0 ∷ row 1 (1 + under) ∷ [])

abbrev pub and_rows : Load → Load → ℕ → List Row
and_rows x y under = both_loads x y ++ (row 1 (2 + under) ∷ [])

abbrev pub or_rows : Load → Load → ℕ → List Row
or_rows x y under = both_loads x y ++ (row 4 0 ∷ row 1 (2 + under) ∷ row 1 under ∷ [])

-- operands of this number of bits
abbrev pub eq_rows : ℕ → Load → Load → ℕ → List Row
eq_rows bits x y under = both_loads x y ++ (row (2 * bits) 1 ∷ row (2 * bits) 0 ∷ row 1 (bits + under) ∷ [])

abbrev pub ne_rows : ℕ → Load → Load → ℕ → List Row
ne_rows bits x y under = eq_rows bits x y under ++ (row 1 under ∷ [])

-- the Toffoli gates of the carries of a sum of this number of bits, without a carry into the first
abbrev pub carry_gates : ℕ → ℕ
carry_gates bits = 3 * bits - 5

-- the Toffoli gates of a product for the bits of the right operand after the first: for each, a row of products and its carries
abbrev pub product_gates : ℕ → ℕ
product_gates zero = 0
product_gates (suc bits) = bits + carry_gates bits + product_gates bits

-- operands of words of this number of bits
abbrev pub add_rows : ℕ → Load → Load → ℕ → List Row
add_rows word x y under = both_loads x y ++ (row (2 * carry_gates word) 2 ∷ row (2 * (2 * word - 1)) 1 ∷ row word (1 + under) ∷ [])

abbrev pub sub_rows : ℕ → Load → Load → ℕ → List Row
sub_rows word x y under = both_loads x y ++ (row (2 * (word + 1)) 0 ∷ row (6 * (word - 1)) 2 ∷ row (4 * word) 1 ∷ row word (1 + under) ∷ [])

abbrev pub lt_rows : ℕ → Load → Load → ℕ → List Row
lt_rows word x y under = both_loads x y ++ (row (2 * (word + 2)) 0 ∷ row (6 * word) 2 ∷ row 1 (1 + under) ∷ [])

abbrev pub mul_rows : ℕ → Load → Load → ℕ → List Row
mul_rows word x y under = both_loads x y ++ (row (2 * (word + product_gates word)) 2 ∷ row (2 * (word - 1) ^ 2) 1 ∷ row word (1 + under) ∷ [])

-- an exchange of two regions of this number of bits
abbrev pub swap_rows : ℕ → ℕ → List Row
swap_rows bits under = row (2 * bits) 1 ∷ row bits (1 + under) ∷ []

-- the address bits that are 0 in the numbers of all blocks, with addresses of this number of bits
abbrev pub zero_bits : ℕ → ℕ
zero_bits addr = addr * 2 ^ (addr - 1) - addr

-- an exchange of this number of bits with the block that an address leads to: each block is selected, and exchanged if it is the one
abbrev pub mem_swap_rows : ℕ → ℕ → ℕ → List Row
mem_swap_rows addr zero under = []
mem_swap_rows addr (suc bits) under =
    let blocks = 2 ^ addr - 1 in
    row (2 * zero_bits addr) 0 ∷ row (2 * blocks) addr ∷ row (2 * blocks * suc bits) 1 ∷ row (blocks * suc bits) (2 + under) ∷ []

-- an allocation: the head is exchanged with the target, and then with the link of the block
abbrev pub alloc_rows : ℕ → ℕ → List Row
alloc_rows addr under = swap_rows addr under ++ mem_swap_rows addr addr under

-- the sum of a weight over all gates of the rows; the weight of a gate is that of its number of controls
abbrev pub total : (ℕ → ℕ) → List Row → ℕ
total weight [] = 0
total weight (first ∷ rows) = first.gates * weight first.controls + total weight rows

-- the greatest number of controls of a gate of the rows; 0 without gates
abbrev pub most_controls : List Row → ℕ
most_controls [] = 0
most_controls (first ∷ rows) = max (if first.gates == 0 then 0 else first.controls) (most_controls rows)

-- a word of two bits minus one, and whether it is less; and a product of words of three bits
abbrev two : Load
two = Copied 2

pub total-sub : (total (λ controls. 1) (sub_rows 2 two two 0) ≡ 30) × (gates_in (sub_rows 2 two two 0) 2 ≡ 6)
total-sub = (refl, refl)

pub total-lt : (total (λ controls. 1) (lt_rows 2 two two 0) ≡ 29) × (gates_in (lt_rows 2 two two 0) 2 ≡ 12)
total-lt = (refl, refl)

pub total-mul : (total (λ controls. 1) (mul_rows 3 (Copied 3) (Copied 3) 0) ≡ 37) × (gates_in (mul_rows 3 (Copied 3) (Copied 3) 0) 2 ≡ 14)
total-mul = (refl, refl)

-- `x + 1` on words of two bits, under two controls: of the constant one bit is loaded
pub rows-add : map (gates_in (add_rows 2 two (Flipped 1) 2)) (0 ∷ 1 ∷ 2 ∷ 3 ∷ []) ≡ 2 ∷ 10 ∷ 2 ∷ 2 ∷ []
rows-add = refl

-- an exchange of 2,048 bits with one of 255 blocks
pub total-mem_swap : (total (λ controls. 1) (mem_swap_rows 8 2048 0) ≡ 1569262) × (most_controls (mem_swap_rows 8 2048 0) ≡ 8)
total-mem_swap = (refl, refl)

-- an exchange of nothing
pub rows-mem_swap_nothing : mem_swap_rows 8 0 3 ≡ []
rows-mem_swap_nothing = refl

-- an allocation with addresses of two bits has 34 gates, 12 of two controls
pub total-alloc : (total (λ controls. 1) (alloc_rows 2 0) ≡ 34) × (gates_in (alloc_rows 2 0) 2 ≡ 12)
total-alloc = (refl, refl)

-- two operands of 65 bits: 65 controls
pub most-eq : most_controls (eq_rows 65 (Copied 65) (Copied 65) 0) ≡ 65
most-eq = refl
