-- Values, which type they have, and the bits that encode them.
use Rattle.std.specs.Prelude.{◌≡◌, ℕ, ◌^◌, ◌<◌, ◌≤◌, Bool, true, false, List, [], ◌∷◌, ◌++◌, length, refl}
use Rattle.tw_bits.specs.Numbers.{number_bits}
use Rattle.tw_types.specs.Types.{Widths, Ty, UnitTy, Word, Boolean, Pointer, PairTy, size, block_count}

-- a value: `()`, a number, a truth value, an address or a pair
pub data Value : Type 0 where
  UnitValue : Value
  Number : (n : ℕ) → Value
  Truth : (is : Bool) → Value
  Address : (block : ℕ) → Value
  PairValue : (first second : Value) → Value

-- the value has the type, at these widths: numbers fit into a word, and addresses are those of blocks or null
abbrev pub HasType : Widths → Value → Ty → Type 0
HasType widths UnitValue UnitTy = Unit {0}
HasType widths (Number n) Word = n < 2 ^ widths.word
HasType widths (Truth is) Boolean = Unit {0}
HasType widths (Address block) (Pointer target) = block ≤ block_count widths
HasType widths (PairValue x y) (PairTy first second) = HasType widths x first × HasType widths y second
HasType widths value ty = ⊥

-- `true` does not have the type of words
pub truth_is_no_word : HasType (record { word = 3; addr = 2 }) (Truth true) Word → ⊥
truth_is_no_word typed = typed

-- the zero of a type: `()`, 0, false, null, or the pair of zeros
abbrev pub zero_value : Ty → Value
zero_value UnitTy = UnitValue
zero_value Word = Number 0
zero_value Boolean = Truth false
zero_value (Pointer target) = Address 0
zero_value (PairTy first second) = PairValue (zero_value first) (zero_value second)

-- the bits of a value, least bit first, and the first half of a pair before the second
abbrev pub value_bits : Widths → Value → List Bool
value_bits widths UnitValue = []
value_bits widths (Number n) = number_bits widths.word n
value_bits widths (Truth is) = is ∷ []
value_bits widths (Address block) = number_bits widths.addr block
value_bits widths (PairValue x y) = value_bits widths x ++ value_bits widths y

-- the value is the one of the type that these bits encode
pub record IsDecoded (widths : Widths) (ty : Ty) (bits : List Bool) (value : Value) : Type 0 where
  pub typed : HasType widths value ty
  pub encodes : value_bits widths value ≡ bits
  pub only : (other : Value) → HasType widths other ty → value_bits widths other ≡ bits → other ≡ value

-- the encoding of a type is bijective: each list of as many bits as the type has encodes one value of it
abbrev pub IsBijective : Widths → Ty → Type 0
IsBijective widths ty = (bits : List Bool) → length bits ≡ size widths ty → (value : Value) × IsDecoded widths ty bits value

-- `(6, (true, &2))` in words of three bits and addresses of two
pub six_true_and_block_2 :
    value_bits (record { word = 3; addr = 2 }) (PairValue (Number 6) (PairValue (Truth true) (Address 2)))
    ≡ false ∷ true ∷ true ∷ true ∷ false ∷ true ∷ []
six_true_and_block_2 = refl

-- `((), true)` is one bit
pub unit_has_no_bits : value_bits (record { word = 3; addr = 2 }) (PairValue UnitValue (Truth true)) ≡ true ∷ []
unit_has_no_bits = refl

-- the zero of `(uint, ptr<..>)`, in as many zeros as its size
pub zero_of_item : zero_value (PairTy Word (Pointer 0)) ≡ PairValue (Number 0) (Address 0)
zero_of_item = refl

pub bits_of_zero : value_bits (record { word = 2; addr = 1 }) (zero_value (PairTy Word (Pointer 0))) ≡ false ∷ false ∷ false ∷ []
bits_of_zero = refl
