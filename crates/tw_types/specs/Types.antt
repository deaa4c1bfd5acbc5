-- Widths, types, their sizes, and the blocks of memory.
use Rattle.std.specs.Prelude.{◌≡◌, ℕ, suc, ◌+◌, ◌-◌, ◌^◌, ◌≤◌, ◌==◌, max, Bool, true, false, ◌&&◌, List, [], ◌∷◌, refl}
use Rattle.tw_types.specs.declared.widths.TheConstants.{WORD_LIMIT, ADDR_LIMIT}

-- the widths of a word and of an address, in bits
pub record Widths : Type 0 where
  pub word : ℕ
  pub addr : ℕ

-- a word has 1 to 32 bits, and an address 1 to 8
pub record AreInRange (widths : Widths) : Type 0 where
  pub word_from : 1 ≤ widths.word
  pub word_to : widths.word ≤ WORD_LIMIT
  pub addr_from : 1 ≤ widths.addr
  pub addr_to : widths.addr ≤ ADDR_LIMIT

-- a type; a pointer has the number of its target in the list of targets
pub data Ty : Type 0 where
  UnitTy : Ty
  Word : Ty
  Boolean : Ty
  Pointer : (target : ℕ) → Ty
  PairTy : (first second : Ty) → Ty

-- the number of bits of a type
abbrev pub size : Widths → Ty → ℕ
size widths UnitTy = 0
size widths Word = widths.word
size widths Boolean = 1
size widths (Pointer target) = widths.addr
size widths (PairTy first second) = size widths first + size widths second

-- the extent: the size, but `()` counts 1
abbrev pub extent : Widths → Ty → ℕ
extent widths UnitTy = 1
extent widths Word = widths.word
extent widths Boolean = 1
extent widths (Pointer target) = widths.addr
extent widths (PairTy first second) = extent widths first + extent widths second

-- the depth: a pair is one deeper than its deeper half
abbrev pub depth : Ty → ℕ
depth (PairTy first second) = suc (max (depth first) (depth second))
depth other = 1

-- whether two types are the same
abbrev pub same_ty : Ty → Ty → Bool
same_ty UnitTy UnitTy = true
same_ty Word Word = true
same_ty Boolean Boolean = true
same_ty (Pointer target) (Pointer other) = target == other
same_ty (PairTy first second) (PairTy other last) = same_ty first other && same_ty second last
same_ty ty other = false

-- a target of pointers: its type as it is written, and the type that this denotes
pub record Target : Type 0 where
  pub written : List ℕ
  pub ty : Ty

-- the number of blocks; each address is that of a block, or 0, which is null
abbrev pub block_count : Widths → ℕ
block_count widths = 2 ^ widths.addr - 1

-- the bits of a block: enough for an address and for each target
abbrev pub block_size : Widths → List Target → ℕ
block_size widths [] = widths.addr
block_size widths (target ∷ targets) = max (size widths target.ty) (block_size widths targets)

-- three blocks of two bits, if addresses have two bits and there are no targets
pub three_blocks : block_count (record { word = 1; addr = 2 }) ≡ 3
three_blocks = refl

pub block_of_two_bits : block_size (record { word = 1; addr = 2 }) [] ≡ 2
block_of_two_bits = refl

-- a target `list`, which denotes `(uint, ptr<list>)`
abbrev item : Ty
item = PairTy Word (Pointer 0)

-- in words of 32 bits and addresses of 8, an item has 40 bits, and so has its block
pub size_of_item : size (record { word = 32; addr = 8 }) item ≡ 40
size_of_item = refl

pub block_of_item : block_size (record { word = 32; addr = 8 }) (record { written = 108 ∷ 105 ∷ 115 ∷ 116 ∷ []; ty = item } ∷ []) ≡ 40
block_of_item = refl

-- `((), (bool, ()))` has one bit and the extent 3
abbrev nested : Ty
nested = PairTy UnitTy (PairTy Boolean UnitTy)

pub size_of_nested : size (record { word = 3; addr = 2 }) nested ≡ 1
size_of_nested = refl

pub extent_of_nested : extent (record { word = 3; addr = 2 }) nested ≡ 3
extent_of_nested = refl

pub depth_of_nested : depth nested ≡ 3
depth_of_nested = refl

pub same_item : same_ty item (PairTy Word (Pointer 0)) ≡ true
same_item = refl

pub other_item : same_ty item (PairTy Word (Pointer 1)) ≡ false
other_item = refl
