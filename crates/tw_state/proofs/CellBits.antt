-- The bits of cells: a block has room for them, and they are appended one after the other.
use Rattle.std.proofs.Common.{◌≡◌, ◌∙◌, ◌+◌, ◌-◌, ◌*◌, ◌^◌, ◌≤◌, ◌<◌, refl, sym, ap, subst, arith, max, ℕ, zero, suc, Bool, List, [], ◌∷◌, ◌++◌, length, drop, take, flat_map, slice_get, Option, Some, None, option_map, append-nil, append_assoc, length-append, suc-mul}
use Rattle.std.proofs.Math.Nat.{two-pow-succ}
use Rattle.std.proofs.lemmas.Nat.{pow_pos}
use Rattle.std.proofs.lemmas.Option.{none-some, slice_get_within}
use Rattle.tw_bits.specs.Writing.{written}
use Rattle.tw_types.specs.Types.{Widths, Ty, Pointer, Target, size, block_size, block_count}
use Rattle.tw_types.specs.Values.{Value, Address, HasType, value_bits}
use Rattle.tw_types.specs.Table.{ty_at}
use Rattle.tw_types.specs.declared.types.Ty as ty
use Rattle.tw_types.specs.FromCode.{ty_of}
use Rattle.tw_state.specs.Results.{Fits}
use Rattle.tw_types.proofs.Lengths.{length-value_bits, addr-le-block_size}
use Rattle.tw_state.specs.States.{Cell, Free, Live}
use Rattle.tw_state.specs.Encoding.{cell_bits}
use Rattle.tw_state.specs.EntryEncoding.{Appends}
use Rattle.tw_state.specs.TypedLists.{IsCell}
use Rattle.tw_state.proofs.Appending.{appends_written, appends_padded}
use Rattle.tw_state.proofs.Basics.{some_value}
use Rattle.tw_state.proofs.EntryNames.{dropped_at}
use Rattle.tw_state.proofs.Sizes.{size-le-block_size}

-- a target with a type is one of the list
pub target_known : (targets : List Target) (place : ℕ) (ty : Ty) → ty_at targets place ≡ Some ty → place < length targets
target_known targets place ty is = by (slice_get targets place) refl is
  where
    by : (found : Option Target) → slice_get targets place ≡ found → option_map (λ target. target.ty) found ≡ Some ty → place < length targets
    by None at is = absurd (none-some ty is)
    by (Some target) at is = slice_get_within targets place target at

module _ (widths : Widths) (targets : List Target) (at : ℕ) (old new : List Bool) (fits : at + block_size widths targets ≤ length old) where
  -- a link is appended with zeros up to the size of a block
  pub free_appended : (next : ℕ) → IsCell widths targets (Free next) → new ≡ written at (value_bits widths (Address next)) old → length new ≡ length old → Appends at (cell_bits widths targets (Free next)) old new
  free_appended next is written same =
      let len = length-value_bits widths (Address next) (Pointer 0) is in
      let room = addr-le-block_size widths targets in
      appends_padded at (block_size widths targets) (value_bits widths (Address next)) old new (omega (arith, len, room)) fits
      (appends_written at (value_bits widths (Address next)) old new written same (omega (arith, len, room, fits)))

  -- so is a value
  pub live_appended : (target : ℕ) (value : Value) (ty : Ty) → ty_at targets target ≡ Some ty → HasType widths value ty → new ≡ written at (value_bits widths value) old → length new ≡ length old → Appends at (cell_bits widths targets (Live target value)) old new
  live_appended target value ty denotes typed written same =
      let len = length-value_bits widths value ty typed in
      let room = size-le-block_size widths targets target ty denotes in
      appends_padded at (block_size widths targets) (value_bits widths value) old new (omega (arith, len, room)) fits
      (appends_written at (value_bits widths value) old new written same (omega (arith, len, room, fits)))

-- the greatest size so far, and those of the other targets
pub one_target_more : (widths : Widths) (targets : List Target) (place most : ℕ) (ty : Ty) → ty_at targets place ≡ Some ty → max most (block_size widths (drop place targets)) ≡ max (max most (size widths ty)) (block_size widths (drop (place + 1) targets))
one_target_more widths targets place most ty is = by (slice_get targets place) refl is
  where
    by : (found : Option Target) → slice_get targets place ≡ found → option_map (λ target. target.ty) found ≡ Some ty
        → max most (block_size widths (drop place targets)) ≡ max (max most (size widths ty)) (block_size widths (drop (place + 1) targets))
    by None at is = absurd (none-some ty is)
    by (Some target) at is =
        ap (λ rest. max most (block_size widths rest)) (dropped_at targets place target at)
        ∙ ap (λ t. max most (max (size widths t) (block_size widths (drop (place + 1) targets)))) (some_value is)
        ∙ omega arith

pub greatest_first : (widths : Widths) (targets : List Target) → max widths.addr (block_size widths targets) ≡ block_size widths targets
greatest_first widths targets = let room = addr-le-block_size widths targets in omega (arith, room)

-- the lists that the first elements give, with those of one more
pub one_more_given : {A B : Type 0} (f : A → List B) (xs : List A) (i : ℕ) (x : A) → slice_get xs i ≡ Some x → flat_map f (take (i + 1) xs) ≡ flat_map f (take i xs) ++ f x
one_more_given f [] i x found = absurd (none-some x found)
one_more_given f (y ∷ xs) zero x found = append-nil (f y) ∙ ap f (some_value found)
one_more_given f (y ∷ xs) (suc i) x found =
    let one : suc i + 1 ≡ suc (i + 1) = omega arith in
    ap (λ n. flat_map f (take n (y ∷ xs))) one ∙ ap (λ rest. f y ++ rest) (one_more_given f xs i x found) ∙ sym (append_assoc (f y) (flat_map f (take i xs)) (f x))

-- a cell more: the place after it, and the room for the others
pub one_fewer_left : (widths : Widths) (targets : List Target) (cells : List Cell) (i next whole : ℕ) (cell : Cell) → slice_get cells i ≡ Some cell → next + length (drop i cells) * block_size widths targets ≡ whole
    → (next + block_size widths targets) + length (drop (i + 1) cells) * block_size widths targets ≡ whole
one_fewer_left widths targets cells i next whole cell found left =
    let size = block_size widths targets in
    let rest : length (drop i cells) * size ≡ size + length (drop (i + 1) cells) * size = ap (λ (cs : List Cell). length cs * size) (dropped_at cells i cell found) ∙ suc-mul (length (drop (i + 1) cells)) size ∙ omega arith in
    omega (arith, left, rest)

-- a value of a type that is found has as many bits as the type
pub value_length : (widths at_widths : Widths) (found : Option ty.Ty) (is_ty : ty.Ty) (wanted : Option Ty) (value : Value) → at_widths ≡ widths → found ≡ Some is_ty → option_map ty_of found ≡ wanted → Fits widths wanted (Some value)
    → length (value_bits widths value) ≡ size at_widths (ty_of is_ty)
value_length widths at_widths found is_ty wanted value same is are fits =
    length-value_bits widths value (ty_of is_ty) (subst (λ o. Fits widths o (Some value)) (sym are ∙ ap (option_map ty_of) is) fits) ∙ ap (λ w. size w (ty_of is_ty)) (sym same)

-- what an element gives is a part of the whole
pub given_within : {A B : Type 0} (f : A → List B) (xs : List A) (i : ℕ) (x : A) → slice_get xs i ≡ Some x → length (flat_map f (take i xs)) + length (f x) ≤ length (flat_map f xs)
given_within f [] i x found = absurd (none-some x found)
given_within f (y ∷ xs) zero x found =
    let here : length (f y) ≡ length (f x) = ap (λ z. length (f z)) (some_value found) in
    let all = length-append (f y) (flat_map f xs) in
    let none : length (flat_map f (take 0 (y ∷ xs))) ≡ 0 = refl in
    omega (arith, here, all, none)
given_within f (y ∷ xs) (suc i) x found =
    let rest = given_within f xs i x found in
    let all = length-append (f y) (flat_map f xs) in
    let some = length-append (f y) (flat_map f (take i xs)) in
    omega (arith, rest, all, some)

-- there are blocks, if an address has bits
pub some_blocks : (widths : Widths) → 0 < widths.addr → 0 < block_count widths
some_blocks widths above = by widths.addr above
  where
    by : (addr : ℕ) → 0 < addr → 0 < 2 ^ addr - 1
    by zero above = absurd (omega (arith, above))
    by (suc k) above =
        let one = pow_pos k in
        let twice = two-pow-succ k in
        omega (arith, one, twice)
