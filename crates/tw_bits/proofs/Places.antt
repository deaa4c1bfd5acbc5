-- The bit or the number at a place, from the words that hold it.
use Rattle.std.proofs.Common.{◌≡◌, ◌∙◌, ap, sym, ℕ, ◌+◌, ◌*◌, ◌/◌, ◌%◌, ◌^◌, ◌<◌, ◌≤◌, nat_eq, Bool, List, ◌++◌, length, take, drop, bit_and, bit_xor, arith}
use Rattle.std.proofs.Math.Nat.{mul_assoc, mod-lt}
use Rattle.std.proofs.lemmas.Nat.{pow-add, pow_pos, shr-shr, one_shl, shl_whole, xor_lt}
use Rattle.std.proofs.lemmas.Nat.Bits.{shr_and_one}
use Rattle.tw_bits.specs.Lists.{bit_at, flipped}
use Rattle.tw_bits.specs.Numbers.{number_bits}
use Rattle.tw_bits.proofs.Laws.{length-number_bits, number_bits-mod, number_bits-injective, bit_at-number_bits, flipped-number_bits}
use Rattle.tw_bits.proofs.Parts.{low_part, part, put_part}

-- the word of a place, and the place in that word
place : (i : ℕ) → 64 * (i / 64) + i % 64 ≡ i
place i = omega arith

-- the words from that of a place on have the part that begins there
part_of_words : (n off len many : ℕ) → off % 64 + len ≤ many → n / 2 ^ (64 * (off / 64)) % 2 ^ many / 2 ^ (off % 64) % 2 ^ len ≡ n / 2 ^ off % 2 ^ len
part_of_words n off len many inside =
    low_part (n / 2 ^ (64 * (off / 64))) many (off % 64) len inside
    ∙ ap (λ m. m % 2 ^ len) (shr-shr n (64 * (off / 64)) (off % 64) ∙ ap (λ k. n / 2 ^ k) (place off))

-- a change of the word of a place
at_place : (flips off : ℕ) → flips * 2 ^ (off % 64) * 2 ^ (64 * (off / 64)) ≡ flips * 2 ^ off
at_place flips off =
    let e : off % 64 + 64 * (off / 64) ≡ off = omega arith in
    mul_assoc flips (2 ^ (off % 64)) (2 ^ (64 * (off / 64))) ∙ ap (λ p. flips * p) (sym (pow-add 2 (off % 64) (64 * (off / 64))) ∙ ap (λ k. 2 ^ k) e)

-- a list that is the bits of a number
module _ (width n : ℕ) (bits : List Bool) (is : number_bits width n ≡ bits) where
  pub length-seen : length bits ≡ width
  length-seen = ap length (sym is) ∙ length-number_bits width n

  pub bit_read : (i word : ℕ) → i < length bits → word ≡ n / 2 ^ (64 * (i / 64)) % 2 ^ 64 → nat_eq (bit_and (word / 2 ^ (i % 64)) 1) 1 ≡ bit_at bits i
  bit_read i word inside read =
      let within : i < width = omega (arith, inside, length-seen) in
      let few : i % 64 + 1 ≤ 64 = omega arith in
      ap (λ m. nat_eq m 1) (shr_and_one word (i % 64) ∙ ap (λ w. w / 2 ^ (i % 64) % 2) read ∙ part_of_words n i 1 64 few)
      ∙ sym (bit_at-number_bits width n i within)
      ∙ ap (λ b. bit_at b i) is

  pub number_read : (off len two : ℕ) → len ≤ 64 → off + len ≤ length bits → two ≡ n / 2 ^ (64 * (off / 64)) % 2 ^ 128 → number_bits len (two / 2 ^ (off % 64) % (1 * 2 ^ len % 2 ^ 128)) ≡ take len (drop off bits)
  number_read off len two short inside read =
      let within : off + len ≤ width = omega (arith, inside, length-seen) in
      let few : off % 64 + len ≤ 128 = omega (arith, short) in
      let mask : 1 * 2 ^ len % 2 ^ 128 ≡ 2 ^ len = one_shl len 128 (omega (arith, short)) in
      ap (number_bits len) (ap (λ m. two / 2 ^ (off % 64) % m) mask ∙ ap (λ w. w / 2 ^ (off % 64) % 2 ^ len) read ∙ part_of_words n off len 128 few)
      ∙ number_bits-mod len (n / 2 ^ off)
      ∙ sym (part width off len n within)
      ∙ ap (λ b. take len (drop off b)) is

  pub bit_flipped : (i n' : ℕ) → n' ≡ bit_xor n (1 * 2 ^ (i % 64) % 2 ^ 64 * 2 ^ (64 * (i / 64))) → number_bits width n' ≡ flipped bits i
  bit_flipped i n' changed =
      let shifted : 1 * 2 ^ (i % 64) % 2 ^ 64 ≡ 1 * 2 ^ (i % 64) = one_shl (i % 64) 64 (omega arith) ∙ omega arith in
      let one : 1 * 2 ^ i ≡ 2 ^ i = omega arith in
      ap (number_bits width) (changed ∙ ap (bit_xor n) (ap (λ f. f * 2 ^ (64 * (i / 64))) shifted ∙ at_place 1 i ∙ one))
      ∙ sym (flipped-number_bits width n i)
      ∙ ap (λ b. flipped b i) is

  pub number_put : (off len value old n' : ℕ) → len ≤ 64 → off + len ≤ length bits → value < 2 ^ len → old < 2 ^ len → number_bits len old ≡ take len (drop off bits) → n' ≡ bit_xor n (bit_xor old value * 2 ^ (off % 64) % 2 ^ 128 * 2 ^ (64 * (off / 64))) → number_bits width n' ≡ take off bits ++ (number_bits len value ++ drop (off + len) bits)
  number_put off len value old n' short inside fits old_fits old_bits changed =
      let within : off + len ≤ width = omega (arith, inside, length-seen) in
      let few : len + off % 64 ≤ 128 = omega (arith, short) in
      let old_is : old ≡ n / 2 ^ off % 2 ^ len =
      number_bits-injective len old (n / 2 ^ off % 2 ^ len) old_fits (mod-lt (n / 2 ^ off) (pow_pos len))
      (old_bits ∙ ap (λ b. take len (drop off b)) (sym is) ∙ part width off len n within ∙ sym (number_bits-mod len (n / 2 ^ off))) in
      let shifted : bit_xor old value * 2 ^ (off % 64) % 2 ^ 128 ≡ bit_xor old value * 2 ^ (off % 64) = shl_whole (bit_xor old value) len (off % 64) 128 (xor_lt len old value old_fits fits) few in
      ap (number_bits width)
      (changed
      ∙ ap (bit_xor n) (ap (λ f. f * 2 ^ (64 * (off / 64))) shifted ∙ at_place (bit_xor old value) off)
      ∙ ap (λ o. bit_xor n (bit_xor o value * 2 ^ off)) old_is)
      ∙ put_part width off len n within value fits
      ∙ ap (λ b. take off b ++ (number_bits len value ++ drop (off + len) b)) is
