-- Parts of a number's bits, read and written.
use Rattle.std.proofs.Common.{◌≡◌, ◌∙◌, ap, sym, ℕ, ◌+◌, ◌-◌, ◌*◌, ◌/◌, ◌%◌, ◌^◌, ◌<◌, ◌≤◌, ◌++◌, take, drop, bit_xor, arith}
use Rattle.std.proofs.Math.Nat.{mod-eq_of_lt, div-eq_of_lt, mul-mod_left, mod-lt}
use Rattle.std.proofs.Math.Pow.{mod-mod-pow}
use Rattle.std.specs.Int.Bits.{xor_assoc, xor_self, xor_zero_l, xor_zero_r}
use Rattle.std.proofs.lemmas.Nat.{field_of, shl-shr, xor_mod, xor_shr, xor_lt, pow_pos}
use Rattle.std.proofs.lemmas.List.{take_at, drop_at, drop-drop}
use Rattle.tw_bits.specs.Numbers.{number_bits}
use Rattle.tw_bits.proofs.Laws.{length-number_bits, number_bits-mod, number_bits-add}

-- the value of a part does not depend on the bits after it
pub low_part : (n whole off len : ℕ) → off + len ≤ whole → n % 2 ^ whole / 2 ^ off % 2 ^ len ≡ n / 2 ^ off % 2 ^ len
low_part n whole off len inside =
    let rest : ℕ = whole - (off + len) in
    let e : whole ≡ (rest + len) + off = omega arith in
    ap (λ w. n % 2 ^ w / 2 ^ off % 2 ^ len) e
    ∙ ap (λ m. m % 2 ^ len) (field_of n (rest + len) off)
    ∙ mod-mod-pow (n / 2 ^ off) rest len

-- the bits in three parts
in_three : (off len rest n : ℕ) → number_bits (off + (len + rest)) n ≡ number_bits off n ++ (number_bits len (n / 2 ^ off) ++ number_bits rest (n / 2 ^ off / 2 ^ len))
in_three off len rest n = number_bits-add off (len + rest) n ∙ ap (λ bits. number_bits off n ++ bits) (number_bits-add len rest (n / 2 ^ off))

module _ (width off len n : ℕ) (inside : off + len ≤ width) where
  rest : ℕ
  rest = width - (off + len)

  whole : width ≡ off + (len + rest)
  unfolding rest
  whole = omega arith

  front : take off (number_bits width n) ≡ number_bits off n
  front = ap (λ w. take off (number_bits w n)) whole ∙ ap (take off) (in_three off len rest n) ∙ take_at _ _ off (length-number_bits off n)

  behind : drop off (number_bits width n) ≡ number_bits len (n / 2 ^ off) ++ number_bits rest (n / 2 ^ off / 2 ^ len)
  behind = ap (λ w. drop off (number_bits w n)) whole ∙ ap (drop off) (in_three off len rest n) ∙ drop_at _ _ off (length-number_bits off n)

  -- the bits of a part
  pub part : take len (drop off (number_bits width n)) ≡ number_bits len (n / 2 ^ off)
  part = ap (take len) behind ∙ take_at _ _ len (length-number_bits len (n / 2 ^ off))

  back : drop (off + len) (number_bits width n) ≡ number_bits rest (n / 2 ^ off / 2 ^ len)
  back = sym (drop-drop len off (number_bits width n)) ∙ ap (drop len) behind ∙ drop_at _ _ len (length-number_bits len (n / 2 ^ off))

  -- the bits after a part is changed by `^` into a value
  pub put_part : (value : ℕ) → value < 2 ^ len → number_bits width (bit_xor n (bit_xor (n / 2 ^ off % 2 ^ len) value * 2 ^ off)) ≡ take off (number_bits width n) ++ (number_bits len value ++ drop (off + len) (number_bits width n))
  put_part value fits =
      let old : ℕ = n / 2 ^ off % 2 ^ len in
      let changes : ℕ = bit_xor old value in
      let new : ℕ = bit_xor n (changes * 2 ^ off) in
      let few : changes < 2 ^ len = xor_lt len old value (mod-lt (n / 2 ^ off) (pow_pos len)) fits in
      let low : new % 2 ^ off ≡ n % 2 ^ off = xor_mod n (changes * 2 ^ off) off ∙ ap (bit_xor (n % 2 ^ off)) (mul-mod_left changes (2 ^ off)) ∙ xor_zero_r (n % 2 ^ off) in
      let high : new / 2 ^ off ≡ bit_xor (n / 2 ^ off) changes = xor_shr n (changes * 2 ^ off) off ∙ ap (bit_xor (n / 2 ^ off)) (shl-shr changes off) in
      let changed : bit_xor (n / 2 ^ off) changes % 2 ^ len ≡ value =
      xor_mod (n / 2 ^ off) changes len
      ∙ ap (bit_xor old) (mod-eq_of_lt few)
      ∙ sym (xor_assoc old old value)
      ∙ ap (λ m. bit_xor m value) (xor_self old)
      ∙ xor_zero_l value in
      let kept : bit_xor (n / 2 ^ off) changes / 2 ^ len ≡ n / 2 ^ off / 2 ^ len =
      xor_shr (n / 2 ^ off) changes len ∙ ap (bit_xor (n / 2 ^ off / 2 ^ len)) (div-eq_of_lt few) ∙ xor_zero_r (n / 2 ^ off / 2 ^ len) in
      let front_kept : number_bits off new ≡ take off (number_bits width n) = sym (number_bits-mod off new) ∙ ap (number_bits off) low ∙ number_bits-mod off n ∙ sym front in
      let part_changed : number_bits len (new / 2 ^ off) ≡ number_bits len value = ap (number_bits len) high ∙ sym (number_bits-mod len (bit_xor (n / 2 ^ off) changes)) ∙ ap (number_bits len) changed in
      let back_kept : number_bits rest (new / 2 ^ off / 2 ^ len) ≡ drop (off + len) (number_bits width n) = ap (λ m. number_bits rest (m / 2 ^ len)) high ∙ ap (number_bits rest) kept ∙ sym back in
      ap (λ w. number_bits w new) whole ∙ in_three off len rest new ∙ (λ i. front_kept i ++ (part_changed i ++ back_kept i))
