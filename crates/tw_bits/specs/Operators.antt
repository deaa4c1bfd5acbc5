-- The operators on numbers of a width in bits, by arithmetic on unbounded numbers.
use Rattle.std.specs.Prelude.{◌≡◌, ℕ, ◌+◌, ◌-◌, ◌*◌, ◌%◌, ◌^◌, ◌==◌, nat_lt, Bool, true, false, refl}

-- the sum, modulo 2^width
abbrev pub sum_mod : ℕ → ℕ → ℕ → ℕ
sum_mod width a b = (a + b) % 2 ^ width

-- the difference, modulo 2^width, of numbers below 2^width
abbrev pub difference_mod : ℕ → ℕ → ℕ → ℕ
difference_mod width a b = (2 ^ width + a - b) % 2 ^ width

-- the product, modulo 2^width
abbrev pub product_mod : ℕ → ℕ → ℕ → ℕ
product_mod width a b = (a * b) % 2 ^ width

-- whether the first is less
abbrev pub is_less : ℕ → ℕ → Bool
is_less a b = nat_lt a b

-- whether the two are equal
abbrev pub is_equal : ℕ → ℕ → Bool
is_equal a b = (a == b)

pub five_plus_four : sum_mod 3 5 4 ≡ 1
five_plus_four = refl

pub two_minus_five : difference_mod 3 2 5 ≡ 5
two_minus_five = refl

pub five_minus_two : difference_mod 3 5 2 ≡ 3
five_minus_two = refl

pub three_times_five : product_mod 3 3 5 ≡ 7
three_times_five = refl

pub two_is_less : is_less 2 5 ≡ true
two_is_less = refl

pub none_is_less : is_less 5 5 ≡ false
none_is_less = refl

pub five_is_five : is_equal 5 5 ≡ true
five_is_five = refl

pub five_is_not_two : is_equal 5 2 ≡ false
five_is_not_two = refl
